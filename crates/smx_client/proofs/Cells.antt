-- Cells of the turn's table.
use Rattle.std.proofs.Common.{◌≡◌, ◌≢◌, ℕ, Bool, true, false, List, [], ◌∷◌, ◌++◌, sym, ◌∙◌, ap, refl, subst, true≢false, Result, Option, None, IsSome, is_some, length, ◌≤◌}
use Rattle.std.specs.Prelude.{if◌then◌else◌, ◌==◌, ◌+◌}
use Rattle.std.proofs.lemmas.Bool.{eq-eqb}
use Rattle.std.specs.declared.snapshot.Snapshot.{Snapshot}
use Rattle.smx_pdu.specs.declared.pdu.Pdu.{Pdu}
use Rattle.smx_lock.specs.declared.faults.Spent.{Spent}
use Rattle.smx_box.specs.declared.fault.Spent.{Spent as BoxSpent}
use Rattle.smx_box.specs.declared.receiver.Got.{Got}
use Rattle.smx_session.specs.declared.kind.Kind.{Kind}
use Rattle.smx_session.specs.declared.kind.Kind.TheVariants as kind
use Rattle.smx_session.specs.declared.act.Act.{Act}
use Rattle.smx_session.specs.declared.ask.Ask.{Ask}
use Rattle.smx_session.specs.declared.ask.Ask.TheVariants as leave
use Rattle.smx_session.specs.declared.enquiry.Enquiry.{Enquiry}
use Rattle.smx_shared.specs.declared.offer.Offer.{Offer}
use Rattle.smx_shared.specs.declared.fault.SubmitFault.{SubmitFault}
use Rattle.smx_shared.specs.declared.batch.Collected.{Collected as Batch}
use Rattle.smx_shared.specs.declared.batch.Landing.{Landing}
use Rattle.std.specs.Global.{Vec}
use Rattle.smx_link.specs.declared.link.Polled.{Polled}
use Rattle.smx_link.specs.declared.link.LinkFault.{LinkFault}
use Rattle.smx_turns.specs.declared.gate.Point.TheVariants.{Reading, Binding, Refusing, Admitting, Submitting, Collecting}
use Rattle.smx_turns.specs.declared.end.Fault.{Fault}
use Rattle.smx_turns.specs.declared.end.Fault.TheVariants as fault
use Rattle.smx_turns.specs.declared.end.TurnEnd.{TurnEnd}
use Rattle.smx_turns.specs.declared.end.TurnEnd.TheVariants.{Worked, Done}
use Rattle.smx_turns.specs.declared.mo_item.MoItem.{MoItem}
use Rattle.smx_turns.specs.declared.step.Step.TheVariants.{Asked, Read, Marked, Did}
use Rattle.smx_client.specs.declared.stage.Stage.{Stage}
use Rattle.smx_client.specs.declared.stage.Stage.TheVariants.{Open, Drained, Closed}
use Rattle.smx_turns.specs.declared.mark.Mark.TheVariants.{Offered, WriteFailed, Waited, NoRoom, Part, Entered, Full as Clogs}
use Rattle.smx_client.specs.declared.reply.Reply.{Reply}
use Rattle.smx_client.specs.declared.event.Event.TheVariants.{Decided, Broke, Collected, PutAgain, Heard, Expired, Looked, Forwarded, LinkEnded, Got as Fetched}
use Rattle.smx_client.specs.declared.event.Fate.TheVariants.{Submitted, Barred, Settled as Settles}
use Rattle.smx_client.specs.declared.event.Delivery.{Delivery}
use Rattle.smx_client.specs.declared.event.Progress.{Progress}
use Rattle.smx_client.specs.declared.event.Progress.TheVariants as progress
use Rattle.smx_client.specs.declared.reply.Parked.{Parked as Answer}
use Rattle.smx_frame.specs.Stream.{HasNone}
use Rattle.smx_shared.specs.Views.{PortView}
use Rattle.smx_turns.specs.Rounds.{last_end}
use Rattle.smx_turns.specs.Wires.{some_wait}
use Rattle.smx_turns.proofs.Logged.{phase_push}
use Rattle.smx_client.specs.Table.{Before, Phase, Opening, AtLane, MayCollect, Clear, Draining, MayRead, Hearing, Ageing, Looking, Gone, Deciding, MayBind, MayRefuse, Admitted, Barring, MaySubmit, when_admitted, when_listed, Unentered, Settled, Stopped, Clogged, Closing, Ending, Over, Failed, Wrong, step_of, phase_of, go, from_opening, when_offered, when_written, halts, from_lane, when_may_collect, from_boxing, from_collecting, from_draining, from_clear, from_may_read, from_hearing, from_ageing, from_looking, from_deciding, from_admitted, from_listed, from_barring, from_may_submit, from_entering, from_closing, is_same_leave, after_reply, after_got, after_collect, after_read, after_expired, is_given_at, after_look, after_bind, Faulted, EndsIn, Stands, IsAt}

-- one step more
pub phase_more : (t : Before) (ss ss' : List step_of) (s : step_of) (p : Phase) → ss' ≡ ss ++ s ∷ [] → phase_of t ss ≡ p → phase_of t ss' ≡ go t p s
unfolding phase_of
phase_more t ss ss' s p more was = phase_push (go t) Opening ss ss' s p (go t p s) more refl was

pub phase_first : (t : Before) (ss : List step_of) → ss ≡ [] → phase_of t ss ≡ Opening
unfolding phase_of
phase_first t ss none = ap (phase_of t) none

module _ (t : Before) where
  pub opened : (waited wrote left : Bool) → go t Opening (Marked (Offered waited wrote left)) ≡ when_offered t left
  unfolding go from_opening
  opened waited wrote left = refl

  pub unopened : go t Opening (Marked WriteFailed) ≡ Failed
  unfolding go from_opening
  unopened = refl

  pub asks_lane : (n : ℕ) (answer : Bool) → go t (AtLane n) (Asked (Collecting n) answer) ≡ when_may_collect n answer
  unfolding go from_lane
  asks_lane n answer = ap (λ b. if b then when_may_collect n answer else Wrong) (eq-eqb n n refl)

  pub clogs_collect : (n : ℕ) → go t (MayCollect n) (Marked Clogs) ≡ Clogged
  unfolding go from_collecting
  clogs_collect n = refl

  pub collects : (n : ℕ) (r : Snapshot (Result Batch Spent)) (x : Result Batch Spent) → r.value ≡ x → go t (MayCollect n) (Did (Collected n r)) ≡ after_collect n x
  unfolding go from_collecting
  collects n r x is = ap (λ o. if n == n then after_collect n o else Wrong) is ∙ ap (λ b. if b then after_collect n x else Wrong) (eq-eqb n n refl)

  puts_again : (b : Bool) (lane : ℕ) (reply : Reply) → b ≡ true → (if t.lanes == t.lanes then from_boxing t.now b (Did (PutAgain lane reply)) else Wrong) ≡ after_reply Clear reply
  unfolding from_boxing
  puts_again b lane reply waits =
      ap (λ c. if c then from_boxing t.now b (Did (PutAgain lane reply)) else Wrong) (eq-eqb t.lanes t.lanes refl) ∙ ap (λ c. from_boxing t.now c (Did (PutAgain lane reply))) waits

  pub boxed_again : (lane : ℕ) (reply : Reply) → t.parked ≡ true → go t (AtLane t.lanes) (Did (PutAgain lane reply)) ≡ after_reply Clear reply
  unfolding go from_lane
  boxed_again lane reply waits = puts_again t.parked lane reply waits

  gets : (b : Bool) (r : Snapshot (Result (Got MoItem) BoxSpent)) (d : Delivery) → b ≡ false → is_given_at t.now d ≡ true → (if t.lanes == t.lanes then from_boxing t.now b (Did (Fetched r d)) else Wrong) ≡ after_got r.value d
  unfolding from_boxing
  gets b r d none given =
      ap (λ c. if c then from_boxing t.now b (Did (Fetched r d)) else Wrong) (eq-eqb t.lanes t.lanes refl) ∙ ap (λ c. from_boxing t.now c (Did (Fetched r d))) none
      ∙ ap (λ c. if c then after_got r.value d else Wrong) given

  pub boxed_got : (r : Snapshot (Result (Got MoItem) BoxSpent)) (d : Delivery) → t.parked ≡ false → is_given_at t.now d ≡ true → go t (AtLane t.lanes) (Did (Fetched r d)) ≡ after_got r.value d
  unfolding go from_lane
  boxed_got r d none given = gets t.parked r d none given

  full : (b : Bool) → b ≡ false → (if t.lanes == t.lanes then from_boxing t.now b (Marked NoRoom) else Wrong) ≡ Clear
  unfolding from_boxing
  full b none = ap (λ c. if c then from_boxing t.now b (Marked NoRoom) else Wrong) (eq-eqb t.lanes t.lanes refl) ∙ ap (λ c. from_boxing t.now c (Marked NoRoom)) none

  pub boxed_full : t.parked ≡ false → go t (AtLane t.lanes) (Marked NoRoom) ≡ Clear
  unfolding go from_lane
  boxed_full none = full t.parked none

  clogged : (b : Bool) → b ≡ false → (if t.lanes == t.lanes then from_boxing t.now b (Marked Clogs) else Wrong) ≡ Clogged
  unfolding from_boxing
  clogged b none = ap (λ c. if c then from_boxing t.now b (Marked Clogs) else Wrong) (eq-eqb t.lanes t.lanes refl) ∙ ap (λ c. from_boxing t.now c (Marked Clogs)) none

  pub boxed_clogged : t.parked ≡ false → go t (AtLane t.lanes) (Marked Clogs) ≡ Clogged
  unfolding go from_lane
  boxed_clogged none = clogged t.parked none

  pub drained_again : (lane : ℕ) (reply : Reply) → go t Draining (Did (PutAgain lane reply)) ≡ after_reply (Deciding true) reply
  unfolding go from_draining
  drained_again lane reply = refl

  pub yes_read : go t Clear (Asked Reading true) ≡ MayRead
  unfolding go from_clear
  yes_read = refl

  pub no_read : go t Clear (Asked Reading false) ≡ Stopped
  unfolding go from_clear
  no_read = refl

  pub waited : t.settled ≡ false → go t MayRead (Marked Waited) ≡ Deciding false
  unfolding go from_may_read
  waited some = ap (λ b. from_may_read t b (Marked Waited)) some

  pub came : (answer : Result Polled LinkFault) → t.settled ≡ true → go t MayRead (Read answer) ≡ after_read t answer
  unfolding go from_may_read
  came answer none = ap (λ b. from_may_read t b (Read answer)) none

  hears : (at now : ℕ) → at ≡ now → from_hearing now (Did (Heard at)) ≡ Deciding false
  unfolding from_hearing
  hears at now is = ap (λ b. if b then Deciding false else Wrong) (eq-eqb at now is)

  pub heard : (now : ℕ) → t.now ≡ now → go t Hearing (Did (Heard now)) ≡ Deciding false
  unfolding go
  heard now is = hears now t.now (sym is)

  pub expires : (until : ℕ) (found : Option (ℕ × ℕ × ℕ)) (reply : Reply) → until + t.message_time ≡ t.now → go t Ageing (Did (Expired until found reply)) ≡ after_expired found reply
  unfolding go from_ageing
  expires until found reply is = ap (λ b. if b then after_expired found reply else Wrong) (eq-eqb (until + t.message_time) t.now is)

  pub clogs_look : go t Looking (Marked Clogs) ≡ Clogged
  unfolding go from_looking
  clogs_look = refl

  looks : (at now : ℕ) (e : Snapshot Enquiry) (x : Enquiry) → at ≡ now → e.value ≡ x → from_looking now (Did (Looked at e)) ≡ after_look x
  unfolding from_looking
  looks at now e x is seen = ap (λ b. if b then after_look e.value else Wrong) (eq-eqb at now is) ∙ ap after_look seen

  pub looked : (now : ℕ) (e : Snapshot Enquiry) (x : Enquiry) → t.now ≡ now → e.value ≡ x → go t Looking (Did (Looked now e)) ≡ after_look x
  unfolding go
  looked now e x is seen = looks now t.now e x (sym is) seen

  pub clogs_decide : (ended : Bool) → go t (Deciding ended) (Marked Clogs) ≡ Clogged
  unfolding go from_deciding
  clogs_decide ended = refl

  pub yes_bind : (ended : Bool) (i : ℕ) → go t (Deciding ended) (Asked (Binding i) true) ≡ MayBind ended i
  unfolding go from_deciding
  yes_bind ended i = refl

  pub no_bind : (ended : Bool) (i : ℕ) → go t (Deciding ended) (Asked (Binding i) false) ≡ Barring ended (leave.Bind i)
  unfolding go from_deciding
  no_bind ended i = refl

  pub yes_refuse : (ended : Bool) → go t (Deciding ended) (Asked Refusing true) ≡ MayRefuse ended
  unfolding go from_deciding
  yes_refuse ended = refl

  pub no_refuse : (ended : Bool) → go t (Deciding ended) (Asked Refusing false) ≡ Stopped
  unfolding go from_deciding
  no_refuse ended = refl

  pub yes_submit : (ended : Bool) → go t (Deciding ended) (Asked Submitting true) ≡ MaySubmit ended
  unfolding go from_deciding
  yes_submit ended = refl

  pub no_submit : (ended : Bool) → go t (Deciding ended) (Asked Submitting false) ≡ Stopped
  unfolding go from_deciding
  no_submit ended = refl

  pub yes_admit : (ended : Bool) → go t (MaySubmit ended) (Asked Admitting true) ≡ Admitted ended 1
  unfolding go from_may_submit
  yes_admit ended = refl

  pub no_admit : (ended : Bool) → go t (MaySubmit ended) (Asked Admitting false) ≡ Barring ended leave.Request
  unfolding go from_may_submit
  no_admit ended = refl

  pub more_admit : (ended : Bool) (n : ℕ) (answer : Bool) → go t (Admitted ended n) (Asked Admitting answer) ≡ when_admitted ended n answer
  unfolding go from_admitted
  more_admit ended n answer = refl

  same_leave : (l : Ask) → is_same_leave l l ≡ true
  same_leave (leave.Bind i) = eq-eqb i i refl
  same_leave leave.RefusedBind = refl
  same_leave leave.Request = refl

  pub barred : (ended : Bool) (l : Ask) (p : Snapshot Pdu) (a : Snapshot Act) → go t (Barring ended l) (Did (Decided p a (Barred l))) ≡ Deciding ended
  unfolding go from_barring
  barred ended l p a = ap (λ b. if b then Deciding ended else Wrong) (same_leave l)

  pub broke : (ended : Bool) (a : Snapshot Act) → go t (Deciding ended) (Did (Broke a)) ≡ Closing
  unfolding go from_deciding
  broke ended a = refl

  pub parted : (ended : Bool) → go t (Deciding ended) (Marked Part) ≡ (if ended then Wrong else Settled)
  unfolding go from_deciding
  parted ended = refl

  pub ebbed : (ended : Bool) → go t (Deciding ended) (Did LinkEnded) ≡ (if ended then Closing else Wrong)
  unfolding go from_deciding
  ebbed ended = refl

  pub settles : (ended : Bool) (p : Snapshot Pdu) (a : Snapshot Act) (found : Option (ℕ × ℕ)) (reply : Reply) → go t (Deciding ended) (Did (Decided p a (Settles found reply))) ≡ after_reply (Deciding ended) reply
  unfolding go from_deciding
  settles ended p a found reply = refl

  pub submits : (ended : Bool) (p : Snapshot Pdu) (a : Snapshot Act) (o : Snapshot Offer) (r : Snapshot (Result ℕ (Offer × SubmitFault))) → go t (Admitted ended 1) (Did (Decided p a (Submitted o r))) ≡ Deciding ended
  unfolding go from_admitted
  submits ended p a o r = refl

  pub forwards : (ended more : Bool) (n : ℕ) (ps : List Pdu) (os : Snapshot (Vec Offer)) (r : Snapshot (Result (Vec Landing) (Vec Offer × Spent))) → length ps ≡ n → go t (when_listed ended n more) (Did (Forwarded ps os r)) ≡ Deciding ended
  unfolding go from_admitted from_listed
  forwards ended true n ps os r all = ap (λ b. if b then Deciding ended else Wrong) (eq-eqb (length ps) n all)
  forwards ended false n ps os r all = ap (λ b. if b then Deciding ended else Wrong) (eq-eqb (length ps) n all)

  enters : (ended : Bool) (account : ℕ) (whole : Bool) → from_entering ended account (Marked (Entered account whole)) ≡ (if whole then Deciding ended else Unentered)
  unfolding from_entering
  enters ended account whole = ap (λ b. if b then (if whole then Deciding ended else Unentered) else Wrong) (eq-eqb account account refl)

  pub entered : (ended : Bool) (k : Kind) (account : ℕ) (whole : Bool) → k ≢ kind.Tx → go t (after_bind ended k account) (Marked (Entered account whole)) ≡ (if whole then Deciding ended else Unentered)
  unfolding go
  entered ended kind.Tx account whole other = absurd (other refl)
  entered ended kind.Rx account whole other = enters ended account whole
  entered ended kind.Trx account whole other = enters ended account whole

  pub ending : (waited wrote : Bool) → go t Closing (Marked (Offered waited wrote true)) ≡ Ending
  unfolding go from_closing
  ending waited wrote = refl

  pub done : (waited wrote : Bool) → go t Closing (Marked (Offered waited wrote false)) ≡ Over
  unfolding go from_closing
  done waited wrote = refl

  pub unclosed : go t Closing (Marked WriteFailed) ≡ Failed
  unfolding go from_closing
  unclosed = refl

-- the write failed
pub write_fails : (t : Before) (p q : Phase) (e : Fault) → go t p (Marked WriteFailed) ≡ Failed → (e ≡ fault.Link) × (q ≡ go t p (Marked WriteFailed)) → Faulted e q
write_fails t p q e cell h = subst (λ x. Faulted x q) (sym h.0) (h.1 ∙ cell)

-- octets wait, or none
pub some_are : (u : List ℕ) → true ≡ some_wait u → u ≢ []
some_are [] some none = true≢false some
some_are (x ∷ xs) some none = absurd (cc)

pub none_are : (u : List ℕ) → false ≡ some_wait u → u ≡ []
none_are [] none = refl
none_are (x ∷ xs) none = absurd (true≢false (sym none))

-- nothing but a write was left to do
pub last_ends : (t : Before) (q : Phase) (left quiet : Bool) (end : TurnEnd) (u rest : List ℕ) (held : Option Pdu) (parked : Option Answer) (settled : Bool) (stage : Stage) → stage ≡ Closed → end ≡ last_end left
    → (waited wrote : Bool) × (q ≡ go t Closing (Marked (Offered waited wrote left))) → left ≡ some_wait u
    → EndsIn end quiet q × Stands q u rest held parked settled stage
last_ends t q true quiet end u rest held parked settled stage closed is h waits =
    subst (λ e. EndsIn e quiet q × Stands q u rest held parked settled stage) (sym is)
    (subst (λ x. EndsIn Worked quiet x × Stands x u rest held parked settled stage) (sym (h.2 ∙ ending t h.0 h.1)) (tt, (some_are u waits, closed)))
last_ends t q false quiet end u rest held parked settled stage closed is h waits =
    let e = h.2 ∙ done t h.0 h.1 in
    subst (λ y. EndsIn y quiet q × Stands q u rest held parked settled stage) (sym is) (subst (EndsIn Done quiet) (sym e) tt, subst (λ x. Stands x u rest held parked settled stage) (sym e) (none_are u waits, closed))

-- some is left of what waited at a turn's start
pub left_ends : (t : Before) (q : Phase) (left quiet : Bool) (u rest : List ℕ) (held : Option Pdu) (parked : Option Answer) (settled : Bool) (stage : Stage) → left ≡ true
    → (waited wrote : Bool) × (q ≡ go t Opening (Marked (Offered waited wrote left))) → t.stage ≡ stage → u ≢ [] → EndsIn Worked quiet q × Stands q u rest held parked settled stage
left_ends t q left quiet u rest held parked settled stage some h same unsent =
    subst (λ x. EndsIn Worked quiet x × Stands x u rest held parked settled stage)
    (sym (h.2 ∙ ap (λ x. go t Opening (Marked (Offered h.0 h.1 x))) some ∙ opened t h.0 h.1 true)) (halted t.stage same)
  where
    halted : (s : Stage) → s ≡ stage → EndsIn Worked quiet (halts s) × Stands (halts s) u rest held parked settled stage
    halted Open e = (tt, unsent)
    halted Drained e = (tt, unsent)
    halted Closed e = (tt, (unsent, sym e))

-- what waited was written
pub begun : (t : Before) (q : Phase) (left : Bool) → left ≡ false → (waited wrote : Bool) × (q ≡ go t Opening (Marked (Offered waited wrote left))) → q ≡ when_written t t.stage
begun t q left none h = h.2 ∙ ap (λ x. go t Opening (Marked (Offered h.0 h.1 x))) none ∙ opened t h.0 h.1 false

-- where the worker was closed, that is all
pub over_ends : (t : Before) (q : Phase) (quiet : Bool) (u rest : List ℕ) (held : Option Pdu) (parked : Option Answer) (settled : Bool) (stage : Stage) → q ≡ when_written t t.stage → t.stage ≡ stage → stage ≡ Closed → u ≡ []
    → EndsIn Done quiet q × Stands q u rest held parked settled stage
over_ends t q quiet u rest held parked settled stage at same closed none =
    let e = at ∙ ap (when_written t) (same ∙ closed) in (subst (EndsIn Done quiet) (sym e) tt, subst (λ x. Stands x u rest held parked settled stage) (sym e) (none, closed))

-- what is true where a part came so far
pub stands_at : (at : Progress) (p : Phase) (u rest : List ℕ) (held : Option Pdu) (parked : Option Answer) (settled : Bool) (stage : Stage) → at ≢ progress.Closed → at ≢ progress.Gone → IsAt at p
    → (at ≡ progress.Settled → (settled ≡ true) × (held ≡ None) × HasNone 65536 rest) → (at ≡ progress.Parked → IsSome parked) → (at ≡ progress.Clogged → 65536 ≤ length u)
    → Stands p u rest held parked settled stage
stands_at progress.Settled p u rest held parked settled stage going stays is none waits clogged = subst (λ x. Stands x u rest held parked settled stage) (sym is) (none refl)
stands_at progress.Parked p u rest held parked settled stage going stays is none waits clogged = subst (λ x. Stands x u rest held parked settled stage) (sym is) (waits refl)
stands_at progress.Stopped p u rest held parked settled stage going stays is none waits clogged = subst (λ x. Stands x u rest held parked settled stage) (sym is) tt
stands_at progress.Clogged p u rest held parked settled stage going stays is none waits clogged = subst (λ x. Stands x u rest held parked settled stage) (sym is) (clogged refl)
stands_at progress.Closed p u rest held parked settled stage going stays is none waits clogged = absurd (going refl)
stands_at progress.Gone p u rest held parked settled stage going stays is none waits clogged = absurd (stays refl)

-- the session is silent
pub gone_ends : (p : Phase) (quiet : Bool) (u rest : List ℕ) (held : Option Pdu) (parked : Option Answer) (settled : Bool) (stage : Stage) → p ≡ Gone → stage ≡ Closed
    → EndsIn Done quiet p × Stands p u rest held parked settled stage
gone_ends p quiet u rest held parked settled stage is closed = subst (λ x. EndsIn Done quiet x × Stands x u rest held parked settled stage) (sym is) (tt, closed)

pub quiet_as : (end : TurnEnd) (q q' : Bool) (p : Phase) → q ≡ q' → EndsIn end q p → EndsIn end q' p
quiet_as end q q' p same h = subst (λ b. EndsIn end b p) same h

abbrev before_of : ℕ → ℕ → PortView → Stage → Bool → Option Answer → Before
before_of now time v stage settled parked = record { now = now; message_time = time; lanes = length v.fronts; stage = stage; settled = settled; parked = is_some parked }

-- an offer leaves what the order depends on
pub before_same : (t : Before) (now time : ℕ) (v v' : PortView) (s s' : Stage) (b b' : Bool) (p p' : Option Answer) → t ≡ before_of now time v s b p → v' ≡ v → s' ≡ s → b' ≡ b → p' ≡ p → t ≡ before_of now time v' s' b' p'
before_same t now time v v' s s' b b' p p' is port stage settled parked =
    is ∙ ap (λ x. before_of now time x s b p) (sym port) ∙ ap (λ x. before_of now time v' x b p) (sym stage) ∙ ap (λ x. before_of now time v' s' x p) (sym settled) ∙ ap (λ x. before_of now time v' s' b' x) (sym parked)
