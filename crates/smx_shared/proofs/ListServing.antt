-- Lists of calls in one hold.
use Rattle.std.proofs.Common.{◌≡◌, ◌<◌, ◌≤◌, ◌+◌, length, ℕ, max, Bool, true, false, List, [], ◌∷◌, ◌++◌, map, slice_get, Option, Some, None, Result, Ok, Err, refl, sym, ap, ◌∙◌, subst, arith, inl, inr, is_some, append_assoc}
use Rattle.std.specs.Prelude.{sum_by}
use Rattle.std.proofs.lemmas.List.{append-nil, map-append}
use Rattle.std.proofs.lemmas.List.Elements.{All-append, filter_map-append}
use Rattle.smx_lock.specs.Fronts.{Front, Hold, Finds, MayLeave, Runs, after_hold, holding}
use Rattle.smx_lock.specs.declared.faults.Spent as spent
use Rattle.smx_history.specs.declared.limits.Limits.{Limits}
use Rattle.smx_history.specs.declared.note.Note.{Note}
use Rattle.smx_history.specs.declared.note.Event.TheVariants as event
use Rattle.smx_history.specs.declared.request.Request.{Request}
use Rattle.smx_history.specs.declared.response.Response.{Response}
use Rattle.smx_history.specs.declared.reply.TakeRefusal.{TakeRefusal}
use Rattle.smx_history.specs.Entries.{is_retired}
use Rattle.smx_history.specs.History.{note, entries_of, requests}
use Rattle.smx_history.specs.Contents.{Content, AgreesWith}
use Rattle.smx_history.specs.Answering.{oldest_in, IsAnswered}
use Rattle.smx_history.specs.Replies.{member_with, moment_at, take_refusal, answers_place}
use Rattle.smx_lane.specs.Conditions.{IsOwn}
use Rattle.std.specs.Global.{Vec}
use Rattle.std.specs.List.{find}
use Rattle.smx_pdu.specs.declared.pdu.Pdu.{Pdu}
use Rattle.smx_history.specs.declared.place.Place.{Place}
use Rattle.smx_history.specs.declared.reply.Answered.{Answered}
use Rattle.smx_history.specs.declared.reply.Answered.TheVariants as answered
use Rattle.smx_lane.specs.declared.sent.Sent.{Sent}
use Rattle.smx_lane.specs.declared.settled.Settled.{Settled}
use Rattle.smx_lane.specs.declared.call.Call.{Call}
use Rattle.smx_lane.specs.declared.call.Call.TheVariants as call
use Rattle.smx_lane.specs.declared.call.Reply.{Reply}
use Rattle.smx_lane.specs.declared.call.Reply.TheVariants as reply
use Rattle.smx_lane.specs.Calls.{IsReply, GoesOn, Ran}
use Rattle.smx_lane.specs.Kept.{writer, limits_of, suits}
use Rattle.smx_lane.specs.Taking.{taking}
use Rattle.smx_lane.proofs.Calling.{ran_none, ran_further, goes_further, stays}
use Rattle.smx_shared.specs.declared.batch.Collected.{Collected}
use Rattle.smx_shared.specs.declared.batch.Takings.{Takings}
use Rattle.smx_shared.specs.Batches.{BatchServes, CollectsServe, TakesServe, TakesAll, collect_calls, collect_replies, collect_reply, none_left, CollectEnds, take_calls, take_replies, take_reply, stopped_by, TakeEnds, Exceeds, body_of, AnswersServe, BringsAll, answer_calls, answer_replies, answers_of, settled_notes}
use Rattle.smx_shared.specs.Steps.{AreCollected, AreTaken, AreBrought, collects_of, takes_of, length_in}
use Rattle.smx_shared.specs.Taps.{Known, Took, known_from, known_of, known_by_takes, known_by_answer, known_by_answers, known_by_settled}
use Rattle.smx_shared.proofs.Calls.{AreBy, one, none}
use Rattle.smx_shared.proofs.Holding.{served}

-- one and the same call, for each of these replies
abbrev pub calls_like : Call → List Reply → List Call
calls_like made replies = map (λ _. made) replies

-- once more
pub again : (k : Call) (old mid new : Content) (replies : List Reply) (came : Reply) (notes own : List Note) → Ran old (calls_like k replies) replies notes mid
    → IsReply mid k came own new → GoesOn mid own new → Ran old (calls_like k (replies ++ came ∷ [])) (replies ++ came ∷ []) (notes ++ own) new
again k old mid new replies came notes own ran told goes =
    subst (λ cs. Ran old cs (replies ++ came ∷ []) (notes ++ own) new) (sym (map-append (λ _. k) replies (came ∷ [])))
    (ran_further (calls_like k replies) replies notes own old mid new k came ran told goes)

-- what was called, replied and noted may be said in other words
pub said_as : (k : Call) (old new : Content) (replies replies' : List Reply) (notes notes' : List Note) → replies ≡ replies' → notes ≡ notes' → Ran old (calls_like k replies) replies notes new
    → Ran old (calls_like k replies') replies' notes' new
said_as k old new replies replies' notes notes' same is ran =
    subst (λ ns. Ran old (calls_like k replies') replies' ns new) is (subst (λ rs. Ran old (calls_like k rs) rs notes new) same ran)

-- a lane goes on over all calls
pub ran_goes : (calls : List Call) (replies : List Reply) (notes : List Note) (old new : Content) → Ran old calls replies notes new → GoesOn old notes new
ran_goes [] [] notes old new ran = subst (λ ns. GoesOn old ns new) (sym ran.0) (stays old new ran.1)
ran_goes [] (r ∷ replies) notes old new ran = absurd ran
ran_goes (c ∷ calls) [] notes old new ran = absurd ran
ran_goes (c ∷ calls) (r ∷ replies) notes old new ran =
    subst (λ ns. GoesOn old ns new) (sym ran.3) (goes_further old ran.0 new ran.1 ran.2 ran.5 (ran_goes calls replies ran.2 ran.0 new ran.6))

-- the responses so far
abbrev pub Gave : ℕ → ℕ → Content → List Response → Content → Type 0
Gave by c old rs new = Ran old (calls_like (call.Collect by c) (map collect_reply rs)) (map collect_reply rs) (collects_of by c rs) new

pub gave_none : (by c : ℕ) (old : Content) → Gave by c old [] old
gave_none by c old = ran_none old

pub gave_more : (by c : ℕ) (old mid new : Content) (rs : List Response) (r : Response) → Gave by c old rs mid → IsOwn mid by c
    → oldest_in (member_with c mid.members) ≡ Some r → GoesOn mid (note by (event.Collect c r.ordinal) ∷ []) new → Gave by c old (rs ++ r ∷ []) new
gave_more by c old mid new rs r gave own oldest goes =
    said_as _ old new (map collect_reply rs ++ collect_reply r ∷ []) _ (collects_of by c rs ++ note by (event.Collect c r.ordinal) ∷ []) _
    (sym (map-append collect_reply rs (r ∷ []))) (sym (map-append (λ (x : Response). note by (event.Collect c x.ordinal)) rs (r ∷ [])))
    (again _ old mid new (map collect_reply rs) (collect_reply r) (collects_of by c rs) _ gave (own, r, oldest, refl, refl) goes)

-- and none was left
pub gave_all : (by c : ℕ) (old new : Content) (b : Collected) → b.more ≡ false → Gave by c old b.responses.items new → IsOwn new by c → oldest_in (member_with c new.members) ≡ None
    → Ran old (collect_calls by c b) (collect_replies b) (collects_of by c b.responses.items) new
gave_all by c old new b ended gave own left =
    said_as _ old new (map collect_reply b.responses.items ++ reply.Collected None ∷ []) _ (collects_of by c b.responses.items ++ []) _
    (ap (λ x. map collect_reply b.responses.items ++ none_left x) (sym ended)) (append-nil (collects_of by c b.responses.items))
    (again _ old new new (map collect_reply b.responses.items) (reply.Collected None) (collects_of by c b.responses.items) [] gave (own, left, (refl, refl)) (stays new new refl))

-- or the list is full
pub gave_full : (by c : ℕ) (old new : Content) (b : Collected) → b.more ≡ true → Gave by c old b.responses.items new
    → Ran old (collect_calls by c b) (collect_replies b) (collects_of by c b.responses.items) new
gave_full by c old new b full gave =
    said_as _ old new (map collect_reply b.responses.items) _ (collects_of by c b.responses.items) _
    (sym (append-nil (map collect_reply b.responses.items)) ∙ ap (λ x. map collect_reply b.responses.items ++ none_left x) (sym full)) refl gave

-- where a sum is above 0 there is something
pub has_some : {X : Type 0} (f : X → ℕ) (xs : List X) → 0 < sum_by f xs → 0 < length xs
has_some f [] h = absurd (omega (arith, h))
has_some f (x ∷ xs) h = omega arith

-- the next request is one too many only where there is one
pub exceeds_with : (o : Option Request) (n : ℕ) → n ≤ 65536 → 65536 < n + length_in o → Exceeds n (body_of o)
exceeds_with None n few more = absurd (omega (arith, few, more))
exceeds_with (Some r) n few more = more

-- the requests so far
abbrev pub TookSo : ℕ → ℕ → Content → List Sent → Content → Type 0
TookSo by now old ss new = Ran old (calls_like (call.Take by now) (map take_reply ss)) (map take_reply ss) (takes_of old by now ss) new

pub took_none : (by now : ℕ) (old : Content) → TookSo by now old [] old
took_none by now old = ran_none old

-- a moment counts as it did before
pub same_moment : (now : ℕ) (old mid new : Content) → moment_at mid now ≡ moment_at old now → new.latest ≡ moment_at mid now → moment_at new now ≡ moment_at old now
same_moment now old mid new same is = ap (max now) is ∙ idle now mid.latest ∙ same
  where
    idle : (a b : ℕ) → max a (max a b) ≡ max a b
    idle a b = omega arith

pub took_more : (by now : ℕ) (old mid new : Content) (ss : List Sent) (s : Sent) → TookSo by now old ss mid → moment_at mid now ≡ moment_at old now → take_refusal mid ≡ None
    → slice_get mid.queue 0 ≡ Some s.request → GoesOn mid (taking mid by now s ∷ []) new → TookSo by now old (ss ++ s ∷ []) new
took_more by now old mid new ss s took same may oldest goes =
    said_as _ old new (map take_reply ss ++ take_reply s ∷ []) _ (takes_of old by now ss ++ taking mid by now s ∷ []) _
    (sym (map-append take_reply ss (s ∷ []))) (ap (λ t. takes_of old by now ss ++ note by (event.Take s.request.client s.request.ordinal s.upstream t) ∷ []) same ∙ sym (map-append (taking old by now) ss (s ∷ [])))
    (again _ old mid new (map take_reply ss) (take_reply s) (takes_of old by now ss) _ took (may, oldest, refl) goes)

pub took_all : (by now : ℕ) (old new : Content) (b : Takings) (e : TakeRefusal) → b.stop ≡ Some e → TookSo by now old b.requests.items new → take_refusal new ≡ Some e
    → Ran old (take_calls by now b) (take_replies b) (takes_of old by now b.requests.items) new
took_all by now old new b e stop took refused =
    said_as _ old new (map take_reply b.requests.items ++ reply.Taken (Err e) ∷ []) _ (takes_of old by now b.requests.items ++ []) _
    (ap (λ x. map take_reply b.requests.items ++ stopped_by x) (sym stop)) (append-nil (takes_of old by now b.requests.items))
    (again _ old new new (map take_reply b.requests.items) (reply.Taken (Err e)) (takes_of old by now b.requests.items) [] took (refused, (refl, refl)) (stays new new refl))

pub took_full : (by now : ℕ) (old new : Content) (b : Takings) → b.stop ≡ None → TookSo by now old b.requests.items new
    → Ran old (take_calls by now b) (take_replies b) (takes_of old by now b.requests.items) new
took_full by now old new b stop took =
    said_as _ old new (map take_reply b.requests.items) _ (takes_of old by now b.requests.items) _
    (sym (append-nil (map take_reply b.requests.items)) ∙ ap (λ x. map take_reply b.requests.items ++ stopped_by x) (sym stop)) refl took

-- the notes are the caller's
pub collects_by : (by c : ℕ) (rs : List Response) → AreBy by (collects_of by c rs)
unfolding AreBy
collects_by by c [] = none by
collects_by by c (r ∷ rs) = All-append (λ n. writer n ≡ by) (note by (event.Collect c r.ordinal) ∷ []) (collects_of by c rs) (one by (event.Collect c r.ordinal)) (collects_by by c rs)

pub takes_by : (old : Content) (by now : ℕ) (ss : List Sent) → AreBy by (takes_of old by now ss)
unfolding AreBy
takes_by old by now [] = none by
takes_by old by now (s ∷ ss) =
    All-append (λ n. writer n ≡ by) (taking old by now s ∷ []) (takes_of old by now ss) (one by (event.Take s.request.client s.request.ordinal s.upstream (moment_at old now))) (takes_by old by now ss)

-- a lane on which the holder made a list of calls may be put back
may_leave : (h : Hold Content Note Limits) (w : Content) (calls : List Call) (replies : List Reply) (own : List Note) → Ran h.value calls replies own w → AreBy h.number own → w.limits ≡ h.value.limits
    → h.value.limits ≡ h.lock.fixed → AgreesWith h.found h.value → MayLeave writer limits_of suits (holding h w) own
unfolding AreBy
may_leave h w calls replies own ran by same fixed agrees = record { own = by; agrees = ran_goes calls replies own h.value w ran h.found agrees; fixed = same ∙ fixed }

pub collected_may : (h : Hold Content Note Limits) (w : Content) (c : ℕ) (b : Collected) → AreCollected h.number c h.value b w → h.value.limits ≡ h.lock.fixed → AgreesWith h.found h.value
    → MayLeave writer limits_of suits (holding h w) (collects_of h.number c b.responses.items)
collected_may h w c b did fixed agrees = may_leave h w _ _ _ did.ran (collects_by h.number c b.responses.items) did.limits fixed agrees

pub taken_may : (h : Hold Content Note Limits) (w : Content) (now : ℕ) (b : Takings) → AreTaken h.number now h.value b w → h.value.limits ≡ h.lock.fixed → AgreesWith h.found h.value
    → MayLeave writer limits_of suits (holding h w) (takes_of h.value h.number now b.requests.items)
taken_may h w now b did fixed agrees = may_leave h w _ _ _ did.ran (takes_by h.value h.number now b.requests.items) did.limits fixed agrees

-- and once it is back the list was served
list_serves : (f g : Front Note Limits) (h : Hold Content Note Limits) (w : Content) (calls : ℕ → List Call) (replies : List Reply) (own : List Note) (Ends : Content → Type 0) → Finds writer limits_of suits f h
    → Ran h.value (calls h.number) replies own w → w.limits ≡ h.value.limits → Ends w → g ≡ after_hold (holding h w) own → BatchServes f g (calls f.number) replies Ends
list_serves f g h w calls replies own Ends found ran same ends after =
    let agrees = ran_goes (calls h.number) replies own h.value w ran h.found found.agrees in
    let hold = served f g h w own found same agrees after in
    record {
      found = h.found;
      own = own;
      old = h.value;
      new = w;
      hold = hold;
      told = subst (λ k. Ran h.value (calls k) replies own w) found.number ran;
      left = subst (λ l. AgreesWith l w) (sym hold.serves.seen) agrees;
      ends = ends;
    }

pub collected_serves : (f g : Front Note Limits) (c : ℕ) (b : Collected)
    → Runs writer limits_of suits f g (λ by old a new. AreCollected by c old a new) (λ by old a. collects_of by c a.responses.items) b → CollectsServe f g c b
collected_serves f g c b ran =
    let did = ran.3 in
    record {
      serves = list_serves f g ran.0 ran.1 (λ by. collect_calls by c b) (collect_replies b) _ (CollectEnds c b) ran.2 did.ran did.limits did.ends ran.4;
      count = did.count;
      some = did.some;
      octets = did.octets;
    }

pub taken_serves : (f g : Front Note Limits) (now : ℕ) (b : Takings)
    → Runs writer limits_of suits f g (λ by old a new. AreTaken by now old a new) (λ by old a. takes_of old by now a.requests.items) b → TakesServe f g now b
taken_serves f g now b ran =
    let did = ran.3 in
    record {
      serves = list_serves f g ran.0 ran.1 (λ by. take_calls by now b) (take_replies b) _ (TakeEnds b) ran.2 did.ran did.limits did.ends ran.4;
      count = did.count;
      some = did.some;
      octets = did.octets;
    }

-- collects accept and retire nobody
abbrev pub IsQuiet : ℕ → List Note → Type 0
IsQuiet c ns = (is_retired c (entries_of ns) ≡ false) × (requests ns ≡ [])

quiet_then : (k c n : ℕ) (own rest notes : List Note) → own ≡ note k (event.Collect c n) ∷ [] → notes ≡ own ++ rest → IsQuiet c rest → IsQuiet c notes
quiet_then k c n own rest notes is all quiet =
    let same = all ∙ ap (λ x. x ++ rest) is in
    (ap (λ ns. is_retired c (entries_of ns)) same ∙ quiet.0, ap requests same ∙ quiet.1)

pub collects_quiet : (k c : ℕ) (rs : List Response) (more : Bool) (notes : List Note) (old new : Content)
    → Ran old (calls_like (call.Collect k c) (map collect_reply rs ++ none_left more)) (map collect_reply rs ++ none_left more) notes new → IsQuiet c notes
collects_quiet k c [] true notes old new ran = subst (IsQuiet c) (sym ran.0) (refl, refl)
collects_quiet k c [] false notes old new ran =
    let none : notes ≡ [] = ran.3 ∙ ap (λ x. x ++ ran.2) ran.4.2.0 ∙ ran.6.0 in
    subst (IsQuiet c) (sym none) (refl, refl)
collects_quiet k c (r ∷ rs) more notes old new ran =
    quiet_then k c ran.4.1.ordinal ran.1 ran.2 notes ran.4.4 ran.3 (collects_quiet k c rs more ran.2 ran.0 new ran.6)

-- what the takes let a tap's caller know
abbrev pub takes_known : List Sent → List Known
takes_known ss = map (λ s. Took s.request.client s.upstream) ss

pub ran_known : (k now : ℕ) (ss : List Sent) (stop : Option TakeRefusal) (notes : List Note) (old new : Content)
    → Ran old (calls_like (call.Take k now) (map take_reply ss ++ stopped_by stop)) (map take_reply ss ++ stopped_by stop) notes new → known_of notes ≡ takes_known ss
ran_known k now [] None notes old new ran = ap known_of ran.0
ran_known k now [] (Some e) notes old new ran = ap known_of (ran.3 ∙ ap (λ x. x ++ ran.2) ran.4.1.0 ∙ ran.6.0)
ran_known k now (s ∷ ss) stop notes old new ran =
    ap known_of (ran.3 ∙ ap (λ x. x ++ ran.2) ran.4.2) ∙ ap (λ ks. Took s.request.client s.upstream ∷ ks) (ran_known k now ss stop ran.2 ran.0 new ran.6)

pub all_known : (f g : Front Note Limits) (now : ℕ) (r : Result Takings spent.Spent) → TakesAll f g now r → known_of g.mine ≡ known_of f.mine ++ known_by_takes r
all_known f g now (Ok b) h =
    ap known_of h.serves.hold.serves.mine ∙ filter_map-append (λ n. known_from n.event) f.mine h.serves.own
    ∙ ap (λ ks. known_of f.mine ++ ks) (ran_known f.number now b.requests.items b.stop h.serves.own h.serves.old h.serves.new h.serves.told)
all_known f g now (Err e) h = elim h [
  | inl s ↦ ap (λ z. known_of z.mine) s ∙ sym (append-nil (known_of f.mine))
  | inr s ↦ ap (λ z. known_of z.mine) s ∙ sym (append-nil (known_of f.mine))
]

-- the responses so far
abbrev pub Brought : ℕ → Content → List Pdu → List Settled → Content → Type 0
Brought by old ps ss new = Ran old (answer_calls by ps) (answer_replies ss) (answers_of by ps ss) new

-- an answer and its notes
answer_told : (by : ℕ) (p : Pdu) (old new : Content) (n : ℕ) (a : Answered) → IsAnswered old by p a new → ((q : Place) → find (answers_place p) old.window ≡ Some q → q.ordinal ≡ n)
    → IsReply old (call.Answer by p) (reply.Answered a) (settled_notes by p n a) new × GoesOn old (settled_notes by p n a) new
answer_told by p old new n (answered.Queued c) is named =
    let e : note by (event.Answer is.0.client is.0.ordinal p) ≡ note by (event.Answer c n p) = ap (λ x. note by (event.Answer x is.0.ordinal p)) is.3 ∙ ap (λ m. note by (event.Answer c m p)) (named is.0 is.2) in
    ((is.0, is.2, is.3, ap is_some is.4, ap (λ x. x ∷ []) (sym e)), subst (λ x. GoesOn old (x ∷ []) new) e is.5)
answer_told by p old new n (answered.Late c) is named =
    let e : note by (event.Late is.0.client is.0.ordinal p.number p.command) ≡ note by (event.Late c n p.number p.command) =
    ap (λ x. note by (event.Late x is.0.ordinal p.number p.command)) is.2 ∙ ap (λ m. note by (event.Late c m p.number p.command)) (named is.0 is.1) in
    ((is.0, is.1, is.2, is.3, ap (λ x. x ∷ []) (sym e)), subst (λ x. GoesOn old (x ∷ []) new) e is.4)
answer_told by p old new n (answered.Unknown back) is named = ((is.0, is.1, (refl, is.2)), stays old new is.2)

answers_more : (by : ℕ) (ps : List Pdu) (ss : List Settled) (p : Pdu) (s : Settled) → length ps ≡ length ss
    → answers_of by (ps ++ p ∷ []) (ss ++ s ∷ []) ≡ answers_of by ps ss ++ settled_notes by p s.ordinal s.answered
answers_more by [] [] p s same = append-nil (settled_notes by p s.ordinal s.answered)
answers_more by [] (t ∷ ss) p s same = absurd (omega (arith, same))
answers_more by (q ∷ ps) [] p s same = absurd (omega (arith, same))
answers_more by (q ∷ ps) (t ∷ ss) p s same =
    ap (λ ns. settled_notes by q t.ordinal t.answered ++ ns) (answers_more by ps ss p s (omega (arith, same))) ∙ sym (append_assoc (settled_notes by q t.ordinal t.answered) (answers_of by ps ss) (settled_notes by p s.ordinal s.answered))

pub brought_more : (by : ℕ) (old mid new : Content) (ps : List Pdu) (ss : List Settled) (p : Pdu) (s : Settled) → length ps ≡ length ss → Brought by old ps ss mid → IsAnswered mid by p s.answered new
    → ((q : Place) → find (answers_place p) mid.window ≡ Some q → q.ordinal ≡ s.ordinal) → Brought by old (ps ++ p ∷ []) (ss ++ s ∷ []) new
brought_more by old mid new ps ss p s same brought is named =
    let told = answer_told by p mid new s.ordinal s.answered is named in
    let made = ran_further (answer_calls by ps) (answer_replies ss) (answers_of by ps ss) _ old mid new _ _ brought told.0 told.1 in
    subst (λ ns. Ran old (answer_calls by (ps ++ p ∷ [])) (answer_replies (ss ++ s ∷ [])) ns new) (sym (answers_more by ps ss p s same))
    (subst (λ rs. Ran old (answer_calls by (ps ++ p ∷ [])) rs (answers_of by ps ss ++ settled_notes by p s.ordinal s.answered) new) (sym (map-append (λ (x : Settled). reply.Answered x.answered) ss (s ∷ [])))
    (subst (λ cs. Ran old cs (answer_replies ss ++ reply.Answered s.answered ∷ []) (answers_of by ps ss ++ settled_notes by p s.ordinal s.answered) new) (sym (map-append (call.Answer by) ps (p ∷ []))) made))

settled_by : (by : ℕ) (p : Pdu) (n : ℕ) (a : Answered) → AreBy by (settled_notes by p n a)
settled_by by p n (answered.Queued c) = one by (event.Answer c n p)
settled_by by p n (answered.Late c) = one by (event.Late c n p.number p.command)
settled_by by p n (answered.Unknown back) = none by

pub answers_by : (by : ℕ) (ps : List Pdu) (ss : List Settled) → AreBy by (answers_of by ps ss)
unfolding AreBy
answers_by by [] ss = none by
answers_by by (p ∷ ps) [] = none by
answers_by by (p ∷ ps) (s ∷ ss) = All-append (λ n. writer n ≡ by) (settled_notes by p s.ordinal s.answered) (answers_of by ps ss) (settled_by by p s.ordinal s.answered) (answers_by by ps ss)

pub brought_may : (h : Hold Content Note Limits) (w : Content) (ps : List Pdu) (ss : List Settled) → AreBrought h.number ps h.value ss w → h.value.limits ≡ h.lock.fixed → AgreesWith h.found h.value
    → MayLeave writer limits_of suits (holding h w) (answers_of h.number ps ss)
brought_may h w ps ss did fixed agrees = may_leave h w _ _ _ did.ran (answers_by h.number ps ss) did.limits fixed agrees

pub brought_serves : (f g : Front Note Limits) (ps : List Pdu) (ss : Vec Settled)
    → Runs writer limits_of suits f g (λ by old a new. AreBrought by ps old a.items new) (λ by old a. answers_of by ps a.items) ss → AnswersServe f g ps ss.items
unfolding list_serves
brought_serves f g ps ss ran =
    let did = ran.3 in
    let serves = list_serves f g ran.0 ran.1 (λ by. answer_calls by ps) (answer_replies ss.items) (answers_of ran.0.number ps ss.items) (λ v. Unit {0}) ran.2 did.ran did.limits tt ran.4 in
    record {
      serves = serves;
      notes = serves.hold.serves.mine ∙ ap (λ k. f.mine ++ answers_of k ps ss.items) ran.2.number;
    }

settled_known : (by : ℕ) (p : Pdu) (n : ℕ) (a : Answered) → known_of (settled_notes by p n a) ≡ known_by_answer {E = Unit {0}} p (Ok a)
settled_known by p n (answered.Queued c) = refl
settled_known by p n (answered.Late c) = refl
settled_known by p n (answered.Unknown back) = refl

answers_known : (by : ℕ) (ps : List Pdu) (ss : List Settled) → known_of (answers_of by ps ss) ≡ known_by_settled ps ss
answers_known by [] ss = refl
answers_known by (p ∷ ps) [] = refl
answers_known by (p ∷ ps) (s ∷ ss) =
    filter_map-append (λ n. known_from n.event) (settled_notes by p s.ordinal s.answered) (answers_of by ps ss)
    ∙ ap (λ ks. ks ++ known_of (answers_of by ps ss)) (settled_known by p s.ordinal s.answered) ∙ ap (λ ks. known_by_answer {E = Unit {0}} p (Ok s.answered) ++ ks) (answers_known by ps ss)

pub all_answers_known : (f g : Front Note Limits) (ps : List Pdu) (r : Result (Vec Settled) (Vec Pdu × spent.Spent)) → BringsAll f g ps r → known_of g.mine ≡ known_of f.mine ++ known_by_answers ps r
all_answers_known f g ps (Ok ss) h =
    ap known_of h.notes ∙ filter_map-append (λ n. known_from n.event) f.mine (answers_of f.number ps ss.items) ∙ ap (λ ks. known_of f.mine ++ ks) (answers_known f.number ps ss.items)
all_answers_known f g ps (Err e) h = elim h.1 [
  | inl s ↦ ap (λ z. known_of z.mine) s ∙ sym (append-nil (known_of f.mine))
  | inr s ↦ ap (λ z. known_of z.mine) s ∙ sym (append-nil (known_of f.mine))
]
