-- The order of a client's turn.
use Rattle.std.specs.Prelude.{◌≡◌, ◌≢◌, ◌==◌, ◌≤◌, ℕ, ◌+◌, ◌*◌, Bool, true, false, not, ◌&&◌, nat_le, List, [], length, Option, Some, None, IsSome, is_some, Result, Ok, Err, if◌then◌else◌}
use Rattle.smx_pdu.specs.declared.pdu.Pdu.{Pdu}
use Rattle.smx_frame.specs.Stream.{HasNone}
use Rattle.smx_lock.specs.declared.faults.Spent.{Spent}
use Rattle.smx_box.specs.declared.fault.Spent.{Spent as BoxSpent}
use Rattle.smx_box.specs.declared.receiver.Got.{Got}
use Rattle.smx_shared.specs.declared.batch.Collected.{Collected as Batch}
use Rattle.smx_session.specs.declared.kind.Kind.{Kind}
use Rattle.smx_session.specs.declared.kind.Kind.TheVariants as kind
use Rattle.smx_session.specs.declared.act.Act.{Act}
use Rattle.smx_session.specs.declared.act.Act.TheVariants as act
use Rattle.smx_session.specs.declared.ask.Ask.{Ask}
use Rattle.smx_session.specs.declared.ask.Ask.TheVariants as leave
use Rattle.smx_session.specs.declared.enquiry.Enquiry.{Enquiry}
use Rattle.smx_link.specs.declared.link.Polled.{Polled}
use Rattle.smx_link.specs.declared.link.Polled.TheVariants.{Octets, Nothing, End}
use Rattle.smx_link.specs.declared.link.LinkFault.{LinkFault}
use Rattle.smx_turns.specs.declared.gate.Point.TheVariants.{Reading, Binding, Refusing, Admitting, Submitting, Collecting}
use Rattle.smx_turns.specs.declared.end.Fault.{Fault}
use Rattle.smx_turns.specs.declared.end.Fault.TheVariants as fault
use Rattle.smx_turns.specs.declared.end.TurnEnd.{TurnEnd}
use Rattle.smx_turns.specs.declared.end.TurnEnd.TheVariants.{Worked, Filled, Idle, Done}
use Rattle.smx_turns.specs.declared.mo_item.MoItem.{MoItem}
use Rattle.smx_turns.specs.Steps.{phase_from}
use Rattle.smx_turns.specs.declared.step.Step.{Step}
use Rattle.smx_turns.specs.declared.step.Step.TheVariants.{Asked, Read, Marked, Did}
use Rattle.smx_client.specs.declared.stage.Stage.{Stage}
use Rattle.smx_client.specs.declared.stage.Stage.TheVariants.{Open, Drained, Closed}
use Rattle.smx_turns.specs.declared.mark.Mark.TheVariants.{Offered, WriteFailed, Waited, NoRoom, Part, Entered, Full as Clogs}
use Rattle.smx_client.specs.declared.reply.Reply.{Reply}
use Rattle.smx_client.specs.declared.reply.Reply.TheVariants as reply
use Rattle.smx_client.specs.declared.event.Event.{Event}
use Rattle.smx_client.specs.declared.event.Event.TheVariants.{Decided, Broke, Collected, PutAgain, Heard, Expired, Looked, Forwarded, LinkEnded, Got as Fetched}
use Rattle.smx_client.specs.declared.event.Fate.{Fate}
use Rattle.smx_client.specs.declared.event.Fate.TheVariants.{Own, Submitted, Barred, Settled as Settles}
use Rattle.smx_client.specs.declared.event.Delivery.{Delivery}
use Rattle.smx_client.specs.declared.event.Delivery.TheVariants.{Given, Refused, Dropped}
use Rattle.smx_client.specs.declared.event.Verdict.{Verdict}
use Rattle.smx_client.specs.declared.event.Verdict.TheVariants as verdict
use Rattle.smx_client.specs.declared.event.Progress.{Progress}
use Rattle.smx_client.specs.declared.event.Progress.TheVariants as progress
use Rattle.smx_client.specs.Events.{act_worth, is_unanswered}

-- where a turn stands
pub data Phase : Type 0 where
  -- nothing was done yet
  Opening : Phase
  -- octets are left
  Left : Phase
  -- what waited was written, and each lane below this one was asked for responses until it had none, or passed over
  AtLane : ℕ → Phase
  -- the gate said yes to responses of this lane
  MayCollect : ℕ → Phase
  -- no answer waits
  Clear : Phase
  -- the link has ended, and an answer waits
  Draining : Phase
  -- the gate said yes to a read
  MayRead : Phase
  -- a read gave octets
  Hearing : Phase
  -- a read answered that nothing more is there, and messages may have waited for too long
  Ageing : Phase
  -- the same, and none has
  Looking : Phase
  -- PDUs are decided; whether the link has ended
  Deciding : Bool → Phase
  -- the gate said yes to a bind by this account
  MayBind : Bool → ℕ → Phase
  -- the gate said yes to the refusal of a bind
  MayRefuse : Bool → Phase
  -- the gate said yes to a submit
  MaySubmit : Bool → Phase
  -- and then to so many requests more
  Admitted : Bool → ℕ → Phase
  -- the same, and then it said no
  Listed : Bool → ℕ → Phase
  -- the gate gave no such leave
  Barring : Bool → Ask → Phase
  -- the client has bound with this account, and is to be sent messages
  Entering : Bool → ℕ → Phase
  -- there was no memory for all prefixes
  Unentered : Phase
  -- no whole PDU is left, and the link goes on
  Settled : Phase
  -- an answer waits for its box
  Parked : Phase
  -- the gate said no
  Stopped : Phase
  -- as many octets wait as a PDU can have
  Clogged : Phase
  -- nothing more is decided, and what waits is to be written
  Closing : Phase
  -- it was offered, and some is left
  Ending : Phase
  Over : Phase
  -- an enquiry was answered by no octet
  Gone : Phase
  -- the link failed
  Failed : Phase
  -- a lane or a box takes no more calls
  Exhausted : Phase
  -- what no turn does
  Wrong : Phase

-- what a turn's order depends on: its moment, how long a message may wait, how many lanes there are, and at its start the stage, whether every whole PDU that came was decided, and whether an answer waits
pub record Before : Type 0 where
  pub now : ℕ
  pub message_time : ℕ
  pub lanes : ℕ
  pub stage : Stage
  pub settled : Bool
  pub parked : Bool

abbrev pub step_of : Type 0
step_of = Step Event

-- an answer that waits goes before the PDUs that are left
abbrev pub when_drained : Bool → Phase
when_drained true = Draining
when_drained false = Deciding true

-- where a turn stands once what waited was written
abbrev pub when_written : Before → Stage → Phase
when_written t Open = AtLane 0
when_written t Drained = when_drained t.parked
when_written t Closed = Over

abbrev pub halts : Stage → Phase
halts Open = Left
halts Drained = Left
halts Closed = Ending

abbrev pub when_offered : Before → Bool → Phase
when_offered t false = when_written t t.stage
when_offered t true = halts t.stage

unfoldable pub from_opening : Before → step_of → Phase
from_opening t (Marked (Offered waited wrote left)) = when_offered t left
from_opening t (Marked WriteFailed) = Failed
from_opening t _ = Wrong

-- what becomes of a turn by an answer to a message
abbrev pub after_reply : Phase → Reply → Phase
after_reply p reply.Taken = p
after_reply p reply.Full = Parked
after_reply p reply.Spent = Exhausted
after_reply p reply.Nobody = p

abbrev pub progress_of : Reply → Result (Option Progress) Fault
progress_of reply.Taken = Ok None
progress_of reply.Full = Ok (Some progress.Parked)
progress_of reply.Spent = Err fault.Spent
progress_of reply.Nobody = Ok None

abbrev pub delivery_progress : Delivery → Result (Option Progress) Fault
delivery_progress (Given number since) = Ok None
delivery_progress (Refused reply) = progress_of reply
delivery_progress Dropped = Ok None

abbrev pub after_delivery : Delivery → Phase
after_delivery (Given number since) = Clear
after_delivery (Refused reply) = after_reply Clear reply
after_delivery Dropped = Clear

abbrev pub after_got : Result (Got MoItem) BoxSpent → Delivery → Phase
after_got (Ok found) d = after_delivery d
after_got (Err e) d = Exhausted

-- whether a message waits from this moment on
abbrev pub is_given_at : ℕ → Delivery → Bool
is_given_at now (Given number since) = since == now
is_given_at now _ = true

-- the box: an answer that waits goes before an item
unfoldable pub from_boxing : ℕ → Bool → step_of → Phase
from_boxing now true (Did (PutAgain lane reply)) = after_reply Clear reply
from_boxing now true _ = Wrong
from_boxing now false (Did (Fetched r d)) = if is_given_at now d then after_got r.value d else Wrong
from_boxing now false (Marked NoRoom) = Clear
from_boxing now false (Marked Clogs) = Clogged
from_boxing now false _ = Wrong

abbrev pub when_may_collect : ℕ → Bool → Phase
when_may_collect n true = MayCollect n
when_may_collect n false = AtLane (n + 1)

unfoldable pub from_lane : Before → ℕ → step_of → Phase
from_lane t n (Asked (Collecting k) answer) = if k == n then when_may_collect n answer else Wrong
from_lane t n s = if n == t.lanes then from_boxing t.now t.parked s else Wrong

-- a lane whose hold ended at a limit may be asked again, and one that has none left is passed
abbrev pub after_collect : ℕ → Result Batch Spent → Phase
after_collect n (Ok b) = when_may_collect n b.more
after_collect n (Err e) = Exhausted

unfoldable pub from_collecting : ℕ → step_of → Phase
from_collecting n (Marked Clogs) = Clogged
from_collecting n (Did (Collected k r)) = if k == n then after_collect n r.value else Wrong
from_collecting n _ = Wrong

unfoldable pub from_draining : step_of → Phase
from_draining (Did (PutAgain lane reply)) = after_reply (Deciding true) reply
from_draining _ = Wrong

unfoldable pub from_clear : step_of → Phase
from_clear (Asked Reading true) = MayRead
from_clear (Asked Reading false) = Stopped
from_clear _ = Wrong

abbrev pub is_ageing : Before → Bool
is_ageing t = not (t.message_time == 0) && nat_le t.message_time t.now

abbrev pub when_nothing : Before → Phase
when_nothing t = if is_ageing t then Ageing else Looking

abbrev pub after_found : Before → Polled → Phase
after_found t (Octets n) = Hearing
after_found t Nothing = when_nothing t
after_found t End = Deciding true

abbrev pub after_read : Before → Result Polled LinkFault → Phase
after_read t (Ok found) = after_found t found
after_read t (Err e) = Failed

-- PDUs that came before go before a read
unfoldable pub from_may_read : Before → Bool → step_of → Phase
from_may_read t true (Read answer) = after_read t answer
from_may_read t true _ = Wrong
from_may_read t false (Marked Waited) = Deciding false
from_may_read t false _ = Wrong

-- octets count as life at the turn's moment
unfoldable pub from_hearing : ℕ → step_of → Phase
from_hearing now (Did (Heard at)) = if at == now then Deciding false else Wrong
from_hearing now _ = Wrong

abbrev pub after_expired : Option (ℕ × ℕ × ℕ) → Reply → Phase
after_expired None reply = Looking
after_expired (Some m) reply = after_reply Ageing reply

-- only there messages are judged that were sent so long ago as one may wait, one after another, until none is left
unfoldable pub from_ageing : Before → step_of → Phase
from_ageing t (Did (Expired until found reply)) = if until + t.message_time == t.now then after_expired found reply else Wrong
from_ageing t _ = Wrong

abbrev pub after_one : Option Reply → Phase
after_one None = Looking
after_one (Some reply) = after_reply Ageing reply

abbrev pub after_look : Enquiry → Phase
after_look e = if is_unanswered e then Gone else Deciding false

-- only there is silence judged, by the turn's moment
unfoldable pub from_looking : ℕ → step_of → Phase
from_looking now (Marked Clogs) = Clogged
from_looking now (Did (Looked at e)) = if at == now then after_look e.value else Wrong
from_looking now _ = Wrong

-- a receiver and a transceiver are sent messages
abbrev pub after_bind : Bool → Kind → ℕ → Phase
after_bind ended kind.Tx account = Deciding ended
after_bind ended kind.Rx account = Entering ended account
after_bind ended kind.Trx account = Entering ended account

-- what wants no leave
abbrev pub after_act : Bool → Act → Phase
after_act ended (act.Bind k account p) = Wrong
after_act ended (act.Refuse p) = Wrong
after_act ended act.Forward = Wrong
after_act ended (act.MoAnswer n) = Wrong
after_act ended a = if is_some (act_worth a).ends then Closing else Deciding ended

abbrev pub after_fate : Bool → Act → Fate → Phase
after_fate ended a Own = after_act ended a
after_fate ended a (Submitted o r) = Wrong
after_fate ended a (Barred l) = Wrong
after_fate ended a (Settles found reply) = after_reply (Deciding ended) reply

unfoldable pub from_deciding : Bool → step_of → Phase
from_deciding ended (Marked Clogs) = Clogged
from_deciding ended (Asked (Binding i) true) = MayBind ended i
from_deciding ended (Asked (Binding i) false) = Barring ended (leave.Bind i)
from_deciding ended (Asked Refusing true) = MayRefuse ended
from_deciding ended (Asked Refusing false) = Stopped
from_deciding ended (Asked Submitting true) = MaySubmit ended
from_deciding ended (Asked Submitting false) = Stopped
from_deciding ended (Did (Decided p a f)) = after_fate ended a.value f
from_deciding ended (Did (Broke a)) = Closing
from_deciding ended (Marked Part) = if ended then Wrong else Settled
from_deciding ended (Did LinkEnded) = if ended then Closing else Wrong
from_deciding ended _ = Wrong

-- a client is bound by the account for which the gate said yes
abbrev pub when_bound : Bool → ℕ → Act → Phase
when_bound ended i (act.Bind k account p) = if account == i then after_bind ended k account else Wrong
when_bound ended i _ = Wrong

unfoldable pub from_may_bind : Bool → ℕ → step_of → Phase
from_may_bind ended i (Did (Decided p a Own)) = when_bound ended i a.value
from_may_bind ended i _ = Wrong

abbrev pub when_refused : Bool → Act → Phase
when_refused ended (act.Refuse p) = Deciding ended
when_refused ended _ = Wrong

unfoldable pub from_may_refuse : Bool → step_of → Phase
from_may_refuse ended (Did (Decided p a Own)) = when_refused ended a.value
from_may_refuse ended _ = Wrong

-- each request that is submitted may be one more
unfoldable pub from_may_submit : Bool → step_of → Phase
from_may_submit ended (Asked Admitting true) = Admitted ended 1
from_may_submit ended (Asked Admitting false) = Barring ended leave.Request
from_may_submit ended _ = Wrong

-- one that may not, behind others, is left for later, and nothing more is asked for
abbrev pub when_admitted : Bool → ℕ → Bool → Phase
when_admitted ended n true = Admitted ended (n + 1)
when_admitted ended n false = Listed ended n

-- a list of so many, and whether one more might be
abbrev pub when_listed : Bool → ℕ → Bool → Phase
when_listed ended n true = Admitted ended n
when_listed ended n false = Listed ended n

unfoldable pub from_admitted : Bool → ℕ → step_of → Phase
from_admitted ended n (Asked Admitting answer) = when_admitted ended n answer
from_admitted ended n (Did (Decided p a (Submitted o r))) = if n == 1 then Deciding ended else Wrong
from_admitted ended n (Did (Forwarded ps os r)) = if length ps == n then Deciding ended else Wrong
from_admitted ended n _ = Wrong

unfoldable pub from_listed : Bool → ℕ → step_of → Phase
from_listed ended n (Did (Forwarded ps os r)) = if length ps == n then Deciding ended else Wrong
from_listed ended n _ = Wrong

abbrev pub is_same_leave : Ask → Ask → Bool
is_same_leave (leave.Bind i) (leave.Bind j) = i == j
is_same_leave leave.RefusedBind leave.RefusedBind = true
is_same_leave leave.Request leave.Request = true
is_same_leave _ _ = false

unfoldable pub from_barring : Bool → Ask → step_of → Phase
from_barring ended l (Did (Decided p a (Barred m))) = if is_same_leave m l then Deciding ended else Wrong
from_barring ended l _ = Wrong

unfoldable pub from_entering : Bool → ℕ → step_of → Phase
from_entering ended account (Marked (Entered i whole)) = if i == account then (if whole then Deciding ended else Unentered) else Wrong
from_entering ended account _ = Wrong

unfoldable pub from_closing : step_of → Phase
from_closing (Marked (Offered waited wrote true)) = Ending
from_closing (Marked (Offered waited wrote false)) = Over
from_closing (Marked WriteFailed) = Failed
from_closing _ = Wrong

-- the table of a client's turn
unfoldable pub go : Before → Phase → step_of → Phase
go t Opening s = from_opening t s
go t (AtLane n) s = from_lane t n s
go t (MayCollect n) s = from_collecting n s
go t Clear s = from_clear s
go t Draining s = from_draining s
go t MayRead s = from_may_read t t.settled s
go t Hearing s = from_hearing t.now s
go t Ageing s = from_ageing t s
go t Looking s = from_looking t.now s
go t (Deciding ended) s = from_deciding ended s
go t (MayBind ended i) s = from_may_bind ended i s
go t (MayRefuse ended) s = from_may_refuse ended s
go t (Admitted ended n) s = from_admitted ended n s
go t (Listed ended n) s = from_listed ended n s
go t (Barring ended l) s = from_barring ended l s
go t (MaySubmit ended) s = from_may_submit ended s
go t (Entering ended account) s = from_entering ended account s
go t Closing s = from_closing s
go t _ s = Wrong

unfoldable pub phase_of : Before → List step_of → Phase
phase_of t ss = phase_from (go t) Opening ss

-- memory may be wanted there
abbrev pub Wants : Phase → Type 0
Wants Opening = ⊥
Wants Hearing = ⊥
Wants Gone = ⊥
Wants Failed = ⊥
Wants Exhausted = ⊥
Wants Wrong = ⊥
Wants _ = Unit {0}

-- where a turn stands that a fault ends
abbrev pub Faulted : Fault → Phase → Type 0
Faulted fault.Link p = p ≡ Failed
Faulted fault.Spent p = p ≡ Exhausted
Faulted fault.NoMemory p = Wants p

-- how a turn may end; whether nothing came of it
abbrev pub EndsIn : TurnEnd → Bool → Phase → Type 0
EndsIn Done quiet Over = Unit {0}
EndsIn Done quiet Gone = Unit {0}
EndsIn Done quiet _ = ⊥
EndsIn Filled quiet _ = ⊥
EndsIn Idle quiet Stopped = Unit {0}
EndsIn Idle quiet Settled = quiet ≡ true
EndsIn Idle quiet _ = ⊥
EndsIn Worked quiet Left = Unit {0}
EndsIn Worked quiet Parked = Unit {0}
EndsIn Worked quiet Clogged = Unit {0}
EndsIn Worked quiet Settled = quiet ≡ false
EndsIn Worked quiet Ending = Unit {0}
EndsIn Worked quiet _ = ⊥

abbrev pub IsTurn : Result TurnEnd Fault → Bool → Phase → Type 0
IsTurn (Ok end) quiet p = EndsIn end quiet p
IsTurn (Err e) quiet p = Faulted e p

-- what is true where a turn stands so: of the octets that the link has not taken, of those that no PDU has, of the PDU and of the answer that wait, of whether every whole PDU was decided, and of the stage
abbrev pub Stands : Phase → {A : Type 0} → List ℕ → List ℕ → Option Pdu → Option A → Bool → Stage → Type 0
Stands Left unsent rest held parked settled stage = unsent ≢ []
Stands Ending unsent rest held parked settled stage = (unsent ≢ []) × (stage ≡ Closed)
Stands Over unsent rest held parked settled stage = (unsent ≡ []) × (stage ≡ Closed)
Stands Gone unsent rest held parked settled stage = stage ≡ Closed
Stands Clogged unsent rest held parked settled stage = 65536 ≤ length unsent
Stands Settled unsent rest held parked settled stage = (settled ≡ true) × (held ≡ None) × HasNone 65536 rest
Stands Parked unsent rest held parked settled stage = IsSome parked
Stands _ unsent rest held parked settled stage = Unit {0}

-- the parts of a turn: what an offer, a collect and a decision lead to
abbrev pub IsOffered : Before → Phase → Result Bool Fault → Phase → Type 0
IsOffered t p (Ok left) q = (waited wrote : Bool) × (q ≡ go t p (Marked (Offered waited wrote left)))
IsOffered t p (Err e) q = (e ≡ fault.Link) × (q ≡ go t p (Marked WriteFailed))

-- a lane may have more, or has none left
abbrev pub IsCollectedFrom : ℕ → Result Bool Fault → Phase → Type 0
IsCollectedFrom n (Ok true) p = p ≡ MayCollect n
IsCollectedFrom n (Ok false) p = p ≡ AtLane (n + 1)
IsCollectedFrom n (Err e) p = Faulted e p

-- a lane was asked until as many octets wait as a PDU can have, or until it has none, or passed over
abbrev pub IsGathered : ℕ → Result Bool Fault → Phase → Type 0
IsGathered n (Ok true) p = p ≡ Clogged
IsGathered n (Ok false) p = p ≡ AtLane (n + 1)
IsGathered n (Err e) p = Faulted e p

abbrev pub IsAt : Progress → Phase → Type 0
IsAt progress.Settled p = p ≡ Settled
IsAt progress.Parked p = p ≡ Parked
IsAt progress.Stopped p = p ≡ Stopped
IsAt progress.Clogged p = p ≡ Clogged
IsAt progress.Closed p = p ≡ Closing
IsAt progress.Gone p = p ≡ Gone

-- a part goes on to this phase, or comes so far
abbrev pub IsPart : Phase → Result (Option Progress) Fault → Phase → Type 0
IsPart q (Ok None) p = p ≡ q
IsPart q (Ok (Some at)) p = IsAt at p
IsPart q (Err e) p = Faulted e p

-- what a read found, if PDUs that came before didn't go before it, or how far the turn comes
abbrev pub IsRead : Before → Result (Result (Option Polled) Progress) Fault → Phase → Type 0
IsRead t (Ok (Ok None)) p = p ≡ Deciding false
IsRead t (Ok (Ok (Some found))) p = p ≡ after_found t found
IsRead t (Ok (Err at)) p = IsAt at p
IsRead t (Err e) p = Faulted e p

-- whether the link has ended, or how far the turn comes
abbrev pub IsFront : Result (Result Bool Progress) Fault → Phase → Type 0
IsFront (Ok (Ok ended)) p = p ≡ Deciding ended
IsFront (Ok (Err at)) p = IsAt at p
IsFront (Err e) p = Faulted e p

abbrev pub ComesTo : Result Progress Fault → Phase → Type 0
ComesTo (Ok at) p = IsAt at p
ComesTo (Err e) p = Faulted e p

-- where a turn stands that has this leave, or where none is wanted
abbrev pub with_leave : Bool → Option Ask → Phase
with_leave ended None = Deciding ended
with_leave ended (Some (leave.Bind i)) = MayBind ended i
with_leave ended (Some leave.RefusedBind) = MayRefuse ended
with_leave ended (Some leave.Request) = Admitted ended 1

-- what the session's decision leads to; an answer to a message is still to be dealt with
abbrev pub after_verdict : Bool → Verdict → Phase
after_verdict ended verdict.Next = Deciding ended
after_verdict ended verdict.Settle = Deciding ended
after_verdict ended (verdict.Bound k account) = after_bind ended k account
after_verdict ended verdict.Over = Closing

abbrev pub IsDecided : Bool → Result Verdict Fault → Phase → Type 0
IsDecided ended (Ok v) p = p ≡ after_verdict ended v
IsDecided ended (Err e) p = Faulted e p

-- how much is still to be decided
abbrev pub weight : Option Pdu → List ℕ → ℕ
weight None rest = 2 * length rest
weight (Some p) rest = 2 * length rest + 1
