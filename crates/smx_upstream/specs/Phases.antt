-- The order of an upstream turn.
use Rattle.std.specs.Prelude.{◌≡◌, ◌≢◌, ◌≤◌, ◌==◌, ◌&&◌, ℕ, Bool, true, false, not, List, [], length, Result, Ok, Err, Option, Some, None, if◌then◌else◌}
use Rattle.smx_frame.specs.Stream.{HasNone}
use Rattle.smx_link.specs.declared.link.Polled.{Polled}
use Rattle.smx_link.specs.declared.link.Polled.TheVariants.{Octets, Nothing, End}
use Rattle.smx_link.specs.declared.link.LinkFault.{LinkFault}
use Rattle.smx_turns.specs.declared.gate.Point.TheVariants.{Reading, Taking}
use Rattle.smx_turns.specs.declared.end.TurnEnd.{TurnEnd}
use Rattle.smx_turns.specs.declared.end.TurnEnd.TheVariants.{Worked, Filled, Idle, Done}
use Rattle.smx_turns.specs.declared.end.Fault.{Fault}
use Rattle.smx_turns.specs.declared.end.Fault.TheVariants as fault
use Rattle.smx_turns.specs.declared.step.Step.{Step}
use Rattle.smx_turns.specs.declared.step.Step.TheVariants.{Asked, Read, Marked, Did}
use Rattle.smx_turns.specs.Steps.{phase_from}
use Rattle.smx_turns.specs.Wires.{is_end, some_wait}
use Rattle.smx_upstream.specs.Events.{event_ends, fills, is_spent, may_give_more}
use Rattle.smx_upstream.specs.declared.wiring.Front.{Front}
use Rattle.smx_upstream.specs.declared.wiring.Front.TheVariants as front
use Rattle.smx_upstream.specs.declared.turning.Course.{Course}
use Rattle.smx_upstream.specs.declared.turning.Course.TheVariants as course
use Rattle.smx_upstream.specs.declared.deciding.Next.{Next}
use Rattle.smx_upstream.specs.declared.deciding.Next.TheVariants as next
use Rattle.smx_upstream.specs.declared.deciding.Progress.{Progress}
use Rattle.smx_upstream.specs.declared.deciding.Progress.TheVariants as progress
use Rattle.smx_turns.specs.declared.mark.Mark.TheVariants.{Offered, WriteFailed, Full, Part}
use Rattle.smx_upstream.specs.declared.event.Event.{Event}
use Rattle.smx_upstream.specs.declared.event.Event.TheVariants.{Opened, Looked, Judged, Expired, Shifted, Sought, Decided, Brought, Took, Broke, LinkEnded}
use Rattle.smx_upstream.specs.declared.event.Span.{Span}
use Rattle.smx_upstream.specs.declared.event.Span.TheVariants.{Once, Twice}

-- which PDUs are decided
pub data Source : Type 0 where
  -- those that an earlier turn left; whether one of them was decided
  Earlier : Bool → Source
  -- those behind a read with this answer
  Behind : Polled → Source

-- where a turn stands
pub data Phase : Type 0 where
  -- nothing was done yet
  Opening : Phase
  -- the turn has its number
  Ready : Phase
  -- what waited was offered; whether octets are left
  Written : Bool → Phase
  -- octets are left, so no more is done
  Clogged : Phase
  -- the moment was handed in; whether octets are left
  Watched : Bool → Phase
  -- the lane was asked to turn over; no octets are left
  Clear : Phase
  -- too many octets wait, so no more is done
  Brimming : Phase
  -- the gate said yes to a read
  MayRead : Phase
  -- a read or a write failed
  Failed : Phase
  -- the return box was held, and PDUs are decided
  Deciding : Source → Phase
  -- no whole PDU was left, so more may be read
  Emptied : Phase
  -- the session is over, and what waits is to be written
  Closing : Phase
  -- all that had come was read and decided, so the timers are judged
  CaughtUp : Phase
  -- at most one request is given up that has waited so long, and then the turn stands so
  Sweeping : Span → Phase → Phase
  -- no more is decided: no whole PDU is left, or a message filled its client's box
  Settled : Bool → Phase
  -- the gate said yes to takes; whether a message filled a box, and whether the lane gave requests as far as a limit
  MayTake : Bool → Bool → Phase
  -- the lane had none left to give; whether a message filled a box
  HasTried : Bool → Phase
  -- the gate said no to a read
  Stopped : Phase
  -- the gate said no to a take; whether a message filled a box
  Refrained : Bool → Phase
  -- what waits is to be written in the next turn
  Ending : Phase
  -- nothing is left to do, and all was written
  Over : Phase
  -- the session is silent
  Gone : Phase
  -- the link has ended, and no whole PDU is left: to be written down, and written down
  Ebbed : Phase
  Drained : Phase
  -- a lane or a box takes no more calls
  Exhausted : Phase
  -- what no turn does
  Wrong : Phase

-- what a turn's order depends on: where it begins, its moment, and whether it began with nothing but writing left to do and with octets waiting
pub record Before : Type 0 where
  pub start : Phase
  pub now : ℕ
  pub ending : Bool
  pub waited : Bool

abbrev pub before : ℕ → Bool → List ℕ → Before
before now ending unsent = record { start = Opening; now = now; ending = ending; waited = some_wait unsent }

abbrev pub unless_spent : Bool → Phase → Phase
unless_spent true p = Exhausted
unless_spent false p = p

-- a moment is the turn's own
abbrev pub at_moment : Before → ℕ → Phase → Phase
at_moment t now p = if now == t.now then p else Wrong

-- what is said is so
abbrev pub if_so : Bool → Bool → Phase → Phase
if_so true true p = p
if_so true false p = Wrong
if_so false true p = Wrong
if_so false false p = p

abbrev pub unless_left : Bool → Phase
unless_left true = Ending
unless_left false = Over

-- after the first offer
abbrev pub after_offer : Bool → Bool → Phase
after_offer true left = unless_left left
after_offer false left = Written left

abbrev pub when_gone : Bool → Bool → Phase
when_gone left true = Gone
when_gone left false = Watched left

-- where octets are left nothing is read: then the session is silent where it was so before
abbrev pub when_looked : Bool → Bool → Phase
when_looked left silent = when_gone left (left && silent)

abbrev pub when_kept : Bool → Phase
when_kept true = Sweeping Twice Clogged
when_kept false = Clear

-- one of them was decided
abbrev pub going_on : Source → Source
going_on (Earlier decided) = Earlier true
going_on (Behind polled) = Behind polled

-- where a message filled its client's box no more is decided, but that what is left of an ended link is decided whole
abbrev pub when_filled : Source → Phase
when_filled (Behind End) = Deciding (Behind End)
when_filled _ = Sweeping Twice (Settled true)

abbrev pub when_decided : Source → Bool → Bool → Phase
when_decided s true full = Closing
when_decided s false true = when_filled s
when_decided s false false = Deciding (going_on s)

-- nothing is read where an earlier turn left a PDU; more may have come then, and behind octets
abbrev pub when_part : Source → Phase
when_part (Earlier false) = Emptied
when_part (Earlier true) = Sweeping Twice (Settled false)
when_part (Behind End) = Ebbed
when_part (Behind Nothing) = CaughtUp
when_part (Behind (Octets n)) = Sweeping Twice (Settled false)

-- what is left of an ended link is decided whole
abbrev pub when_full : Source → Phase
when_full (Behind End) = Wrong
when_full _ = Sweeping Twice Brimming

abbrev pub when_judged : Bool → Phase
when_judged true = Gone
when_judged false = Sweeping Once (Settled false)

abbrev pub when_read : Result Polled LinkFault → Phase
when_read (Ok polled) = Deciding (Behind polled)
when_read (Err e) = Failed

abbrev pub when_may_read : Bool → Phase
when_may_read true = MayRead
when_may_read false = Sweeping Twice Stopped

abbrev pub when_may_take : Bool → Bool → Phase
when_may_take full true = MayTake full false
when_may_take full false = Refrained full

unfoldable pub from_opening : Step Event → Phase
from_opening (Did (Opened n)) = Ready
from_opening _ = Wrong

unfoldable pub from_ready : Before → Step Event → Phase
from_ready t (Marked (Offered waited wrote left)) = if_so waited t.waited (after_offer t.ending left)
from_ready t (Marked WriteFailed) = Failed
from_ready t _ = Wrong

unfoldable pub from_written : Before → Bool → Step Event → Phase
from_written t left (Did (Looked now due some_left silent)) = at_moment t now (if_so some_left left (when_looked left silent))
from_written t left _ = Wrong

unfoldable pub from_watched : Bool → Step Event → Phase
from_watched left (Did (Shifted least r)) = unless_spent (is_spent (Shifted least r)) (when_kept left)
from_watched left _ = Wrong

unfoldable pub from_sweeping : Span → Phase → Step Event → Phase
from_sweeping Once p (Did (Expired lane Once r)) = unless_spent (is_spent (Expired lane Once r)) p
from_sweeping Twice p (Did (Expired lane Twice r)) = unless_spent (is_spent (Expired lane Twice r)) p
from_sweeping span p _ = Wrong

unfoldable pub from_clear : Step Event → Phase
from_clear (Did (Sought r under)) = unless_spent (is_spent (Sought r under)) (Deciding (Earlier false))
from_clear _ = Wrong

unfoldable pub from_emptied : Step Event → Phase
from_emptied (Asked Reading answer) = when_may_read answer
from_emptied _ = Wrong

unfoldable pub from_may_read : Step Event → Phase
from_may_read (Read r) = when_read r
from_may_read _ = Wrong

unfoldable pub from_deciding : Before → Source → Step Event → Phase
from_deciding t s (Did (Decided p now a f)) = at_moment t now (unless_spent (is_spent (Decided p now a f)) (when_decided s (event_ends (Decided p now a f)) (fills f)))
from_deciding t s (Did (Brought ps now lane r)) = at_moment t now (unless_spent (is_spent (Brought ps now lane r)) (Deciding (going_on s)))
from_deciding t s (Did Broke) = Closing
from_deciding t s (Marked Part) = when_part s
from_deciding t s (Marked Full) = when_full s
from_deciding t s _ = Wrong

unfoldable pub from_ebbed : Step Event → Phase
from_ebbed (Did LinkEnded) = Drained
from_ebbed _ = Wrong

unfoldable pub from_closing : Step Event → Phase
from_closing (Marked (Offered waited wrote left)) = unless_left left
from_closing (Marked WriteFailed) = Failed
from_closing _ = Wrong

unfoldable pub from_caught_up : Step Event → Phase
from_caught_up (Did (Judged silent)) = when_judged silent
from_caught_up _ = Wrong

unfoldable pub from_settled : Bool → Step Event → Phase
from_settled full (Asked Taking answer) = when_may_take full answer
from_settled full _ = Wrong

-- a lane that gave requests as far as a limit may be asked for more
abbrev pub when_taken : Bool → Bool → Phase
when_taken full true = MayTake full true
when_taken full false = HasTried full

unfoldable pub from_may_take : Bool → Step Event → Phase
from_may_take full (Did (Took r)) = unless_spent (is_spent (Took r)) (when_taken full (may_give_more r.value))
from_may_take full _ = Wrong

-- the table of an upstream turn
unfoldable pub go : Before → Phase → Step Event → Phase
go t Opening s = from_opening s
go t Ready s = from_ready t s
go t (Written left) s = from_written t left s
go t (Watched left) s = from_watched left s
go t Clear s = from_clear s
go t (Deciding source) s = from_deciding t source s
go t Emptied s = from_emptied s
go t MayRead s = from_may_read s
go t Closing s = from_closing s
go t Ebbed s = from_ebbed s
go t CaughtUp s = from_caught_up s
go t (Sweeping span p) s = from_sweeping span p s
go t (Settled full) s = from_settled full s
go t (MayTake full gave) s = from_may_take full s
go t _ s = Wrong

unfoldable pub phase_of : Before → List (Step Event) → Phase
phase_of t ss = phase_from (go t) t.start ss

-- the link failed there
abbrev pub MayFail : Phase → Type 0
MayFail Failed = Unit {0}
MayFail _ = ⊥

-- memory may be wanted there
abbrev pub MayWant : Phase → Type 0
MayWant (Written left) = Unit {0}
MayWant Clear = Unit {0}
MayWant (Deciding source) = Unit {0}
MayWant (Settled full) = Unit {0}
MayWant (MayTake full true) = Unit {0}
MayWant _ = ⊥

-- where a turn stands that a fault ends
abbrev pub Faulted : Fault → Phase → Type 0
Faulted fault.Link p = MayFail p
Faulted fault.Spent p = p ≡ Exhausted
Faulted fault.NoMemory p = MayWant p

-- nothing but closing is left
abbrev pub IsOver : Phase → Type 0
IsOver Over = Unit {0}
IsOver Gone = Unit {0}
IsOver Drained = Unit {0}
IsOver _ = ⊥

-- how a turn may end: whether the session is bound then, and whether nothing came of the turn; where a lane may have more to give and isn't asked for it, as many octets wait as a PDU can have
abbrev pub IsTurnEnd : Bool → Bool → TurnEnd → Phase → Type 0
IsTurnEnd bound quiet Done p = IsOver p
IsTurnEnd bound quiet Filled (Refrained true) = Unit {0}
IsTurnEnd bound quiet Filled (MayTake true gave) = bound ≡ gave
IsTurnEnd bound quiet Filled (HasTried true) = bound ≡ true
IsTurnEnd bound quiet Filled _ = ⊥
IsTurnEnd bound quiet Idle Stopped = Unit {0}
IsTurnEnd bound quiet Idle (Refrained false) = Unit {0}
IsTurnEnd bound quiet Idle (MayTake false false) = (bound ≡ false) × (quiet ≡ true)
IsTurnEnd bound quiet Idle (HasTried false) = (bound ≡ true) × (quiet ≡ true)
IsTurnEnd bound quiet Idle _ = ⊥
IsTurnEnd bound quiet Worked Clogged = Unit {0}
IsTurnEnd bound quiet Worked Brimming = Unit {0}
IsTurnEnd bound quiet Worked Ending = Unit {0}
IsTurnEnd bound quiet Worked (MayTake false true) = bound ≡ true
IsTurnEnd bound quiet Worked (MayTake false false) = (bound ≡ false) × (quiet ≡ false)
IsTurnEnd bound quiet Worked (HasTried false) = (bound ≡ true) × (quiet ≡ false)
IsTurnEnd bound quiet Worked _ = ⊥

abbrev pub IsTurn : Bool → Bool → Result TurnEnd Fault → Phase → Type 0
IsTurn bound quiet (Ok end) p = IsTurnEnd bound quiet end p
IsTurn bound quiet (Err e) p = Faulted e p

-- every whole PDU was decided, and the link goes on
abbrev pub is_all_decided : Phase → Bool
is_all_decided (Settled full) = not full
is_all_decided (MayTake full gave) = not full
is_all_decided (HasTried full) = not full
is_all_decided (Refrained full) = not full
is_all_decided _ = false

-- a call that succeeds leads to this phase, and one that fails to where its fault may stand
abbrev pub LeadsTo : {A : Type 0} → Result A Fault → (A → Phase) → Phase → Type 0
LeadsTo (Ok x) next p = p ≡ next x
LeadsTo (Err e) next p = Faulted e p

-- how a part of a turn may end the turn
pub record EndsEarly (end : TurnEnd) (p : Phase) : Type 0 where
  pub allowed : (bound quiet : Bool) → IsTurnEnd bound quiet end p
  pub early : is_all_decided p ≡ false

-- a part of a turn ends the turn, or comes so far
abbrev pub IsCourse : Result Course Fault → Phase → Type 0
IsCourse (Ok (course.Ends end)) p = EndsEarly end p
IsCourse (Ok (course.Goes full)) p = p ≡ Settled full
IsCourse (Err e) p = Faulted e p

-- a part of a turn ends the turn, or leads to this phase
abbrev pub EndsOr : Phase → Option TurnEnd → Phase → Type 0
EndsOr q (Some end) p = EndsEarly end p
EndsOr q None p = p ≡ q

abbrev pub IsPart : Phase → Result (Option TurnEnd) Fault → Phase → Type 0
IsPart q (Ok end) p = EndsOr q end p
IsPart q (Err e) p = Faulted e p

-- where deciding stops
abbrev pub when_progress : Source → Progress → Phase
when_progress s progress.Over = Closing
when_progress s progress.Brimming = when_full s
when_progress s progress.Filled = when_filled s
when_progress s progress.Part = when_part s

abbrev pub when_next : Source → Next → Phase
when_next s next.More = Deciding (going_on s)
when_next s next.Filled = when_filled s
when_next s next.Part = when_part s
when_next s next.Over = Closing

abbrev pub when_front : Source → Front → Phase
when_front s front.Whole = Deciding s
when_front s front.Part = when_part s
when_front s front.Broken = Closing

-- and where that leaves the turn, but for what an end of the work leaves to write
abbrev pub when_halted : Progress → Phase
when_halted progress.Over = Closing
when_halted progress.Brimming = Brimming
when_halted progress.Filled = Settled true
when_halted progress.Part = Settled false

-- the PDUs behind this read, or those that an earlier turn left of which one was decided
abbrev pub source_of : Option Polled → Source
source_of None = Earlier true
source_of (Some polled) = Behind polled

abbrev pub has_end : Option Polled → Bool
has_end None = false
has_end (Some polled) = is_end polled

abbrev pub quiet_end : Bool → TurnEnd
quiet_end true = Idle
quiet_end false = Worked

-- a message that filled a box ends the turn so
abbrev pub filled_or : Bool → TurnEnd → TurnEnd
filled_or true end = Filled
filled_or false end = end

-- what waits for the link where a turn stands so, and what no PDU has of the octets that were read
abbrev pub Waits : Phase → List ℕ → List ℕ → Type 0
Waits Clogged unsent rest = unsent ≢ []
Waits Ending unsent rest = unsent ≢ []
Waits Brimming unsent rest = 65536 ≤ length unsent
Waits (MayTake full true) unsent rest = 65536 ≤ length unsent
Waits Over unsent rest = unsent ≡ []
Waits Drained unsent rest = HasNone 65536 rest
Waits _ unsent rest = Unit {0}

-- how often a call says that the link failed
abbrev pub link_faults : {A : Type 0} → Result A Fault → ℕ
link_faults (Ok x) = 0
link_faults (Err fault.Link) = 1
link_faults (Err fault.Spent) = 0
link_faults (Err fault.NoMemory) = 0
