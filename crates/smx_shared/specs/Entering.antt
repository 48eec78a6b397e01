-- How a client enters, lane by lane.
use Rattle.std.specs.Prelude.{◌≡◌, ◌⊎◌, ◌+◌, ◌<◌, ◌≤◌, ◌^◌, ℕ, List, [], ◌∷◌, ◌++◌, length, Ok, Err, Option, Some, None}
use mathlib.Core.List.{IsPrefix}
use Rattle.smx_lock.specs.Fronts.{Front, IsSpent}
use Rattle.smx_history.specs.declared.limits.Limits.{Limits}
use Rattle.smx_history.specs.declared.note.Note.{Note}
use Rattle.smx_history.specs.declared.note.Event.TheVariants as event
use Rattle.smx_history.specs.History.{note}
use Rattle.smx_lane.specs.declared.call.Call.TheVariants as call
use Rattle.smx_history.specs.declared.reply.AdmitFault.TheVariants as admit
use Rattle.smx_shared.specs.declared.fault.EnterFault.{EnterFault}
use Rattle.smx_shared.specs.declared.fault.EnterFault.TheVariants.{Exhausted, Spent, HistoryFull, NoMemory, Known}
use Rattle.smx_shared.specs.Views.{DoorView, PortView, DepartedView, locks_of}
use Rattle.smx_shared.specs.Roomy.{IsCrowded, shifts_before}
use Rattle.smx_shared.specs.Serving.{SplitServes, SplitFails, AdmitServes}
use Rattle.smx_shared.specs.Submits.{OnLane}
use Rattle.smx_shared.specs.Leaving.{LeavesBelow}
use Rattle.smx_shared.specs.Rounds.{Makes}

-- what a door keeps
pub record IsDoor (v : DoorView) : Type 0 where
  pub lanes : (0 < length v.fronts) × (length v.fronts ≤ 16)
  pub next : (0 < v.next) × (v.next ≤ 2 ^ 62 + 1)
  pub ordinal : (0 < v.ordinal) × (v.ordinal ≤ 2 ^ 62)

-- one hold of the door's seat made a seat, and one hold of that admitted the client: it has seen what the door had, and its own notes are the admit, after a shift where the history was found full
pub record Enters (c : ℕ) (f g p : Front Note Limits) : Type 0 where
  pub served : (s : Front Note Limits) × SplitServes f g s × AdmitServes s p c (Ok tt)
  pub begins : IsPrefix f.seen p.seen
  pub mine : p.mine ≡ shifts_before p.number served.2.old (call.Admit p.number c) ++ note p.number (event.Admit c) ∷ []
  pub lock : p.lock ≡ f.lock

-- the client entered each lane below `to`
abbrev pub Entered : ℕ → ℕ → List (Front Note Limits) → List (Front Note Limits) → List (Front Note Limits) → Type 0
Entered to c old new made = Makes (λ k f g p. Enters c f g p) to old new made

-- why a lane refused the client: what the hold of the seat that was made found, or no hold
abbrev pub IsRefusal : ℕ → EnterFault → Front Note Limits → Front Note Limits → Type 0
IsRefusal c Exhausted s p = ⊥
IsRefusal c Spent s p = IsSpent s p
IsRefusal c HistoryFull s p = (h : AdmitServes s p c (Err admit.HistoryFull)) × IsCrowded h.old
IsRefusal c NoMemory s p = AdmitServes s p c (Err admit.NoMemory)
IsRefusal c Known s p = AdmitServes s p c (Err admit.Known)

-- why no seat was made
abbrev pub IsUnmade : EnterFault → Front Note Limits → Front Note Limits → Type 0
IsUnmade Spent f g = SplitFails f g
IsUnmade fault f g = ⊥

-- why the client did not enter a lane: no seat was made, or one was, and the lane refused the client
abbrev pub Barred : ℕ → EnterFault → Option (Front Note Limits) → Front Note Limits → Front Note Limits → Type 0
Barred c fault None f g = IsUnmade fault f g
Barred c fault (Some p) f g = (s : Front Note Limits) × SplitServes f g s × IsRefusal c fault s p

-- the client entered the lanes before this one, and was barred here
abbrev pub StopsAt : ℕ → ℕ → EnterFault → List (Front Note Limits) → List (Front Note Limits) → List (Front Note Limits) → Option (Front Note Limits) → Type 0
StopsAt lane c fault old new made barred = (mid : List (Front Note Limits)) × (lane < length old) × Entered lane c old mid made × OnLane lane mid new (Barred c fault barred)

-- the lanes that it entered were left again, save those that are spent, and the seats are handed back
abbrev pub TurnsBack : ℕ → EnterFault → List (Front Note Limits) → List (Front Note Limits) → DepartedView → Type 0
TurnsBack c fault old new d = (lane : ℕ) × (made : List (Front Note Limits)) × StopsAt lane c fault old new made d.barred × LeavesBelow lane c made d.fronts

-- no seat was made
abbrev pub HasNoSeat : DepartedView → Type 0
HasNoSeat d = (d.fronts ≡ []) × (d.barred ≡ None)

-- the client has its number and a seat on every lane
pub record Admits (v w : DoorView) (p : PortView) : Type 0 where
  pub entered : Entered (length v.fronts) v.next v.fronts w.fronts p.fronts
  pub client : p.client ≡ v.next
  pub ordinals : (p.first ≡ v.ordinal) × (p.next ≡ v.ordinal)
  pub door : w ≡ record v { next = v.next + 1; fronts = w.fronts }
  pub locks : locks_of p.fronts ≡ locks_of v.fronts

-- all but the first refusal use the number up
abbrev pub RefusesEntry : DoorView → DoorView → EnterFault → DepartedView → Type 0
RefusesEntry v w Exhausted d = (v.next ≡ 2 ^ 62 + 1) × (w ≡ v) × HasNoSeat d
RefusesEntry v w NoMemory d = (w ≡ record v { next = v.next + 1; fronts = w.fronts })
    × (((w.fronts ≡ v.fronts) × HasNoSeat d) ⊎ TurnsBack v.next NoMemory v.fronts w.fronts d)
RefusesEntry v w fault d = (w ≡ record v { next = v.next + 1; fronts = w.fronts }) × TurnsBack v.next fault v.fronts w.fronts d
