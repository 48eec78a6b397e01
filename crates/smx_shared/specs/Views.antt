-- What contracts see of a tap, a port, a door, and what a call noted.
use Rattle.std.specs.Prelude.{ℕ, List, map, Option}
use Rattle.smx_lock.specs.Fronts.{LockId, Front}
use Rattle.smx_history.specs.declared.limits.Limits.{Limits}
use Rattle.smx_history.specs.declared.note.Note.{Note}
use Rattle.smx_shared.specs.declared.fault.MakeFault.{MakeFault}

-- a tap: its lane, and the front of its seat there
pub record TapView : Type 0 where
  pub lane : ℕ
  pub front : Front Note Limits

-- a port: its client, its first ordinal and its next, and the fronts of its seats, one a lane
pub record PortView : Type 0 where
  pub client : ℕ
  pub first : ℕ
  pub next : ℕ
  pub fronts : List (Front Note Limits)

abbrev pub locks_of : List (Front Note Limits) → List (LockId Limits)
locks_of fs = map (λ f. f.lock) fs

-- what is left of a client that is gone: its number, the fronts of its seats on the lanes that it entered, from the first lane on, and that on the lane that barred it
pub record DepartedView : Type 0 where
  pub client : ℕ
  pub fronts : List (Front Note Limits)
  pub barred : Option (Front Note Limits)

-- a door: the next client's number, the first ordinal of each, and the fronts of its seats, one a lane
pub record DoorView : Type 0 where
  pub next : ℕ
  pub ordinal : ℕ
  pub fronts : List (Front Note Limits)

-- an exchange that was not made: why, and the front of the seat that found its lane's tickets spent
pub record UnmadeView : Type 0 where
  pub fault : MakeFault
  pub seat : Option (Front Note Limits)
