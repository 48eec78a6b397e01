-- What two tokens have seen of one lane.
use Rattle.std.specs.Prelude.{◌≡◌, ◌⊎◌, ◌<◌, ℕ, List, length, slice_get, Option, Some}
use mathlib.Core.List.{IsPrefix}
use Rattle.smx_lock.specs.Fronts.{LockId, Front}
use Rattle.smx_history.specs.declared.limits.Limits.{Limits}
use Rattle.smx_history.specs.declared.note.Note.{Note}
use Rattle.smx_shared.specs.Views.{TapView, locks_of}

-- a door or a port has a seat on each of these lanes, and this is one of them
abbrev pub SitsOnAll : List (Front Note Limits) → List (LockId Limits) → ℕ → Type 0
SitsOnAll fronts locks lane = (locks_of fronts ≡ locks) × (lane < length locks)

-- a tap has its one seat on this lane
abbrev pub SitsOnOne : TapView → List (LockId Limits) → ℕ → Type 0
SitsOnOne t locks lane = (t.lane ≡ lane) × (slice_get locks t.lane ≡ Some t.front.lock)

-- both have a seat, and of what the two have seen one begins with the other
abbrev pub SawOneHistory : Option (Front Note Limits) → Option (Front Note Limits) → Type 0
SawOneHistory (Some f) (Some g) = IsPrefix f.seen g.seen ⊎ IsPrefix g.seen f.seen
SawOneHistory _ _ = ⊥
