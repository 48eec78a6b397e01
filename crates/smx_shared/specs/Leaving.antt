-- What retiring a client leaves on each lane.
use Rattle.std.specs.Prelude.{◌≡◌, ◌⊎◌, ℕ, ◌≤◌, ◌<◌, Bool, true, false, List, length, slice_get, Some, None}
use Rattle.smx_lock.specs.Fronts.{Front, IsSpent}
use Rattle.smx_history.specs.declared.limits.Limits.{Limits}
use Rattle.smx_history.specs.declared.note.Note.{Note}
use Rattle.smx_shared.specs.Views.{PortView, DepartedView, locks_of}
use Rattle.smx_shared.specs.Serving.{RetireServes}

-- the lane's tickets are spent, or one hold retired the client
abbrev pub LeavesOrIsSpent : ℕ → Front Note Limits → Front Note Limits → Type 0
LeavesOrIsSpent c f g = IsSpent f g ⊎ RetireServes f g c

-- each lane below `to` was left, and the others are as they were
pub record LeavesBelow (to c : ℕ) (old new : List (Front Note Limits)) : Type 0 where
  pub count : length new ≡ length old
  pub left : (k : ℕ) (f g : Front Note Limits) → k < to → slice_get old k ≡ Some f → slice_get new k ≡ Some g → LeavesOrIsSpent c f g
  pub above : (k : ℕ) → to ≤ k → slice_get new k ≡ slice_get old k
  pub locks : locks_of new ≡ locks_of old

-- below `to` the client was retired on every lane, or some lane is spent
abbrev pub Retired : Bool → ℕ → ℕ → List (Front Note Limits) → List (Front Note Limits) → Type 0
Retired true to c old new = (k : ℕ) (f g : Front Note Limits) → k < to → slice_get old k ≡ Some f → slice_get new k ≡ Some g → RetireServes f g c
Retired false to c old new = (k : ℕ) × (f : Front Note Limits) × (g : Front Note Limits) × (k < to) × (slice_get old k ≡ Some f) × (slice_get new k ≡ Some g) × IsSpent f g

-- every lane was left by the port's seats, and these are handed back
pub record HasLeft (all : Bool) (v : PortView) (d : DepartedView) : Type 0 where
  pub client : d.client ≡ v.client
  pub barred : d.barred ≡ None
  pub left : LeavesBelow (length v.fronts) v.client v.fronts d.fronts
  pub retired : Retired all (length v.fronts) v.client v.fronts d.fronts
