-- A round that makes one thing on each lane.
use Rattle.std.specs.Prelude.{◌≡◌, ◌≤◌, ℕ, List, length, slice_get, Some}
use Rattle.smx_lock.specs.Fronts.{Front}
use Rattle.smx_history.specs.declared.limits.Limits.{Limits}
use Rattle.smx_history.specs.declared.note.Note.{Note}
use Rattle.smx_shared.specs.Views.{locks_of}

-- on each lane below `to` something was made of the seat's front before and after, and the other seats are as they were
pub record Makes {X : Type 0} (Made : ℕ → Front Note Limits → Front Note Limits → X → Type 0) (to : ℕ) (old new : List (Front Note Limits)) (made : List X) : Type 0 where
  pub count : length new ≡ length old
  pub made_count : length made ≡ to
  pub each : (k : ℕ) (f g : Front Note Limits) (x : X) → slice_get old k ≡ Some f → slice_get new k ≡ Some g → slice_get made k ≡ Some x → Made k f g x
  pub above : (k : ℕ) → to ≤ k → slice_get new k ≡ slice_get old k
  pub locks : locks_of new ≡ locks_of old
