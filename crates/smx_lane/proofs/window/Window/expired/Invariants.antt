use Rattle.std.proofs.Common.{◌≡◌, ◌<◌, ℕ, slice_get, Some, false}
use Rattle.smx_history.specs.declared.place.Place.{Place}
use Rattle.smx_history.specs.Replies.{is_expired}
use Rattle.smx_lane.proofs.window.Window.expired.Given as goal

abbrev pub invariant-loop-at : goal.invariant-loop-at
invariant-loop-at l = (k : ℕ) (q : Place) → k < l.at → slice_get l.self-inside.rows k ≡ Some (Some q) → is_expired l.now l.age q ≡ false
