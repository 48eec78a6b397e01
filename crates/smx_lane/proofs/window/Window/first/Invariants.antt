use Rattle.std.proofs.Common.{◌≡◌, ◌<◌, ℕ, slice_get, Some, None}
use Rattle.smx_lane.proofs.window.Window.first.Given as goal

abbrev pub invariant-loop-at : goal.invariant-loop-at
invariant-loop-at l = (k : ℕ) → k < l.at → slice_get l.self-inside.rows k ≡ Some None
