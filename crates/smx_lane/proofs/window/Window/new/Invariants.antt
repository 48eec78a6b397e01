use Rattle.std.proofs.Common.{◌≡◌, ◌≤◌, ◌+◌, ℕ, length, Some, slice_get}
use Rattle.std.specs.Prelude.{vec_capacity}
use Rattle.smx_lane.proofs.window.Window.new.Given as goal

abbrev pub invariant-loop-given : goal.invariant-loop-given
invariant-loop-given l = record {
  count : length l.free.items ≡ l.given;
  room : l.most ≤ vec_capacity l.free;
  numbers : (j u : ℕ) → slice_get l.free.items j ≡ Some u → u + j + 1 ≡ l.most;
}
