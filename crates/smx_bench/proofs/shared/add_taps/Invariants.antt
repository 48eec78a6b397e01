use Rattle.std.proofs.Common.{◌≡◌, slice_get, Some, All}
use Rattle.smx_bench.proofs.shared.add_taps.Given as goal

abbrev pub invariant-loop-tap : goal.invariant-loop-tap
invariant-loop-tap l = All (λ t. slice_get l.at t.lane ≡ Some t.front.lock) l.tap-iterator.rest.items
