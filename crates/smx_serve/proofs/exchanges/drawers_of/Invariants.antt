use Rattle.std.proofs.Common.{◌≡◌, slice_get, Some, All}
use Rattle.std.specs.Arc.{arc_value}
use Rattle.smx_serve.proofs.exchanges.drawers_of.Given as goal

abbrev pub invariant-loop-tap : goal.invariant-loop-tap
invariant-loop-tap l = All (λ t. slice_get (arc_value l.at) t.lane ≡ Some t.front.lock) l.tap-iterator.rest.items
