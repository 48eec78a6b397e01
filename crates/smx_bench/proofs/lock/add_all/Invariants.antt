use Rattle.std.proofs.Common.{◌≡◌}
use Rattle.smx_bench.proofs.lock.add_all.Given as goal

abbrev pub invariant-loop-added : goal.invariant-loop-added
invariant-loop-added g l = l.adder.lock ≡ l.lock
