use Rattle.std.proofs.Common.{◌≡◌}
use Rattle.smx_base_cases.proofs.locks.counter.add_many.Given as goal

abbrev pub invariant-loop : goal.invariant-loop
invariant-loop g l = l.adder.lock ≡ l.lock
