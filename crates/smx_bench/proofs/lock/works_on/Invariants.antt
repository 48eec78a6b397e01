use Rattle.std.proofs.Common.{◌≡◌}
use Rattle.smx_bench.proofs.lock.works_on.Given as goal

abbrev pub invariant-loop : goal.invariant-loop
invariant-loop g l = l.seat.lock ≡ l.lock
