use Rattle.std.proofs.Common.{◌≡◌}
use Rattle.smx_base_cases.proofs.locks.counter.compare_many.Given as goal

abbrev pub invariant-loop : goal.invariant-loop
invariant-loop l = (l.one.lock ≡ l.lock) × (l.two.lock ≡ l.lock)
