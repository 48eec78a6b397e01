use Rattle.std.proofs.Common.{◌≡◌}
use Rattle.smx_shared.specs.Views.{locks_of}
use Rattle.smx_bench.proofs.shared.add_clients.Given as goal

abbrev pub invariant-loop : goal.invariant-loop
invariant-loop g l = locks_of l.door.fronts ≡ l.at
