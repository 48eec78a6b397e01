use Rattle.std.proofs.Common.{◌≡◌}
use Rattle.smx_shared.specs.Views.{locks_of}
use Rattle.smx_worker_cases.proofs.shared.play.Given as goal

abbrev pub invariant-loop-place : goal.invariant-loop-place
invariant-loop-place g l = locks_of l.door.fronts ≡ l.at
