use Rattle.smx_shared.specs.Leaving.{LeavesBelow, Retired}
use Rattle.smx_shared.proofs.retire.retire_all.Given as goal

abbrev pub invariant-loop-lane : goal.invariant-loop-lane
invariant-loop-lane g l = LeavesBelow l.lane l.fn.client l.fn.seats.items l.seats.items × Retired l.all l.lane l.fn.client l.fn.seats.items l.seats.items
