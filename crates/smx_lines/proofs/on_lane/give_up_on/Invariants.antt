use Rattle.std.proofs.Common.{◌≡◌, length}
use Rattle.smx_lines.proofs.GivingUp.{GivingUp}
use Rattle.smx_lines.proofs.on_lane.give_up_on.Given as goal

abbrev pub invariant-loop-failed : goal.invariant-loop-failed
invariant-loop-failed l = record {
  so_far : GivingUp l.fn.lane l.lane;
  limits_are : l.lane.limits ≡ l.fn.lane.limits;
}

abbrev pub decreases-loop-failed : goal.decreases-loop-failed
decreases-loop-failed l = length l.lane.window
