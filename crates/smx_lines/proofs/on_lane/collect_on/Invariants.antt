use Rattle.std.proofs.Common.{◌≡◌, length}
use Rattle.smx_history.specs.Replies.{member_with, waiting_in}
use Rattle.smx_lines.proofs.Collecting.{Collecting, IsFed}
use Rattle.smx_lines.proofs.on_lane.collect_on.Given as goal

abbrev pub invariant-loop-response : goal.invariant-loop-response
invariant-loop-response l = record {
  so_far : Collecting l.client l.fn.lane l.lane l.text.items;
  fed : IsFed l.lane;
  limits_are : l.lane.limits ≡ l.fn.lane.limits;
}

abbrev pub decreases-loop-response : goal.decreases-loop-response
decreases-loop-response l = length (waiting_in (member_with l.client l.lane.members))
