use Rattle.smx_history.proofs.Beginning.{AgreesWith-new}
use Rattle.smx_lane.proofs.lane.Lane.reserve.Goals as goal

pub returns-clause-agrees : goal.returns-clause-agrees
returns-clause-agrees c =
    let queue = c.in_ok-with_capacity.ensures in
    let entries = c.in_ok-with_capacity-2.ensures.items in
    rw (queue, c.in_ok-new.ensures, c.new-2.ensures, entries) (AgreesWith-new c.args.limits c.requires)
