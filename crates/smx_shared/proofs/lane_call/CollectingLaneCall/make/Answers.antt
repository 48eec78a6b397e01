use Rattle.smx_lane.proofs.Calling as lane
use Rattle.smx_shared.proofs.Calls.{collect_made}
use Rattle.smx_shared.proofs.lane_call.CollectingLaneCall.make.Goals as goal

pub returns : goal.returns
returns c = collect_made c.args.by c.args.self.client c.args.lane.now c.collect.new.self c.collect.result c.collect.ensures.limits
    (lane.collect_made c.args.lane.now _ _ _ c.collect.result c.requires c.collect.ensures.collected)
