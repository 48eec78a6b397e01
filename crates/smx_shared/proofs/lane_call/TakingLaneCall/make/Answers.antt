use Rattle.smx_lane.proofs.Calling as lane
use Rattle.smx_shared.proofs.Calls.{take_made}
use Rattle.smx_shared.proofs.lane_call.TakingLaneCall.make.Goals as goal

pub returns : goal.returns
returns c = take_made c.args.by c.args.self.now c.args.lane.now c.take.new.self c.take.result c.take.ensures.limits
    (lane.take_made c.args.lane.now _ _ _ c.take.result c.take.ensures.reply c.take.ensures.oldest c.take.ensures.agrees c.take.ensures.err)
