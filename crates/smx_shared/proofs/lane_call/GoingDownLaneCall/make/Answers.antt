use Rattle.smx_lane.proofs.Calling as lane
use Rattle.smx_shared.proofs.Calls.{down_made}
use Rattle.smx_shared.proofs.lane_call.GoingDownLaneCall.make.Goals as goal

pub returns : goal.returns
returns c = down_made c.args.by c.args.lane.now c.down.new.self c.down.result c.down.ensures.limits
    (lane.down_made c.args.lane.now _ _ c.down.result c.down.ensures.reply c.down.ensures.agrees c.down.ensures.err)
