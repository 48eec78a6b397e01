use Rattle.smx_lane.proofs.Calling as lane
use Rattle.smx_shared.proofs.Calls.{up_made}
use Rattle.smx_shared.proofs.lane_call.ComingUpLaneCall.make.Goals as goal

pub returns : goal.returns
returns c = up_made c.args.by c.args.lane.now c.up.new.self c.up.result c.up.ensures.limits
    (lane.up_made c.args.lane.now _ _ c.up.result c.up.ensures.reply c.up.ensures.agrees c.up.ensures.err)
