use Rattle.smx_lane.proofs.Calling as lane
use Rattle.smx_shared.proofs.Calls.{turn_made}
use Rattle.smx_shared.proofs.lane_call.TurningOverLaneCall.make.Goals as goal

pub returns : goal.returns
returns c = turn_made c.args.by c.args.self.least c.args.lane.now c.turn_over.new.self c.turn_over.result c.turn_over.ensures.limits
    (lane.turn_made c.args.lane.now _ _ _ c.turn_over.result c.turn_over.ensures.turned c.turn_over.ensures.err)
