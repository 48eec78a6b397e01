use Rattle.smx_lane.proofs.Calling as lane
use Rattle.smx_shared.proofs.Calls.{admit_made}
use Rattle.smx_shared.proofs.lane_call.AdmittingLaneCall.make.Goals as goal

pub returns : goal.returns
returns c = admit_made c.args.by c.args.self.client c.args.lane.now c.make_room.new.lane c.admit.new.self c.admit.result c.make_room.ensures.met c.make_room.ensures.agrees c.admit.ensures.limits
    (lane.admit_made c.make_room.new.lane _ _ _ c.admit.result c.admit.ensures.reply c.admit.ensures.agrees c.admit.ensures.err)
