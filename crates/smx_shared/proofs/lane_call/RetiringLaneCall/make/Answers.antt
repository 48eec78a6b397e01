use Rattle.smx_lane.proofs.Calling as lane
use Rattle.smx_shared.proofs.Calls.{retire_made}
use Rattle.smx_shared.proofs.lane_call.RetiringLaneCall.make.Goals as goal

pub returns : goal.returns
returns c = retire_made c.args.by c.args.self.client c.args.lane.now c.retire.new.self c.retire.result c.retire.ensures.limits
    (lane.retire_made c.args.lane.now _ _ _ c.retire.result c.requires c.retire.ensures.reply c.retire.ensures.agrees c.retire.ensures.err)
