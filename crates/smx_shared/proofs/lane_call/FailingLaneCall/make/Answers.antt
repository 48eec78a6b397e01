use Rattle.smx_lane.proofs.Calling as lane
use Rattle.smx_shared.proofs.Calls.{fail_made}
use Rattle.smx_shared.proofs.lane_call.FailingLaneCall.make.Goals as goal

pub returns : goal.returns
returns c = fail_made c.args.by c.args.lane.now c.fail.new.self c.fail.result c.fail.ensures.limits
    (lane.fail_made c.args.lane.now _ _ c.fail.result c.fail.ensures.reply c.fail.ensures.failed c.fail.ensures.err)
