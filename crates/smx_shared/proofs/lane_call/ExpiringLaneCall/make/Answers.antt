use Rattle.smx_lane.proofs.Calling as lane
use Rattle.smx_shared.proofs.Calls.{expiry_made}
use Rattle.smx_shared.proofs.lane_call.ExpiringLaneCall.make.Goals as goal

pub returns : goal.returns
returns c = expiry_made c.args.by c.args.self.now c.args.self.age c.args.lane.now c.fail_expired.new.self c.fail_expired.result c.fail_expired.ensures.limits
    (lane.expiry_made c.args.lane.now _ _ _ _ c.fail_expired.result c.fail_expired.ensures.expired c.fail_expired.ensures.none c.fail_expired.ensures.err)
