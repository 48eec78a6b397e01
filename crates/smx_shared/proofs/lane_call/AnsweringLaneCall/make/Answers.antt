use Rattle.smx_lane.proofs.Calling as lane
use Rattle.smx_shared.proofs.Calls.{answer_made}
use Rattle.smx_shared.proofs.lane_call.AnsweringLaneCall.make.Goals as goal

pub returns : goal.returns
returns c = answer_made c.args.by c.args.self.response c.args.lane.now c.answer.new.self c.answer.result c.answer.ensures.limits
    (lane.answer_made c.args.lane.now _ _ _ c.answer.result c.answer.ensures.answered)
