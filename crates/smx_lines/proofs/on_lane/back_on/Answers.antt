use Rattle.std.proofs.Common.{rules}
use Rattle.std.proofs.lemmas.Result.{IfOk-weaker}
use Rattle.smx_lines.proofs.LaneTurns.{answered_queued, answered_late, answered_unknown}
use Rattle.smx_lines.proofs.on_lane.back_on.Goals as goal

pub returns-in-Queued : goal.returns-in-Queued
returns-in-Queued c = λ h a. IfOk-weaker c.queued_line.result _ _ (λ text e. answered_queued h c.args.lane.now c.answer.new.self c.args.response c.in-Queued.client text.items a c.in-Queued.ensures.answered c.answer.ensures.limits e) c.queued_line.ensures

pub returns-in-Late : goal.returns-in-Late
returns-in-Late c = λ h a. IfOk-weaker c.from_slice.result _ _ (λ text e. answered_late h c.args.lane.now c.answer.new.self c.args.response _ text.items a c.in-Late.ensures.answered c.answer.ensures.limits e) (search rules)

pub returns-in-Unknown : goal.returns-in-Unknown
returns-in-Unknown c = λ h a. IfOk-weaker c.from_slice-in-Unknown.result _ _ (λ text e. answered_unknown h c.args.lane.now c.answer.new.self c.args.response _ text.items a c.in-Unknown.ensures.answered e) (search rules)
