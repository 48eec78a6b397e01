use Rattle.std.proofs.Common.{rules, sym, ◌∙◌}
use Rattle.std.proofs.lemmas.Result.{IfOk-weaker}
use Rattle.smx_lines.proofs.LaneTurns.{took, took_none, took_full, took_down}
use Rattle.smx_lines.proofs.on_lane.take_on.Goals as goal

pub returns-then-not-is_up : goal.returns-then-not-is_up
returns-then-not-is_up c = λ h a. IfOk-weaker c.down_line.result _ _ (λ text e. took_down h c.args.lane.now c.args.at c.args.moment text.items a (sym c.is_up.ensures ∙ c.if-not-is_up.true) e) c.down_line.ensures

pub returns-in-Ok : goal.returns-in-Ok
returns-in-Ok c = λ h a. IfOk-weaker c.up_line.result _ _ (λ text e. took h c.args.lane.now c.take.new.self c.args.at c.args.moment c.in-Ok.sent.upstream c.in-Ok.sent.request text.items a c.in-Ok.ensures.reply c.in-Ok.ensures.oldest c.in-Ok.ensures.agrees c.in-Ok.ensures.limits e) c.up_line.ensures

pub returns-in-Err-QueueEmpty : goal.returns-in-Err-QueueEmpty
returns-in-Err-QueueEmpty c = λ h a. IfOk-weaker c.empty_line.result _ _ (λ text e. took_none h c.args.lane.now c.take.new.self c.args.at c.args.moment text.items a (sym c.is_up.ensures ∙ c.if-not-is_up.false) (search rules) (search rules) e) c.empty_line.ensures

pub returns-in-Err-WindowFull : goal.returns-in-Err-WindowFull
returns-in-Err-WindowFull c = λ h a. IfOk-weaker c.full_line.result _ _ (λ text e. took_full h c.args.lane.now c.take.new.self c.args.at c.args.moment text.items a (sym c.is_up.ensures ∙ c.if-not-is_up.false) (search rules) (search rules) e) c.full_line.ensures
