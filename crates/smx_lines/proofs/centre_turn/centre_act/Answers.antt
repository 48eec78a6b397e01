use Rattle.std.proofs.lemmas.Result.{IfOk-weaker}
use Rattle.smx_lines.proofs.ActTurns.{centre_answers, centre_leaves, centre_messages, centre_up, centre_failed, centre_closed, centre_ignored, centre_to_lane}
use Rattle.smx_lines.proofs.centre_turn.centre_act.Goals as goal

pub returns-in-ToLane-clause-turned : goal.returns-in-ToLane-clause-turned
returns-in-ToLane-clause-turned c = λ s a. IfOk-weaker c.back.result _ _ (λ text t. centre_to_lane c.args.lane c.args.pdu c.args.act s c.back.new.state text.items c.in-ToLane.is t) (c.back.ensures.turned s a)

pub returns-in-Mo-clause-turned : goal.returns-in-Mo-clause-turned
returns-in-Mo-clause-turned c = λ s a. IfOk-weaker c.message.result _ _ (λ text t. centre_messages c.args.lane c.args.pdu c.args.act s c.message.new.state text.items c.in-Mo.is t) (c.message.ensures.turned s a)

pub returns-in-Answer-clause-turned : goal.returns-in-Answer-clause-turned
returns-in-Answer-clause-turned c = λ s a. IfOk-weaker c.up_line.result _ _ (λ text e. centre_answers c.args.lane c.args.pdu c.args.act c.in-Answer.answer s c.args.state.now text.items c.in-Answer.is a e) c.up_line.ensures

pub returns-in-Leave-clause-turned : goal.returns-in-Leave-clause-turned
returns-in-Leave-clause-turned c = λ s a. IfOk-weaker c.farewell_lines.result _ _ (λ text e. centre_leaves c.args.lane c.args.pdu c.args.act c.in-Leave.answer s c.lower.new.state text.items c.in-Leave.is (c.lower.ensures.agrees s a) e) c.farewell_lines.ensures

pub returns-in-Up-clause-turned : goal.returns-in-Up-clause-turned
returns-in-Up-clause-turned c = λ s a. centre_up c.args.lane c.args.pdu c.args.act s c.args.state.now _ c.in-Up.is a c.new.ensures.items

pub returns-in-Failed-clause-turned : goal.returns-in-Failed-clause-turned
returns-in-Failed-clause-turned c = λ s a. IfOk-weaker c.down_line.result _ _ (λ text e. centre_failed c.args.lane c.args.pdu c.args.act c.in-Failed.field-0 s c.lower-in-Failed.new.state text.items c.in-Failed.is (c.lower-in-Failed.ensures.agrees s a) e) c.down_line.ensures

pub returns-in-Closed-clause-turned : goal.returns-in-Closed-clause-turned
returns-in-Closed-clause-turned c = λ s a. IfOk-weaker c.down_line-in-Closed.result _ _ (λ text e. centre_closed c.args.lane c.args.pdu c.args.act s c.lower-in-Closed.new.state text.items c.in-Closed.is (c.lower-in-Closed.ensures.agrees s a) e) c.down_line-in-Closed.ensures

pub returns-in-Ignore-clause-turned : goal.returns-in-Ignore-clause-turned
returns-in-Ignore-clause-turned c = λ s a. centre_ignored c.args.lane c.args.pdu c.args.act s c.args.state.now _ c.in-Ignore.is a c.new-in-Ignore.ensures.items
