use Rattle.std.proofs.Common.{◌≡◌, ◌++◌, ℕ, List, rules, subst, sym}
use Rattle.std.proofs.lemmas.Result.{IfOk-weaker}
use Rattle.smx_lines.proofs.ActTurns.{client_answers, client_binds, client_refuses, client_closed, client_forwards, client_leaves, client_hung_up, client_answers_message, client_ignored}
use Rattle.smx_lines.specs.Texts.{pdu_line, to_client}
use Rattle.smx_lines.specs.Relay.{Relay}
use Rattle.smx_lines.specs.Messages.{leave_turn}
use Rattle.smx_lines.specs.ClientTurn.{followed_by}
use Rattle.smx_lines.specs.States.{TurnLeaves}
use Rattle.smx_lines.proofs.Turning.{turned_then}
use Rattle.smx_lines.proofs.client_turn.client_act.Goals as goal

pub returns-in-Answer : goal.returns-in-Answer
returns-in-Answer c = λ s a. IfOk-weaker c.to_line.result _ _ (λ text e. client_answers c.args.client c.args.pdu c.args.act.now c.in-Answer.answer s c.args.state.now text.items c.in-Answer.is a e) c.to_line.ensures

pub returns-in-Bind : goal.returns-in-Bind
returns-in-Bind c = λ s a. IfOk-weaker c.to_line-in-Bind.result _ _ (λ text e. client_binds c.args.client c.args.pdu c.args.act.now c.in-Bind.kind c.in-Bind.account c.in-Bind.answer s c.args.state.now text.items c.in-Bind.is a e) c.to_line-in-Bind.ensures

pub returns-in-Refuse : goal.returns-in-Refuse
returns-in-Refuse c = λ s a. IfOk-weaker c.to_line-in-Refuse.result _ _ (λ text e. client_refuses c.args.client c.args.pdu c.args.act.now c.in-Refuse.answer s c.args.state.now text.items c.in-Refuse.is a e) c.to_line-in-Refuse.ensures

pub returns-in-Closed : goal.returns-in-Closed
returns-in-Closed c = λ s a. IfOk-weaker c.leave-in-Closed.result _ _ (λ text t. client_closed c.args.client c.args.pdu c.args.act.now s c.leave-in-Closed.new.state text.items c.in-Closed.is t) (c.leave-in-Closed.ensures s a)

pub returns-in-Forward : goal.returns-in-Forward
returns-in-Forward c = λ s a. IfOk-weaker c.forward.result _ _ (λ text t. client_forwards c.args.client c.args.pdu c.args.act.now s c.forward.new.state text.items c.in-Forward.is t) (c.forward.ensures s a)

pub returns-in-Hangup : goal.returns-in-Hangup
returns-in-Hangup c = λ s a. IfOk-weaker c.hang_up.result _ _ (λ text t. client_hung_up c.args.client c.args.pdu c.args.act.now c.in-Hangup.answer s c.hang_up.new.state text.items c.in-Hangup.is t) (c.hang_up.ensures s a)

pub returns-in-MoAnswer : goal.returns-in-MoAnswer
returns-in-MoAnswer c = λ s a. IfOk-weaker c.answer.result _ _ (λ text t. client_answers_message c.args.client c.args.pdu c.args.act.now c.in-MoAnswer.number s c.answer.new.state text.items c.in-MoAnswer.is t) (c.answer.ensures s a)

pub returns-in-Ignore : goal.returns-in-Ignore
returns-in-Ignore c = λ s a. client_ignored c.args.client c.args.pdu c.args.act.now s c.args.state.now _ c.in-Ignore.is a c.new.ensures.items

pub returns-in_ok-extend_from_slice-in-Leave : goal.returns-in_ok-extend_from_slice-in-Leave
returns-in_ok-extend_from_slice-in-Leave c = λ s a.
    let client = c.args.client in
    let turn : List ℕ × Relay = (pdu_line (to_client client) c.in-Leave.answer, s) in
    let text = c.in_ok-text-in-Leave.text.items in
    let more = c.in_ok-leave-in-Leave.field-0.items in
    let all = c.extend_from_slice.new.self.items in
    let sum : all ≡ text ++ more = search rules in
    let turned = turned_then turn (leave_turn client) c.args.state.now c.leave.new.state text more (record { text = c.in_ok-text-in-Leave.ensures; left = a }) c.in_ok-leave-in-Leave.ensures in
    client_leaves client c.args.pdu c.args.act.now c.in-Leave.answer s c.leave.new.state all c.in-Leave.is (subst (λ (t : List ℕ). TurnLeaves (followed_by turn (leave_turn client)) c.leave.new.state t) (sym sum) turned)
