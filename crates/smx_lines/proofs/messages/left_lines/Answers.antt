use Rattle.std.proofs.Common.{ap}
use Rattle.smx_lines.specs.Texts.{pdu_line, up_lane}
use Rattle.smx_lines.specs.Messages.{left_line}
use Rattle.smx_lines.proofs.Printing.{printed_more, printed_all}
use Rattle.smx_lines.proofs.messages.left_lines.Goals as goal

pub loop-message-preserved : goal.loop-message-preserved
loop-message-preserved c = printed_more left_line c.args.messages.now c.loop-message.message-index _ c.loop-message.text.items _ _ c.loop-message-test.true c.loop-message.invariant c.in_ok-push_up.ensures (ap (pdu_line (up_lane _)) c.refusal-answer.ensures)

pub returns : goal.returns
returns c = printed_all left_line c.args.messages.now c.loop-message.message-index c.loop-message.text.items c.loop-message-test.false c.loop-message.invariant
