use Rattle.std.proofs.Common.{ap}
use Rattle.smx_lines.specs.Texts.{pdu_line, to_client}
use Rattle.smx_lines.proofs.Printing.{printed_more, printed_all}
use Rattle.smx_lines.proofs.messages.sent_lines.Goals as goal

pub loop-pdu-preserved : goal.loop-pdu-preserved
loop-pdu-preserved c = printed_more (pdu_line (to_client c.args.client)) c.args.pdus.now c.loop-pdu.pdu-index c.pdu-item.result c.loop-pdu.text.items _ _ c.loop-pdu-test.true c.loop-pdu.invariant c.in_ok-push_to_client.ensures (ap (pdu_line (to_client c.args.client)) c.pdu-item.is)

pub returns : goal.returns
returns c = printed_all (pdu_line (to_client c.args.client)) c.args.pdus.now c.loop-pdu.pdu-index c.loop-pdu.text.items c.loop-pdu-test.false c.loop-pdu.invariant
