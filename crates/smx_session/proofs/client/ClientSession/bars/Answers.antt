use Rattle.smx_session.proofs.Asking.{asked_below}
use Rattle.smx_session.proofs.client.ClientSession.bars.Goals as goal

pub header_response-requires : goal.header_response-requires
header_response-requires c = asked_below _ _ _ c.args.pdu.now _ c.requires.asks.1

pub header_response-requires-in-Request : goal.header_response-requires-in-Request
header_response-requires-in-Request c = asked_below _ _ _ c.args.pdu.now _ c.requires.asks.1
