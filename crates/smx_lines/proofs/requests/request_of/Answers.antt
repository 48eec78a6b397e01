use Rattle.std.proofs.Common.{refl}
use Rattle.smx_pdu.specs.Command.{is_forwarded}
use Rattle.smx_lines.specs.Relay.{request_of}
use Rattle.smx_lines.proofs.Offers.{requested}
use Rattle.smx_lines.proofs.requests.request_of.Goals as goal

pub returns : goal.returns
unfolding request_of
returns c = requested c.args.client c.args.ordinal c.args.pdu (is_forwarded c.args.pdu.command) refl _
