use Rattle.std.proofs.Common.{rules}
use Rattle.smx_relay.proofs.Standing.{stands_nothing}
use Rattle.smx_relay.proofs.engine.relay.Goals as goal

pub returns-in_default : goal.returns-in_default
returns-in_default g c = stands_nothing (g.W.Write.contents c.args.writer.now) c.args.script.now

pub returns : goal.returns
returns g c = c.relay_lines.ensures c.args.script.now (search rules)
