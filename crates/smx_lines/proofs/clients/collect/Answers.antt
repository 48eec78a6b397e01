use Rattle.std.proofs.Common.{rules}
use Rattle.smx_lines.proofs.KnownClients.{some_found}
use Rattle.smx_lines.proofs.clients.collect.Goals as goal

pub send-requires : goal.send-requires
send-requires c = some_found c.get.result c.args.state.now.clients.list.items c.args.client (search rules) c.get.ensures.some
