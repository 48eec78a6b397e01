use Rattle.std.proofs.Common.{◌∙◌, None, arith, rules}
use Rattle.std.proofs.lemmas.List.{get_or_past}
use Rattle.smx_lines.proofs.KnownClients.{client_read}
use Rattle.smx_lines.proofs.state.Clients.get.Goals as goal

pub returns-then-at-len-clause-none : goal.returns-then-at-len-clause-none
returns-then-at-len-clause-none c = get_or_past c.args.self.now.list.items c.args.client None (omega arith)

pub returns-in-Some-clause-some : goal.returns-in-Some-clause-some
returns-in-Some-clause-some c = client_read c.args.self.now.list.items c.args.client c.index.result.now (omega arith) (search rules) ∙ (search rules)

pub returns-in-None-clause-none : goal.returns-in-None-clause-none
returns-in-None-clause-none c = client_read c.args.self.now.list.items c.args.client c.index.result.now (omega arith) (search rules) ∙ (search rules)
