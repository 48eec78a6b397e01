use Rattle.smx_shared.proofs.Entering.{first_port, first_accepts}
use Rattle.smx_shared.proofs.port.Port.new.Goals as goal

pub invariant_of-result : goal.invariant_of-result
invariant_of-result c = first_port c.args.client c.args.first c.args.seats.items c.requires.lanes c.requires.first c.requires.admitted

pub returns-clause-listed : goal.returns-clause-listed
returns-clause-listed c = first_accepts c.args.client c.args.first c.args.seats.items c.requires.admitted
