use Rattle.smx_ticket_core.proofs.Holds.{exclusion}
use Rattle.smx_ticket_core.proofs.law.exclusion_law.Goals as goal

pub returns : goal.returns
returns c = exclusion
