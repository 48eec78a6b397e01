use Rattle.std.proofs.Common.{refl, ◌∙◌}
use Rattle.smx_client.proofs.Cells as cell
use Rattle.smx_client.proofs.worker.ClientWorker.look.Goals as goal

pub returns-then-is_clogged-clause-moves : goal.returns-then-is_clogged-clause-moves
returns-then-is_clogged-clause-moves g c = λ n asked told queries base was. c.mark.ensures.leads n _ _ tt (c.if-is_clogged.ensures.clogged refl, refl) base was

pub returns-then-is_clogged-clause-phase : goal.returns-then-is_clogged-clause-phase
returns-then-is_clogged-clause-phase g c = λ t was is. c.mark.ensures.phase t _ was ∙ cell.clogs_look t
