use Rattle.std.proofs.Common.{◌∙◌, refl}
use Rattle.smx_client.proofs.Cells as cell
use Rattle.smx_client.proofs.worker.ClientWorker.decide_part.Goals as goal

pub returns-then-is_clogged-clause-leads : goal.returns-then-is_clogged-clause-leads
returns-then-is_clogged-clause-leads g c = λ base was. c.mark.ensures.leads c.args.turn _ _ tt (c.if-is_clogged.ensures.clogged refl, refl) base (c.loop-log.invariant.leads base was)

pub returns-then-is_clogged-clause-phase : goal.returns-then-is_clogged-clause-phase
returns-then-is_clogged-clause-phase g c = λ t was. c.mark.ensures.phase t _ (c.loop-log.invariant.phase t was) ∙ cell.clogs_decide t c.args.ended
