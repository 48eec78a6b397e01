use Rattle.std.proofs.Common.{◌∙◌, true, false}
use Rattle.smx_client.proofs.Cells as cell
use Rattle.smx_client.proofs.worker.ClientWorker.visit_lane.Goals as goal

pub returns-then-not-ask-clause-phase : goal.returns-then-not-ask-clause-phase
returns-then-not-ask-clause-phase g c = λ t was. c.if-not-ask.ensures.phase t _ was ∙ cell.asks_lane t c.args.lane false

pub returns-clause-phase : goal.returns-clause-phase
returns-clause-phase g c = λ t was. c.collect_lane.ensures.phase t (c.if-not-ask.ensures.phase t _ was ∙ cell.asks_lane t c.args.lane true)

pub returns-clause-leads : goal.returns-clause-leads
returns-clause-leads g c = λ queries base was. c.collect_lane.ensures.moves c.args.turn _ _ queries base (c.if-not-ask.ensures.leads queries _ _ _ _ _ _ base was)
