use Rattle.std.proofs.Common.{◌∙◌, sym, refl, subst}
use Rattle.smx_client.specs.Table.{Deciding, IsPart}
use Rattle.smx_client.proofs.Cells as cell
use Rattle.smx_client.proofs.Entering.{adds_as}
use Rattle.smx_client.proofs.worker.ClientWorker.enter.Goals as goal

pub returns-clause-leads : goal.returns-clause-leads
returns-clause-leads g c = rw (← c.self.view_is) (λ n asked told base was.
    c.mark.ensures.leads n _ _ (adds_as _ _ _ _ (g.D.Directory.queries c.args.directory.now) (g.D.Directory.queries c.add_all-whole.new.directory) c.add_all-whole.result c.client.ensures c.prefixes_at-prefixes.ensures c.add_all-whole.ensures) refl base was)

pub returns-clause-phase : goal.returns-clause-phase
returns-clause-phase g c = λ t ended was.
    subst (λ p. IsPart (Deciding ended) c.part_entered.result p)
    (sym (c.mark.ensures.phase t _ was ∙ cell.entered t ended c.args.kind c.args.account _ (c.if-not-is_sent.ensures.other refl))) (c.part_entered.ensures.phase ended)
