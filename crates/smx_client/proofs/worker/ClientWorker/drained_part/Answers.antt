use Rattle.std.proofs.Common.{is_some, ◌∙◌, sym, ap}
use Rattle.smx_client.specs.Table.{when_drained}
use Rattle.smx_client.proofs.Cells as cell
use Rattle.smx_client.proofs.worker.ClientWorker.drained_part.Goals as goal

pub returns-then-is_waiting-clause-phase : goal.returns-then-is_waiting-clause-phase
returns-then-is_waiting-clause-phase g c = λ t parked at.
    c.put_again.ensures.phase t _ _ (at ∙ ap when_drained (parked ∙ ap (λ w. is_some w.parked) (sym c.self.view_is) ∙ sym c.if-is_waiting.ensures.there)) (λ lane reply. cell.drained_again t lane reply)

pub returns-clause-phase : goal.returns-clause-phase
returns-clause-phase g c = λ t parked at. at ∙ ap when_drained (parked ∙ ap (λ w. is_some w.parked) (sym c.self.view_is) ∙ sym c.if-is_waiting.ensures.there)
