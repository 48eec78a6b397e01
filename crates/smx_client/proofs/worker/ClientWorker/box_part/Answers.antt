use Rattle.std.proofs.Common.{is_some, ◌∙◌, sym, refl, ap}
use Rattle.smx_client.proofs.Cells as cell
use Rattle.smx_client.proofs.worker.ClientWorker.box_part.Goals as goal

pub returns-then-is_waiting-clause-phase : goal.returns-then-is_waiting-clause-phase
returns-then-is_waiting-clause-phase g c = λ t at parked is.
    c.put_again.ensures.phase t _ _ at (λ lane reply. cell.boxed_again t lane reply (parked ∙ ap (λ w. is_some w.parked) (sym c.self.view_is) ∙ sym c.if-is_waiting.ensures.there))

pub returns-then-is_full-clause-leads : goal.returns-then-is_full-clause-leads
returns-then-is_full-clause-leads g c = rw (← c.self.view_is) (λ n queries base was. c.mark.ensures.leads n _ _ (c.if-is_full.ensures.0 refl) refl base was)

pub returns-then-is_full-clause-phase : goal.returns-then-is_full-clause-phase
returns-then-is_full-clause-phase g c = λ t at parked is.
    c.mark.ensures.phase t _ at ∙ cell.boxed_full t (parked ∙ ap (λ w. is_some w.parked) (sym c.self.view_is) ∙ sym c.if-is_waiting.ensures.there)

pub returns-then-is_clogged-clause-leads : goal.returns-then-is_clogged-clause-leads
returns-then-is_clogged-clause-leads g c = λ n queries base was. c.mark-then-is_clogged.ensures.leads n _ _ tt (c.if-is_clogged.ensures.clogged refl, refl) base was

pub returns-then-is_clogged-clause-phase : goal.returns-then-is_clogged-clause-phase
returns-then-is_clogged-clause-phase g c = λ t at parked is. c.mark-then-is_clogged.ensures.phase t _ at ∙ cell.boxed_clogged t (parked ∙ ap (λ w. is_some w.parked) (sym c.self.view_is) ∙ sym c.if-is_waiting.ensures.there)
