use Rattle.std.proofs.Common.{◌∙◌, ap}
use Rattle.smx_turns.specs.declared.gate.Point.TheVariants.{Admitting, Submitting}
use Rattle.smx_turns.specs.declared.step.Step.TheVariants.{Asked}
use Rattle.smx_client.specs.Table.{Deciding, MaySubmit, go}
use Rattle.smx_client.proofs.Cells as cell
use Rattle.smx_client.proofs.worker.ClientWorker.decide_request.Goals as goal

pub returns-then-not-given-clause-phase : goal.returns-then-not-given-clause-phase
returns-then-not-given-clause-phase g c = λ t ended was.
    c.ask-given.ensures.phase t _ was ∙ ap (λ b. go t (Deciding ended) (Asked Submitting b)) c.if-not-given.true ∙ cell.no_submit t ended

pub returns-then-not-admitted-clause-phase : goal.returns-then-not-admitted-clause-phase
returns-then-not-admitted-clause-phase g c = λ t ended was.
    c.bar.ensures.phase t ended
    (c.ask-admitted.ensures.phase t _ (c.ask-given.ensures.phase t _ was ∙ ap (λ b. go t (Deciding ended) (Asked Submitting b)) c.if-not-given.false ∙ cell.yes_submit t ended)
    ∙ ap (λ b. go t (MaySubmit ended) (Asked Admitting b)) c.if-not-admitted.true ∙ cell.no_admit t ended)

pub returns-clause-phase : goal.returns-clause-phase
returns-clause-phase g c = λ t ended was.
    c.forward.ensures.phase t ended
    (c.ask-admitted.ensures.phase t _ (c.ask-given.ensures.phase t _ was ∙ ap (λ b. go t (Deciding ended) (Asked Submitting b)) c.if-not-given.false ∙ cell.yes_submit t ended)
    ∙ ap (λ b. go t (MaySubmit ended) (Asked Admitting b)) c.if-not-admitted.false ∙ cell.yes_admit t ended)

pub returns-in-Some-clause-phase : goal.returns-in-Some-clause-phase
returns-in-Some-clause-phase g c = λ t ended was.
    c.forward_all.ensures.phase t ended
    (c.ask-admitted.ensures.phase t _ (c.ask-given.ensures.phase t _ was ∙ ap (λ b. go t (Deciding ended) (Asked Submitting b)) c.if-not-given.false ∙ cell.yes_submit t ended)
    ∙ ap (λ b. go t (MaySubmit ended) (Asked Admitting b)) c.if-not-admitted.false ∙ cell.yes_admit t ended)
