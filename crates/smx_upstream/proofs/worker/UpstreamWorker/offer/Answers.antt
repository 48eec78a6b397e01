use Rattle.std.proofs.Common.{refl, ap, ◌∙◌, length, not, rules}
use Rattle.std.specs.Prelude.{◌==◌}
use Rattle.smx_turns.specs.declared.end.Fault.TheVariants as fault
use Rattle.smx_turns.specs.declared.step.Step.TheVariants.{Marked}
use Rattle.smx_turns.specs.declared.mark.Mark.TheVariants.{WriteFailed}
use Rattle.smx_upstream.specs.Phases.{Ready, Closing, Failed}
use Rattle.smx_turns.proofs.Wires.{clear_so}
use Rattle.smx_turns.proofs.Scenes.{offers, write_fails}
use Rattle.smx_upstream.proofs.Eventful.{goes_by}
use Rattle.smx_upstream.proofs.Cells.{stepped, cell_offered, cell_closed, cell_unwritten, cell_unclosed, said_so, faulted_as}
use Rattle.smx_upstream.proofs.worker.UpstreamWorker.offer.Goals as goal

pub returns-then-is_err-clause-opening : goal.returns-then-is_err-clause-opening
returns-then-is_err-clause-opening g c = λ t waits was. faulted_as fault.Link _ Failed (stepped t _ _ (Marked WriteFailed) Ready _ c.push.ensures (cell_unwritten t) was) tt

pub returns-then-is_err-clause-closing : goal.returns-then-is_err-clause-closing
returns-then-is_err-clause-closing g c = λ t was. faulted_as fault.Link _ Failed (stepped t _ _ (Marked WriteFailed) Closing _ c.push.ensures (cell_unclosed t) was) tt

pub returns-then-is_err-clause-goes : goal.returns-then-is_err-clause-goes
returns-then-is_err-clause-goes g c = rw (← c.self.view_is)
    (λ turn asked told queries. goes_by turn _ _ _ _ (Marked WriteFailed) c.push.ensures tt
    (write_fails g.L.Link.offered g.L.Link.polls g.L.Link.failures asked told queries _ _ _ _ _ _ _ refl c.offer.ensures.offered c.offer.ensures.polls (search rules)))

pub returns-clause-opening : goal.returns-clause-opening
returns-clause-opening g c = rw (← c.self.view_is)
    (λ t waits. stepped t _ _ _ Ready _ c.push-2.ensures (cell_offered t _ _ _ ∙ said_so _ _ _ _ waits c.is_clear-waited.ensures))

pub returns-clause-closing : goal.returns-clause-closing
returns-clause-closing g c = λ t. stepped t _ _ _ Closing _ c.push-2.ensures (cell_closed t _ _ _)

pub returns-clause-goes : goal.returns-clause-goes
returns-clause-goes g c = rw (← c.self.view_is)
    (λ turn asked told queries. goes_by turn _ _ _ _ _ c.push-2.ensures tt
    (offers g.L.Link.offered g.L.Link.polls g.L.Link.failures asked told queries _ _ _ _ _ _ _ _ _ _ refl (clear_so _ _ c.is_clear-waited.ensures)
    (c.differ-wrote.ensures ∙ ap (λ k. not (k == c.unsent-before.result)) c.unsent.ensures ∙ ap (λ k. not (length c.offer.new.self.unsent == k)) c.unsent-before.ensures)
    (clear_so _ _ c.is_clear-left.ensures) c.offer.ensures.offered c.offer.ensures.polls (search rules)))
