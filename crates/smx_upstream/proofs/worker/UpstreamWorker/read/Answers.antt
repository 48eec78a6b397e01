use Rattle.std.proofs.Common.{refl, sym, ap, ◌∙◌, Ok, Err}
use Rattle.smx_turns.specs.declared.end.Fault.TheVariants as fault
use Rattle.smx_turns.specs.declared.step.Step.TheVariants.{Read}
use Rattle.smx_upstream.specs.Phases.{MayRead, Failed}
use Rattle.smx_turns.specs.Wires.{has_ended as has_link_ended}
use Rattle.smx_turns.proofs.Wires.{ended_by}
use Rattle.smx_turns.proofs.Scenes.{reads}
use Rattle.smx_upstream.proofs.Eventful.{on_hearing, goes_by}
use Rattle.smx_upstream.proofs.Cells.{stepped, cell_read, faulted_as}
use Rattle.smx_upstream.proofs.worker.UpstreamWorker.read.Goals as goal

pub invariant_of-self : goal.invariant_of-self
invariant_of-self g c =
    let on = ap (λ w. w.ending) c.self.view_is ∙ c.requires.goes_on in
    on_hearing _ _ c.self.invariant on refl (ap (λ w. w.heard) c.in-Err.ensures.same ∙ c.self.invariant.heard) (ap (λ w. w.said) c.in-Err.ensures.same)
    (ap (λ w. w.failed) c.in-Err.ensures.same ∙ c.self.invariant.goes_on on)

pub invariant_of-self-2 : goal.invariant_of-self-2
invariant_of-self-2 g c =
    let on = ap (λ w. w.ending) c.self.view_is ∙ c.requires.goes_on in
    on_hearing _ _ c.self.invariant on refl (ap (λ w. w.heard) c.in-Ok.ensures.same ∙ c.self.invariant.heard) (ap (λ w. w.said) c.in-Ok.ensures.same)
    (ap (λ w. w.failed) c.in-Ok.ensures.same ∙ c.self.invariant.goes_on on)

pub returns-in-Err-clause-goes : goal.returns-in-Err-clause-goes
returns-in-Err-clause-goes g c = rw (← c.self.view_is)
    (λ turn asked told queries. goes_by turn _ _ _ _ (Read (Err c.in-Err.fault)) c.push.ensures tt
    (reads g.L.Link.offered g.L.Link.polls g.L.Link.failures asked told queries _ _ _ _ _ _ _ (Err c.in-Err.fault) refl (ap (λ w. w.unsent) c.in-Err.ensures.same) c.in-Err.ensures.offered c.in-Err.ensures.polls c.in-Err.ensures.failures))

pub returns-in-Err-clause-phase : goal.returns-in-Err-clause-phase
returns-in-Err-clause-phase g c = λ t was.
    faulted_as fault.Link _ Failed (stepped t _ _ (Read (Err c.in-Err.fault)) MayRead _ c.push.ensures (cell_read t (Err c.in-Err.fault)) was) tt

pub returns-clause-goes : goal.returns-clause-goes
returns-clause-goes g c = rw (← c.self.view_is)
    (λ turn asked told queries. goes_by turn _ _ _ _ (Read (Ok c.in-Ok.polled)) c.push-2.ensures tt
    (reads g.L.Link.offered g.L.Link.polls g.L.Link.failures asked told queries _ _ _ _ _ _ _ (Ok c.in-Ok.polled) refl (ap (λ w. w.unsent) c.in-Ok.ensures.same) c.in-Ok.ensures.offered c.in-Ok.ensures.polls c.in-Ok.ensures.failures))

pub returns-clause-phase : goal.returns-clause-phase
returns-clause-phase g c = λ t was.
    stepped t _ _ (Read (Ok c.in-Ok.polled)) MayRead _ c.push-2.ensures (cell_read t (Ok c.in-Ok.polled)) was

pub returns-clause-ended : goal.returns-clause-ended
returns-clause-ended g c = sym (ended_by _ (Ok c.in-Ok.polled)) ∙ sym (ap has_link_ended c.in-Ok.ensures.polls)
