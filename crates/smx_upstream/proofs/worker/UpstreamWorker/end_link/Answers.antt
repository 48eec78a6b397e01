use Rattle.std.proofs.Common.{refl, sym, ap, ◌∙◌}
use Rattle.std.proofs.lemmas.List.{append-nil}
use Rattle.smx_turns.specs.declared.step.Step.TheVariants.{Did}
use Rattle.smx_turns.specs.Wires.{has_ended as has_link_ended}
use Rattle.smx_turns.proofs.Breaking.{stays_bad}
use Rattle.smx_upstream.specs.declared.event.Event.TheVariants.{LinkEnded}
use Rattle.smx_upstream.specs.Phases.{Ebbed}
use Rattle.smx_upstream.proofs.Eventful.{did, ends_so, goes_alone}
use Rattle.smx_upstream.proofs.Cells.{stepped, cell_ebbed}
use Rattle.smx_upstream.proofs.worker.UpstreamWorker.end_link.Goals as goal

pub invariant_of-self : goal.invariant_of-self
invariant_of-self g c =
    did _ _ LinkEnded c.self.invariant c.jot.ensures.events refl refl (sym (append-nil _)) refl refl
    (λ h. c.self.invariant.goes_on (ap (λ w. w.ending) c.self.view_is ∙ c.requires.goes_on)) (ends_so _ _ (ap (λ w. w.ending) c.self.view_is ∙ c.requires.goes_on)) (stays_bad refl refl refl) refl (refl, refl)

pub returns-clause-goes : goal.returns-clause-goes
returns-clause-goes g c = rw (← c.self.view_is)
    (λ turn asked told queries. goes_alone g.L.Link.offered g.L.Link.polls g.L.Link.failures turn asked told queries _ _ _ _ _ _ _ _ _ _ LinkEnded c.jot.ensures.log (ap (λ w. has_link_ended (g.L.Link.polls w.wire.link)) c.self.view_is ∙ c.requires.ended) refl refl refl c.jot.ensures.events (sym (append-nil _)) refl)

pub returns-clause-phase : goal.returns-clause-phase
returns-clause-phase g c = λ t was. stepped t _ _ (Did LinkEnded) Ebbed _ c.jot.ensures.log (cell_ebbed t) was
