use Rattle.std.proofs.Common.{refl, sym, ap, ◌∙◌}
use Rattle.std.proofs.lemmas.List.{append-nil}
use Rattle.smx_session.specs.Moments.{at, is_silent}
use Rattle.smx_turns.specs.declared.step.Step.TheVariants.{Did}
use Rattle.smx_upstream.specs.declared.event.Event.TheVariants.{Judged}
use Rattle.smx_upstream.specs.Phases.{CaughtUp}
use Rattle.smx_turns.proofs.Breaking.{stays_bad}
use Rattle.smx_upstream.proofs.Eventful.{did, goes_alone, ends_so, stands_same, same_moment}
use Rattle.smx_upstream.proofs.Cells.{stepped, cell_judged}
use Rattle.smx_upstream.proofs.worker.UpstreamWorker.find_silent.Goals as goal

pub invariant_of-self : goal.invariant_of-self
invariant_of-self g c =
    did _ _ (Judged c.is_silent-silent.result) c.self.invariant c.jot.ensures.events refl refl (sym (append-nil _)) refl
    (c.is_silent-silent.ensures.silent ∙ ap (is_silent c.self.inside.session) c.latest-last.ensures, stands_same (c.is_silent-silent.ensures.session ∙ ap (at c.self.inside.session) c.latest-last.ensures ∙ same_moment c.self.inside.session) refl refl refl refl refl)
    (λ h. c.self.invariant.goes_on (ap (λ w. w.ending) c.self.view_is ∙ c.requires.goes_on)) (c.silent_end-self-inside.ensures ∙ ends_so _ _ (ap (λ w. w.ending) c.self.view_is ∙ c.requires.goes_on)) (stays_bad refl refl refl) refl (refl, refl)

pub returns-clause-goes : goal.returns-clause-goes
returns-clause-goes g c = rw (← c.self.view_is)
    (λ turn asked told queries. goes_alone g.L.Link.offered g.L.Link.polls g.L.Link.failures turn asked told queries _ _ _ _ _ _ _ _ _ _ (Judged c.is_silent-silent.result) c.jot.ensures.log tt (c.is_silent-silent.ensures.silent ∙ ap (is_silent c.self.inside.session) c.latest-last.ensures, stands_same (c.is_silent-silent.ensures.session ∙ ap (at c.self.inside.session) c.latest-last.ensures ∙ same_moment c.self.inside.session) refl refl refl refl refl) refl refl c.jot.ensures.events (sym (append-nil _)) refl)

pub returns-clause-phase : goal.returns-clause-phase
returns-clause-phase g c = λ t was. stepped t _ _ (Did (Judged c.is_silent-silent.result)) CaughtUp _ c.jot.ensures.log (cell_judged t _) was
