use Rattle.std.proofs.Common.{◌≡◌, ◌&&◌, refl, sym, ap, ◌∙◌}
use Rattle.smx_session.specs.Moments.{enquiry, after_moment}
use Rattle.smx_turns.specs.declared.step.Step.TheVariants.{Did}
use Rattle.smx_upstream.specs.declared.event.Event.TheVariants.{Looked}
use Rattle.smx_upstream.specs.Events.{silent_end}
use Rattle.smx_upstream.specs.Phases.{Written, when_gone}
use Rattle.smx_turns.proofs.Breaking.{stays_bad}
use Rattle.smx_upstream.proofs.Eventful.{did, goes_alone, stands_same, ends_so}
use Rattle.smx_upstream.proofs.Cells.{stepped, cell_looked, at_its_moment}
use Rattle.smx_upstream.proofs.worker.UpstreamWorker.look.Goals.{then-left, else-left}
use Rattle.smx_upstream.proofs.worker.UpstreamWorker.look.Goals as goal

pub invariant_of-self : goal.invariant_of-self
invariant_of-self g c =
    let both : (c.args.left && c.was_silent-silent.result) ≡ c.if-left.gone = elim c.if-left.branch [ then-left w ↦ ap (λ b. b && c.was_silent-silent.result) w.if-left.true ∙ sym w.gone-is | else-left w ↦ ap (λ b. b && c.was_silent-silent.result) w.if-left.false ∙ sym w.if-left.false ∙ sym w.gone-is ] in
    did _ _ (Looked c.args.now c.of.result c.args.left c.was_silent-silent.result) c.self.invariant c.note.ensures.events (ap (λ w. w.heard) c.note.ensures.same) refl c.note.ensures.said refl
    (c.of.ensures ∙ c.on_moment-due.ensures.enquiry ∙ ap (λ u. enquiry u c.args.now) c.was_silent-silent.ensures.same, c.was_silent-silent.ensures.silent, stands_same (c.on_moment-due.ensures.session ∙ ap (λ u. after_moment u c.args.now) c.was_silent-silent.ensures.same) refl refl refl refl refl)
    (λ h. ap (λ w. w.failed) c.note.ensures.same ∙ c.self.invariant.goes_on (ap (λ w. w.ending) c.self.view_is ∙ c.requires.goes_on)) (c.silent_end-ends.ensures ∙ ap silent_end (sym both) ∙ ends_so _ _ (ap (λ w. w.ending) c.self.view_is ∙ c.requires.goes_on)) (stays_bad refl (ap (λ w. w.failed) c.note.ensures.same) (ap (λ w. w.rest) c.note.ensures.same)) refl (refl, refl)

pub returns-clause-goes : goal.returns-clause-goes
returns-clause-goes g c = rw (← c.self.view_is)
    (λ turn asked told queries. goes_alone g.L.Link.offered g.L.Link.polls g.L.Link.failures turn asked told queries _ _ _ _ _ _ _ _ _ _ (Looked c.args.now c.of.result c.args.left c.was_silent-silent.result) c.note.ensures.log tt (c.of.ensures ∙ c.on_moment-due.ensures.enquiry ∙ ap (λ u. enquiry u c.args.now) c.was_silent-silent.ensures.same, c.was_silent-silent.ensures.silent, stands_same (c.on_moment-due.ensures.session ∙ ap (λ u. after_moment u c.args.now) c.was_silent-silent.ensures.same) refl refl refl refl refl) refl refl c.note.ensures.events c.note.ensures.unsent (ap (λ w. w.link) c.note.ensures.same))

pub returns-clause-phase : goal.returns-clause-phase
returns-clause-phase g c = λ t same was.
    let both : (c.args.left && c.was_silent-silent.result) ≡ c.if-left.gone = elim c.if-left.branch [ then-left w ↦ ap (λ b. b && c.was_silent-silent.result) w.if-left.true ∙ sym w.gone-is | else-left w ↦ ap (λ b. b && c.was_silent-silent.result) w.if-left.false ∙ sym w.if-left.false ∙ sym w.gone-is ] in
    stepped t _ _ (Did (Looked c.args.now c.of.result c.args.left c.was_silent-silent.result)) (Written c.args.left) _ c.note.ensures.log (cell_looked t c.args.left _ _ _ ∙ at_its_moment t _ _ same) was ∙ ap (when_gone c.args.left) (both ∙ sym c.note.ensures.answer)
