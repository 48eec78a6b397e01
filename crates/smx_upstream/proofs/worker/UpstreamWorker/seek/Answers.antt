use Rattle.std.proofs.Common.{false, refl, sym, ap, ◌∙◌, subst}
use Rattle.std.specs.Result.{is_err}
use Rattle.smx_turns.specs.declared.step.Step.TheVariants.{Did}
use Rattle.smx_upstream.specs.declared.event.Event.TheVariants.{Sought}
use Rattle.smx_turns.specs.Puts.{Gets}
use Rattle.smx_turns.proofs.Putting.{gets_from}
use Rattle.smx_upstream.specs.Standing.{Settles}
use Rattle.smx_upstream.specs.Phases.{Clear, Deciding, unless_spent}
use Rattle.smx_upstream.specs.Phases.Source.{Earlier}
use Rattle.smx_turns.proofs.Breaking.{stays_bad}
use Rattle.smx_upstream.proofs.Eventful.{did, goes_alone, goes_on}
use Rattle.smx_upstream.proofs.Cells.{stepped, cell_sought}
use Rattle.smx_upstream.proofs.worker.UpstreamWorker.seek.Goals as goal

pub invariant_of-self : goal.invariant_of-self
invariant_of-self g c =
    did _ _ (Sought c.of.result c.settle-under.result) c.self.invariant c.note.ensures.events (ap (λ w. w.heard) c.note.ensures.same) refl c.note.ensures.said refl
    (subst (λ r. Gets c.self.inside.answers c.get-found.new.self r) (sym c.of.ensures) (gets_from c.self.inside.answers c.get-found.new.self c.get-found.result c.get-found.ensures.got c.get-found.ensures.served c.get-found.ensures.never_spent), subst (λ r. Settles r c.settle-under.result c.self.inside.owed.items c.settle-under.new.owed.items) (sym c.of.ensures) c.settle-under.ensures, refl)
    (λ h. ap (λ w. w.failed) c.note.ensures.same ∙ c.self.invariant.goes_on h) (goes_on c.self.inside.ending) (stays_bad refl (ap (λ w. w.failed) c.note.ensures.same) (ap (λ w. w.rest) c.note.ensures.same)) refl (refl, refl)

pub returns-clause-goes : goal.returns-clause-goes
returns-clause-goes g c = rw (← c.self.view_is)
    (λ turn asked told queries. goes_alone g.L.Link.offered g.L.Link.polls g.L.Link.failures turn asked told queries _ _ _ _ _ _ _ _ _ _ (Sought c.of.result c.settle-under.result) c.note.ensures.log tt (subst (λ r. Gets c.self.inside.answers c.get-found.new.self r) (sym c.of.ensures) (gets_from c.self.inside.answers c.get-found.new.self c.get-found.result c.get-found.ensures.got c.get-found.ensures.served c.get-found.ensures.never_spent), subst (λ r. Settles r c.settle-under.result c.self.inside.owed.items c.settle-under.new.owed.items) (sym c.of.ensures) c.settle-under.ensures, refl) refl refl c.note.ensures.events c.note.ensures.unsent (ap (λ w. w.link) c.note.ensures.same))

pub returns-clause-phase : goal.returns-clause-phase
returns-clause-phase g c = λ t was.
    c.unless_spent.ensures.leads (Deciding (Earlier false)) _ (stepped t _ _ (Did (Sought c.of.result c.settle-under.result)) Clear _ c.note.ensures.log (cell_sought t _ _) was
    ∙ ap (λ b. unless_spent b (Deciding (Earlier false))) (ap is_err c.of.ensures ∙ sym c.is_err.ensures.value ∙ sym c.note.ensures.answer))
