use Rattle.std.proofs.Common.{ℕ, refl, sym, ap, ◌∙◌, subst, Ok, Err}
use Rattle.std.proofs.lemmas.List.{append-nil}
use Rattle.smx_turns.specs.declared.step.Step.TheVariants.{Did}
use Rattle.smx_upstream.specs.declared.event.Event.TheVariants.{Shifted}
use Rattle.smx_upstream.specs.Standing.{Shifts}
use Rattle.smx_upstream.specs.Phases.{Watched, when_kept, unless_spent}
use Rattle.smx_upstream.specs.Events.{is_spent_shift}
use Rattle.smx_turns.proofs.Breaking.{stays_bad}
use Rattle.smx_upstream.proofs.Eventful.{did, lock_now, goes_alone, goes_on}
use Rattle.smx_upstream.proofs.Cells.{stepped, cell_shifted}
use Rattle.std.specs.Prelude.{Option, Result}
use Rattle.std.specs.declared.vec.Vec.{Vec}
use Rattle.std.specs.declared.alloc.Global.{Global}
use Rattle.smx_lock.specs.Fronts.{Front}
use Rattle.smx_history.specs.declared.limits.Limits.{Limits}
use Rattle.smx_history.specs.declared.note.Note.{Note}
use Rattle.smx_history.specs.declared.entry.Entry.{Entry}
use Rattle.smx_shared.specs.declared.fault.TurnFault.{TurnFault}
use Rattle.smx_shared.specs.Serving.{Turns}
use Rattle.smx_upstream.proofs.worker.UpstreamWorker.renew.Goals as goal

as_shifts : (f g : Front Note Limits) (least : ℕ) (r : Result (Option (Vec Entry Global)) TurnFault) → Turns (λ (es : Vec Entry Global). es.items) f g least r → Shifts f g least r
as_shifts f g least (Ok o) t = t
as_shifts f g least (Err e) t = t

pub invariant_of-self : goal.invariant_of-self
invariant_of-self g c =
    did _ _ (Shifted c.least_shift-least.result c.of.result) c.self.invariant c.jot.ensures.events refl refl (sym (append-nil _)) refl (
      c.least_shift-least.ensures,
      subst (Shifts c.self.inside.tap.front c.turn_over-entries.new.self.front c.least_shift-least.result) (sym c.of.ensures) (as_shifts _ _ _ _ c.turn_over-entries.ensures.served),
      c.turn_over-entries.ensures.same.0,
      refl,
    ) c.self.invariant.goes_on (goes_on c.self.inside.ending) (stays_bad refl refl refl) refl c.turn_over-entries.ensures.same

pub returns-clause-goes : goal.returns-clause-goes
returns-clause-goes g c = rw (← c.self.view_is)
    (λ turn asked told queries. goes_alone g.L.Link.offered g.L.Link.polls g.L.Link.failures turn asked told queries _ _ _ _ _ _ _ _ _ _ (Shifted c.least_shift-least.result c.of.result) c.jot.ensures.log tt (
      c.least_shift-least.ensures,
      subst (Shifts c.self.inside.tap.front c.turn_over-entries.new.self.front c.least_shift-least.result) (sym c.of.ensures) (as_shifts _ _ _ _ c.turn_over-entries.ensures.served),
      c.turn_over-entries.ensures.same.0,
      refl,
    ) refl refl c.jot.ensures.events (sym (append-nil _)) refl)

pub returns-clause-phase : goal.returns-clause-phase
returns-clause-phase g c = λ t left was.
    c.unless_spent.ensures.leads (when_kept left) _ (stepped t _ _ (Did (Shifted c.least_shift-least.result c.of.result)) (Watched left) _ c.jot.ensures.log (cell_shifted t left _ _) was
    ∙ ap (λ b. unless_spent b (when_kept left)) (ap is_spent_shift c.of.ensures ∙ sym c.is_spent_shift-spent.ensures))

pub turn_over-entries-requires : goal.turn_over-entries-requires
turn_over-entries-requires g c = lock_now _ _ _ c.self.view_is c.self.invariant c.requires.lock
