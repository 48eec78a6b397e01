use Rattle.std.proofs.Common.{refl, sym, ap}
use Rattle.std.proofs.lemmas.List.{append-nil}
use Rattle.smx_turns.specs.declared.step.Step.TheVariants.{Did}
use Rattle.smx_upstream.specs.declared.event.Event.TheVariants.{Opened}
use Rattle.smx_upstream.specs.Phases.{Opening}
use Rattle.smx_turns.proofs.Breaking.{stays_bad}
use Rattle.smx_upstream.proofs.Eventful.{did, goes_alone, stands_same, goes_on}
use Rattle.smx_upstream.proofs.Cells.{stepped, cell_opened}
use Rattle.smx_upstream.proofs.worker.UpstreamWorker.open.Goals as goal

pub invariant_of-self : goal.invariant_of-self
invariant_of-self g c =
    did _ _ (Opened c.next_turn-age.result.turns) c.self.invariant c.jot.ensures.events refl refl (sym (append-nil _)) refl (ap (λ a. a.turns) c.next_turn-age.ensures, stands_same refl refl refl refl refl c.next_turn-age.ensures) c.self.invariant.goes_on (goes_on c.self.inside.ending) (stays_bad refl refl refl) refl (refl, refl)

pub returns-clause-phase : goal.returns-clause-phase
returns-clause-phase g c = λ t. stepped t _ _ (Did (Opened c.next_turn-age.result.turns)) Opening _ c.jot.ensures.log (cell_opened t _)

pub returns-clause-goes : goal.returns-clause-goes
returns-clause-goes g c = rw (← c.self.view_is)
    (λ turn asked told queries. goes_alone g.L.Link.offered g.L.Link.polls g.L.Link.failures turn asked told queries _ _ _ _ _ _ _ _ _ _ (Opened c.next_turn-age.result.turns) c.jot.ensures.log tt (ap (λ a. a.turns) c.next_turn-age.ensures, stands_same refl refl refl refl refl c.next_turn-age.ensures) refl refl c.jot.ensures.events (sym (append-nil _)) refl)
