use Rattle.std.proofs.Common.{◌≢◌, refl, sym, ap, ◌∙◌, subst}
use Rattle.smx_session.specs.declared.client_state.ClientState.TheVariants.{Ended}
use Rattle.std.proofs.lemmas.List.{append-nil}
use Rattle.smx_client.specs.declared.event.Event.TheVariants.{Heard}
use Rattle.smx_client.proofs.Cells as cell
use Rattle.smx_client.proofs.Doings as doing
use Rattle.smx_turns.proofs.Scenes.{happens}
use Rattle.smx_turns.proofs.Breaking.{stays_bad}
use Rattle.smx_client.proofs.Serving.{did}
use Rattle.smx_client.proofs.Bindings.{going}
use Rattle.smx_client.specs.Events.{worth}
use Rattle.smx_client.specs.Parts.{Does}
use Rattle.smx_client.proofs.worker.ClientWorker.hear.Goals as goal

pub invariant_of-self : goal.invariant_of-self
invariant_of-self g c =
    did g.L.Link.polls _ _ (Heard c.args.now) c.self.invariant refl refl refl refl refl c.note.ensures.events (going _ _ refl) refl refl refl
    (doing.heard _ _ _ _ _ _ _ _ _ _ c.args.now refl c.on_octets.ensures)
    c.self.invariant.settled (stays_bad refl refl refl)
    (λ closed on. c.self.invariant.closed closed (subst (λ x. x ≢ Ended) (ap (λ s. s.state) c.on_octets.ensures) on))

pub returns-clause-moves : goal.returns-clause-moves
returns-clause-moves g c = rw (← c.self.view_is) (λ n asked told queries base was.
    let s = c.self.inside in
    c.note.ensures.leads n _ _ tt (happens g.L.Link.offered g.L.Link.polls g.L.Link.failures Does worth asked asked told told queries queries _ _ _ _ _ _ _ _ (Heard c.args.now)
    (doing.heard _ _ _ _ _ _ _ _ _ _ c.args.now refl c.on_octets.ensures)
    refl (sym (append-nil told)) (sym (append-nil queries)) c.note.ensures.events (sym (append-nil s.wire.unsent))
    refl) base was)

pub returns-clause-phase : goal.returns-clause-phase
returns-clause-phase g c = λ t was is. c.note.ensures.phase t _ was ∙ cell.heard t c.args.now is
