use Rattle.std.proofs.Common.{◌++◌, refl, sym, ap, ◌∙◌}
use Rattle.std.proofs.lemmas.List.{append-nil}
use Rattle.smx_link.specs.Wiring.{Wiring, spellings}
use Rattle.smx_client.specs.declared.event.Event.TheVariants.{Looked}
use Rattle.smx_client.specs.Events.{enquiry_out, silent_end, is_unanswered, worth}
use Rattle.smx_client.proofs.Cells as cell
use Rattle.smx_client.proofs.Doings as doing
use Rattle.smx_turns.proofs.Scenes.{happens}
use Rattle.smx_turns.proofs.Breaking.{stays_bad}
use Rattle.smx_client.proofs.Serving.{did, as_below, as_closed}
use Rattle.smx_client.proofs.Settling.{still}
use Rattle.smx_client.proofs.Looking.{silent_ends, was_going, looked_front}
use Rattle.smx_client.proofs.Bindings.{ends_by}
use Rattle.smx_client.specs.Parts.{Does}
use Rattle.smx_client.proofs.worker.ClientWorker.enquire.Goals as goal

pub invariant_of-self : goal.invariant_of-self
invariant_of-self g c =
    let e = c.say_enquiry.ensures.same in
    did g.L.Link.polls _ _ (Looked c.args.now c.of.result) c.self.invariant (ap (λ w. w.link) e) (ap (λ w. w.start) e) refl refl refl c.note.ensures.events (ends_by _ _ _ _ c.or_end-self-inside.ensures (c.silent_end.ensures ∙ ap silent_end (c.is_unanswered-silent.ensures ∙ ap is_unanswered (sym c.of.ensures)))) refl (ap (λ w. w.heard) e) refl
    (doing.looked _ _ _ _ _ _ _ _ _ _ c.args.now _ c.of.result c.of.ensures c.on_moment-enquiry.ensures.enquiry c.on_moment-enquiry.ensures.session c.say_enquiry.ensures.said)
    (still _ _ _ _ (ap (λ (w : Wiring g.row.L.Denot). w.rest) e) c.self.invariant.settled)
    (stays_bad refl (ap (λ (w : Wiring g.row.L.Denot). w.failed) e) (ap (λ (w : Wiring g.row.L.Denot). w.rest) e))
    (λ closed on. as_closed g.L.Link.polls _ _ _ _ _ (ap (λ w. w.link) e) c.self.invariant.closed closed (was_going _ _ _ c.on_moment-enquiry.ensures.session on))

pub returns-clause-moves : goal.returns-clause-moves
returns-clause-moves g c = rw (← c.self.view_is) (λ n asked told queries base was.
    let s = c.self.inside in
    c.note.ensures.leads n _ _ (as_below _ _ c.self.view_is c.requires.below) (happens g.L.Link.offered g.L.Link.polls g.L.Link.failures Does worth asked asked told told queries queries _ _ _ _ _ _ _ _ (Looked c.args.now c.of.result)
    (doing.looked _ _ _ _ _ _ _ _ _ _ c.args.now _ c.of.result c.of.ensures c.on_moment-enquiry.ensures.enquiry c.on_moment-enquiry.ensures.session c.say_enquiry.ensures.said)
    refl (sym (append-nil told)) (sym (append-nil queries)) c.note.ensures.events (c.say_enquiry.ensures.unsent ∙ ap (λ a. s.wire.unsent ++ spellings (enquiry_out a)) (sym c.of.ensures))
    (ap (λ w. w.link) c.say_enquiry.ensures.same)) base was)

pub returns-clause-phase : goal.returns-clause-phase
returns-clause-phase g c = λ t was is.
    looked_front _ _ _ _ (c.note.ensures.phase t _ was ∙ cell.looked t c.args.now c.of.result _ is c.of.ensures) c.is_unanswered-silent.ensures c.front_of.ensures.phase

pub returns-clause-gone : goal.returns-clause-gone
returns-clause-gone g c = λ e.
    silent_ends _ _ _ _ c.on_moment-enquiry.ensures.enquiry c.on_moment-enquiry.ensures.session (sym c.is_unanswered-silent.ensures ∙ c.front_of.ensures.gone e)
