use Rattle.std.proofs.Common.{is_some, true≢false, ◌++◌, length, refl, sym, ap, ◌∙◌, subst, Ok, IfOk, IsOk}
use Rattle.smx_box.specs.Boxes.{GetServes, Hands}
use Rattle.smx_link.specs.Wiring.{Wiring, spellings}
use Rattle.smx_client.specs.declared.event.Event.TheVariants.{Got}
use Rattle.smx_client.specs.declared.event.Delivery.TheVariants.{Dropped}
use Rattle.smx_client.specs.Events.{got_out, got_told, worth}
use Rattle.smx_client.specs.Parts.{IsDelivered, Does}
use Rattle.smx_client.specs.Table.{IsPart, Clear, after_got, is_given_at}
use Rattle.smx_client.proofs.Cells as cell
use Rattle.smx_client.proofs.Doings as doing
use Rattle.smx_turns.proofs.Scenes.{happens}
use Rattle.smx_turns.proofs.Breaking.{stays_bad}
use Rattle.smx_client.proofs.Serving.{did, as_below, as_closed}
use Rattle.smx_client.proofs.Settling.{still}
use Rattle.smx_client.proofs.Bindings.{going}
use Rattle.std.proofs.lemmas.List.{append-nil}
use Rattle.smx_client.proofs.worker.ClientWorker.get_one.Goals as goal

pub invariant_of-self : goal.invariant_of-self
invariant_of-self g c = absurd (true≢false (sym (subst (λ r. IsOk r) c.in-Err.is c.get-found.ensures.never_spent)))

pub invariant_of-self-in-Ok : goal.invariant_of-self-in-Ok
invariant_of-self-in-Ok g c =
    let s = c.self.inside in
    let d = c.deliver-delivery.ensures in
    let e = d.says.same in
    did g.L.Link.polls _ _ (Got c.of-seen.result c.deliver-delivery.result) c.self.invariant (ap (λ w. w.link) e) (ap (λ w. w.start) e) refl refl refl c.note-in-Ok.ensures.events (going _ _ refl) refl (ap (λ w. w.heard) e) refl
    (doing.got _ _ _ _ _ _ _ _ _ _ _ _ _ (Ok c.in-Ok.got) c.of-seen.result c.deliver-delivery.result (c.of-seen.ensures ∙ c.in-Ok.is) d.says.said d.window (
      subst (λ r. IfOk r (λ f. GetServes s.inbox c.get-found.new.self.front f)) c.in-Ok.is c.get-found.ensures.served,
      subst (λ r. IfOk r (λ f. Hands s.inbox.got c.get-found.new.self.got f)) c.in-Ok.is c.get-found.ensures.got,
      subst (λ n. IsDelivered n (length s.senders.items) c.in-Ok.got c.deliver-delivery.result) c.client.ensures d.delivered,
    )
    d.so d.parks d.answer)
    (still _ _ _ _ (ap (λ (w : Wiring g.row.L.Denot). w.rest) e) c.self.invariant.settled)
    (stays_bad refl (ap (λ (w : Wiring g.row.L.Denot). w.failed) e) (ap (λ (w : Wiring g.row.L.Denot). w.rest) e))
    (as_closed g.L.Link.polls _ _ _ _ _ (ap (λ w. w.link) e) c.self.invariant.closed)

pub returns-in-Err-clause-leads : goal.returns-in-Err-clause-leads
returns-in-Err-clause-leads g c = absurd (true≢false (sym (subst (λ r. IsOk r) c.in-Err.is c.get-found.ensures.never_spent)))

pub returns-in-Ok-clause-leads : goal.returns-in-Ok-clause-leads
returns-in-Ok-clause-leads g c = rw (← c.self.view_is) (λ n queries base was.
    let s = c.self.inside in
    let d = c.deliver-delivery.ensures in
    let seen = c.of-seen.ensures ∙ c.in-Ok.is in
    c.note-in-Ok.ensures.leads n _ _ (as_below _ _ c.self.view_is c.requires.below) (happens g.L.Link.offered g.L.Link.polls g.L.Link.failures Does worth _ _ _ _ queries queries _ _ _ _ _ _ _ _ (Got c.of-seen.result c.deliver-delivery.result)
    (doing.got _ _ _ _ _ _ _ _ _ _ _ _ _ (Ok c.in-Ok.got) c.of-seen.result c.deliver-delivery.result (c.of-seen.ensures ∙ c.in-Ok.is) d.says.said d.window (
      subst (λ r. IfOk r (λ f. GetServes s.inbox c.get-found.new.self.front f)) c.in-Ok.is c.get-found.ensures.served,
      subst (λ r. IfOk r (λ f. Hands s.inbox.got c.get-found.new.self.got f)) c.in-Ok.is c.get-found.ensures.got,
      subst (λ n. IsDelivered n (length s.senders.items) c.in-Ok.got c.deliver-delivery.result) c.client.ensures d.delivered,
    )
    d.so d.parks d.answer)
    d.asked (d.told ∙ ap (λ r. g.G.Gate.told c.args.gate.now ++ got_told r c.deliver-delivery.result) (sym seen)) (sym (append-nil queries)) c.note-in-Ok.ensures.events (d.says.unsent ∙ ap (λ r. s.wire.unsent ++ spellings (got_out r c.deliver-delivery.result)) (sym seen))
    (ap (λ w. w.link) d.says.same)) base was)

pub returns-in-Err-clause-phase : goal.returns-in-Err-clause-phase
returns-in-Err-clause-phase g c = λ t at parked is.
    c.note.ensures.phase t _ at ∙ cell.boxed_got t c.of-seen.result Dropped (parked ∙ ap is_some c.requires.none) refl ∙ ap (λ r. after_got r Dropped) (c.of-seen.ensures ∙ c.in-Err.is)

pub returns-in-Ok-clause-phase : goal.returns-in-Ok-clause-phase
returns-in-Ok-clause-phase g c = λ t at parked is.
    subst (λ p. IsPart Clear c.progress.result p) (sym (c.note-in-Ok.ensures.phase t _ at ∙ cell.boxed_got t c.of-seen.result c.deliver-delivery.result (parked ∙ ap is_some c.requires.none) (ap (λ n. is_given_at n c.deliver-delivery.result) is ∙ c.deliver-delivery.ensures.given)
    ∙ ap (λ r. after_got r c.deliver-delivery.result) (c.of-seen.ensures ∙ c.in-Ok.is))) c.progress.ensures.phase
