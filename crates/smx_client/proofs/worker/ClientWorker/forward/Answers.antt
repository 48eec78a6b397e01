use Rattle.std.proofs.Common.{◌≡◌, ◌++◌, refl, sym, ap, ◌∙◌, subst, Some}
use Rattle.smx_link.specs.Wiring.{Wiring, spellings}
use Rattle.smx_session.specs.declared.act.Act.TheVariants as act
use Rattle.smx_session.specs.declared.ask.Ask.TheVariants.{Request}
use Rattle.smx_client.specs.declared.event.Event.TheVariants.{Decided}
use Rattle.smx_client.specs.declared.event.Fate.TheVariants.{Submitted}
use Rattle.smx_client.specs.Events.{submit_told, act_worth, worth}
use Rattle.smx_client.specs.Serving.{Serving, held_asks}
use Rattle.smx_client.proofs.Cells as cell
use Rattle.smx_client.proofs.Doings as doing
use Rattle.smx_client.proofs.Fates.{forward_out, forward_port, forward_lists, stays, request_decides}
use Rattle.smx_turns.proofs.Scenes.{happens}
use Rattle.smx_turns.proofs.Breaking.{stays_bad}
use Rattle.smx_client.proofs.Serving.{did, as_below, decides, some_asks, undecided, as_closed}
use Rattle.smx_client.proofs.Bindings.{going}
use Rattle.smx_client.specs.Parts.{Does}
use Rattle.std.proofs.lemmas.List.{append-nil}
use Rattle.smx_client.proofs.worker.ClientWorker.forward.Goals as goal

pub invariant_of-self : goal.invariant_of-self
invariant_of-self g c =
    let s = c.self.inside in
    let e = c.say_refusal.ensures.same in
    did g.L.Link.polls _ _ (Decided c.of-read.result c.of-2.result (Submitted c.of-offered.result c.of.result)) c.self.invariant (ap (λ w. w.link) e) (ap (λ w. w.start) e) refl refl c.submit-landed.ensures.locks c.note.ensures.events (going _ _ (ap (λ a. (act_worth a).ends) c.of-2.ensures)) refl (ap (λ w. w.heard) e)
    (decides s.held c.take.new.self c.in-Some.pdu _ c.of-read.ensures c.in-Some.ensures.value c.take.ensures.after)
    (doing.submitted _ _ _ _ _ _ _ _ _ _ c.of-read.result c.of-2.result c.of-offered.result c.of.result
    (c.say_refusal.ensures.said ∙ ap (λ l. s.wire.said ++ l) (forward_out c.in-Some.pdu _ _ c.submit-landed.result _ c.of-2.ensures c.of-read.ensures c.of.ensures))
    (forward_port c.in-Some.pdu _ c.offer_of-offer.result _ c.submit-landed.result _ _ _ c.of-read.ensures c.of-offered.ensures c.of.ensures
    c.offer_of-offer.ensures c.submit-landed.ensures.ok c.submit-landed.ensures.err)
    (λ all has. forward_lists c.offer_of-offer.result _ c.submit-landed.result _ _ all c.of-offered.ensures c.of.ensures (c.submit-landed.ensures.listed all has))
    (stays _ _ _ s.held c.in-Some.pdu _ act.Forward _ (Submitted c.of-offered.result c.of.result) c.in-Some.ensures.value c.of-read.ensures c.of-2.ensures tt
    (request_decides _ _ _ s.held (subst (λ (w : Serving g.row.L.Denot). held_asks w ≡ Some Request) (sym c.self.view_is) c.requires.asks))))
    (undecided _ _ _ c.self.invariant.settled (some_asks _ _ _ s.held _ (subst (λ (w : Serving g.row.L.Denot). held_asks w ≡ Some Request) (sym c.self.view_is) c.requires.asks)))
    (stays_bad refl (ap (λ (w : Wiring g.row.L.Denot). w.failed) e) (ap (λ (w : Wiring g.row.L.Denot). w.rest) e))
    (as_closed g.L.Link.polls _ _ _ _ _ (ap (λ w. w.link) e) c.self.invariant.closed)

pub returns-clause-leads : goal.returns-clause-leads
returns-clause-leads g c = rw (← c.self.view_is) (λ n queries base was.
    let s = c.self.inside in
    c.note.ensures.leads n _ _ (as_below _ _ c.self.view_is c.requires.below) (happens g.L.Link.offered g.L.Link.polls g.L.Link.failures Does worth _ _ _ _ queries queries _ _ _ _ _ _ _ _ (Decided c.of-read.result c.of-2.result (Submitted c.of-offered.result c.of.result))
    (doing.submitted _ _ _ _ _ _ _ _ _ _ c.of-read.result c.of-2.result c.of-offered.result c.of.result
    (c.say_refusal.ensures.said ∙ ap (λ l. s.wire.said ++ l) (forward_out c.in-Some.pdu _ _ c.submit-landed.result _ c.of-2.ensures c.of-read.ensures c.of.ensures))
    (forward_port c.in-Some.pdu _ c.offer_of-offer.result _ c.submit-landed.result _ _ _ c.of-read.ensures c.of-offered.ensures c.of.ensures
    c.offer_of-offer.ensures c.submit-landed.ensures.ok c.submit-landed.ensures.err)
    (λ all has. forward_lists c.offer_of-offer.result _ c.submit-landed.result _ _ all c.of-offered.ensures c.of.ensures (c.submit-landed.ensures.listed all has))
    (stays _ _ _ s.held c.in-Some.pdu _ act.Forward _ (Submitted c.of-offered.result c.of.result) c.in-Some.ensures.value c.of-read.ensures c.of-2.ensures tt
    (request_decides _ _ _ s.held (subst (λ (w : Serving g.row.L.Denot). held_asks w ≡ Some Request) (sym c.self.view_is) c.requires.asks))))
    c.tell_accepted.ensures.asked (c.tell_accepted.ensures.told ∙ ap (λ r. g.G.Gate.told c.args.gate.now ++ submit_told r) (sym c.of.ensures)) (sym (append-nil queries)) c.note.ensures.events (c.say_refusal.ensures.unsent ∙ ap (λ l. s.wire.unsent ++ spellings l) (forward_out c.in-Some.pdu _ _ c.submit-landed.result _ c.of-2.ensures c.of-read.ensures c.of.ensures))
    (ap (λ w. w.link) c.say_refusal.ensures.same)) base was)

pub returns-clause-phase : goal.returns-clause-phase
returns-clause-phase g c = λ t ended was. c.note.ensures.phase t _ was ∙ cell.submits t ended c.of-read.result c.of-2.result c.of-offered.result c.of.result
