use Rattle.std.proofs.Common.{◌≡◌, ◌++◌, refl, sym, ap, ◌∙◌, subst, Some}
use Rattle.std.proofs.lemmas.List.{append-nil}
use Rattle.smx_link.specs.Wiring.{Wiring, spellings}
use Rattle.smx_client.specs.declared.event.Event.TheVariants.{Decided}
use Rattle.smx_client.specs.declared.event.Fate.TheVariants.{Barred}
use Rattle.smx_client.specs.Serving.{Serving, held_asks}
use Rattle.smx_client.proofs.Cells as cell
use Rattle.smx_client.proofs.Doings as doing
use Rattle.smx_client.proofs.Fates.{own_out, bars_session}
use Rattle.smx_turns.proofs.Scenes.{happens}
use Rattle.smx_turns.proofs.Breaking.{stays_bad}
use Rattle.smx_client.proofs.Serving.{did, as_below, decides, some_asks, undecided, as_closed}
use Rattle.smx_client.specs.Events.{act_worth, worth}
use Rattle.smx_client.proofs.Bindings.{going, bars_end}
use Rattle.smx_client.specs.Parts.{Does}
use Rattle.smx_client.proofs.worker.ClientWorker.bar.Goals as goal

pub invariant_of-self : goal.invariant_of-self
invariant_of-self g c =
    let s = c.self.inside in
    let e = c.say_act.ensures.same in
    did g.L.Link.polls _ _ (Decided c.of.result c.of-2.result (Barred c.args.leave)) c.self.invariant (ap (λ w. w.link) e) (ap (λ w. w.start) e) refl refl refl c.note.ensures.events (going _ _ (ap (λ a. (act_worth a).ends) (c.of-2.ensures ∙ c.bars-act.ensures) ∙ bars_end c.args.leave _)) refl (ap (λ w. w.heard) e)
    (decides s.held c.take.new.self c.in-Some.pdu _ c.of.ensures c.in-Some.ensures.value c.take.ensures.after)
    (doing.barred _ _ _ _ _ _ _ _ _ c.of.result c.of-2.result c.args.leave (c.say_act.ensures.said ∙ ap (λ l. s.wire.said ++ l) (own_out _ _ c.of-2.ensures))
    (bars_session _ _ s.held c.in-Some.pdu _ _ _ c.args.leave c.in-Some.ensures.value (subst (λ (w : Serving g.row.L.Denot). held_asks w ≡ Some c.args.leave) (sym c.self.view_is) c.requires.asks) c.of.ensures c.of-2.ensures c.bars-act.ensures))
    (undecided _ _ _ c.self.invariant.settled (some_asks _ _ _ s.held _ (subst (λ (w : Serving g.row.L.Denot). held_asks w ≡ Some c.args.leave) (sym c.self.view_is) c.requires.asks)))
    (stays_bad refl (ap (λ (w : Wiring g.row.L.Denot). w.failed) e) (ap (λ (w : Wiring g.row.L.Denot). w.rest) e))
    (as_closed g.L.Link.polls _ _ _ _ _ (ap (λ w. w.link) e) c.self.invariant.closed)

pub returns-clause-moves : goal.returns-clause-moves
returns-clause-moves g c = rw (← c.self.view_is) (λ n asked told queries base was.
    let s = c.self.inside in
    c.note.ensures.leads n _ _ (as_below _ _ c.self.view_is c.requires.below) (happens g.L.Link.offered g.L.Link.polls g.L.Link.failures Does worth asked asked told told queries queries _ _ _ _ _ _ _ _ (Decided c.of.result c.of-2.result (Barred c.args.leave))
    (doing.barred _ _ _ _ _ _ _ _ _ c.of.result c.of-2.result c.args.leave (c.say_act.ensures.said ∙ ap (λ l. s.wire.said ++ l) (own_out _ _ c.of-2.ensures))
    (bars_session _ _ s.held c.in-Some.pdu _ _ _ c.args.leave c.in-Some.ensures.value (subst (λ (w : Serving g.row.L.Denot). held_asks w ≡ Some c.args.leave) (sym c.self.view_is) c.requires.asks) c.of.ensures c.of-2.ensures c.bars-act.ensures))
    refl (sym (append-nil told)) (sym (append-nil queries)) c.note.ensures.events (c.say_act.ensures.unsent ∙ ap (λ l. s.wire.unsent ++ spellings l) (own_out _ _ c.of-2.ensures))
    (ap (λ w. w.link) c.say_act.ensures.same)) base was)

pub returns-clause-phase : goal.returns-clause-phase
returns-clause-phase g c = λ t ended was. c.note.ensures.phase t _ was ∙ cell.barred t ended c.args.leave c.of.result c.of-2.result
