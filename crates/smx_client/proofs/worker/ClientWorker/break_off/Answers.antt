use Rattle.std.proofs.Common.{◌++◌, refl, sym, ap, ◌∙◌, subst}
use Rattle.std.proofs.lemmas.List.{append-nil}
use Rattle.smx_link.specs.Wiring.{Wiring, spellings}
use Rattle.smx_client.specs.declared.event.Event.TheVariants.{Broke}
use Rattle.smx_turns.specs.Wires.{IsBad}
use Rattle.smx_client.specs.Events.{act_out, worth}
use Rattle.smx_client.specs.Serving.{Serving}
use Rattle.smx_turns.proofs.Breaking.{bad_as}
use Rattle.smx_client.proofs.Cells as cell
use Rattle.smx_client.proofs.Doings as doing
use Rattle.smx_turns.proofs.Scenes.{happens}
use Rattle.smx_client.proofs.Serving.{did, as_below}
use Rattle.smx_client.proofs.Settling.{still}
use Rattle.smx_client.specs.Parts.{Does}
use Rattle.smx_client.proofs.worker.ClientWorker.break_off.Goals as goal

pub invariant_of-self : goal.invariant_of-self
invariant_of-self g c =
    let e = c.say_act.ensures.same in
    did g.L.Link.polls _ _ (Broke c.of.result) c.self.invariant (ap (λ w. w.link) e) (ap (λ w. w.start) e) refl refl refl c.note.ensures.events c.or_end-self-inside.ensures refl (ap (λ w. w.heard) e) refl
    (doing.broke _ _ _ _ _ _ _ _ _ _ _ c.of.result c.of.ensures c.on_fault-act.ensures.act c.on_fault-act.ensures.state c.say_act.ensures.said)
    (still _ _ _ _ (ap (λ (w : Wiring g.row.L.Denot). w.rest) e) c.self.invariant.settled)
    (record { stays = bad_as c.self.inside.wire c.say_act.new.wire (ap (λ (w : Wiring g.row.L.Denot). w.failed) e) (ap (λ (w : Wiring g.row.L.Denot). w.rest) e); met = λ _. bad_as c.self.inside.wire c.say_act.new.wire (ap (λ (w : Wiring g.row.L.Denot). w.failed) e) (ap (λ (w : Wiring g.row.L.Denot). w.rest) e) (subst (λ (w : Serving g.row.L.Denot). IsBad w.wire) (sym c.self.view_is) c.requires.bad) })
    (λ _ other. absurd (other (ap (λ x. x.state) c.on_fault-act.ensures.state)))

pub returns-clause-moves : goal.returns-clause-moves
returns-clause-moves g c = rw (← c.self.view_is) (λ n asked told queries base was.
    let s = c.self.inside in
    c.note.ensures.leads n _ _ (as_below _ _ c.self.view_is c.requires.below) (happens g.L.Link.offered g.L.Link.polls g.L.Link.failures Does worth asked asked told told queries queries _ _ _ _ _ _ _ _ (Broke c.of.result)
    (doing.broke _ _ _ _ _ _ _ _ _ _ _ c.of.result c.of.ensures c.on_fault-act.ensures.act c.on_fault-act.ensures.state c.say_act.ensures.said)
    refl (sym (append-nil told)) (sym (append-nil queries)) c.note.ensures.events (c.say_act.ensures.unsent ∙ ap (λ a. s.wire.unsent ++ spellings (act_out a)) (sym c.of.ensures))
    (ap (λ w. w.link) c.say_act.ensures.same)) base was)

pub returns-clause-phase : goal.returns-clause-phase
returns-clause-phase g c = λ t ended was. c.note.ensures.phase t _ was ∙ cell.broke t ended c.of.result
