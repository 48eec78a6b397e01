use Rattle.std.proofs.Common.{◌<◌, ◌≤◌, ◌++◌, length, refl, sym, ap, ◌∙◌, subst}
use Rattle.std.proofs.lemmas.List.{append-nil}
use Rattle.smx_link.specs.Wiring.{Wiring, spellings}
use Rattle.smx_client.specs.declared.event.Event.TheVariants.{Collected}
use Rattle.smx_client.specs.Events.{response_out, worth}
use Rattle.smx_client.specs.Serving.{Serving}
use Rattle.smx_client.specs.Table.{IsCollectedFrom}
use Rattle.smx_client.proofs.Cells.{collects}
use Rattle.smx_client.proofs.Doings.{collected}
use Rattle.smx_client.proofs.Lengthening.{lengthens, fits}
use Rattle.smx_turns.proofs.Scenes.{happens}
use Rattle.smx_turns.proofs.Breaking.{stays_bad}
use Rattle.smx_client.proofs.Serving.{did, as_below, as_closed}
use Rattle.smx_client.proofs.Settling.{still}
use Rattle.smx_client.proofs.Bindings.{going}
use Rattle.smx_client.specs.Parts.{Does}
use Rattle.smx_client.proofs.worker.ClientWorker.collect_some.Goals as goal

pub say_found-none-requires : goal.say_found-none-requires
say_found-none-requires g c = record {
  room = fits c.args.lane c.self.inside.port c.collect_all-found.new.self c.collect_all-found.result _ c.collect_all-found.ensures.served
      (subst (λ (w : Serving g.row.L.Denot). 65536 ≤ w.wire.room) (sym c.self.view_is) c.requires.room);
}

pub invariant_of-self : goal.invariant_of-self
invariant_of-self g c =
    let e = c.say_found-none.ensures.spoke.same in
    did g.L.Link.polls _ _ (Collected c.args.lane c.of.result) c.self.invariant (ap (λ w. w.link) e) (ap (λ w. w.start) e) refl refl c.collect_all-found.ensures.locks c.note.ensures.events (going _ _ refl) refl (ap (λ w. w.heard) e) refl
    (collected _ _ _ _ _ _ _ _ _ _ _ _ c.of.result c.of.ensures c.say_found-none.ensures.spoke.said (c.collect_all-found.ensures.served, c.collect_all-found.ensures.same) c.collect_all-found.ensures.listed)
    (still _ _ _ _ (ap (λ (w : Wiring g.row.L.Denot). w.rest) e) c.self.invariant.settled)
    (stays_bad refl (ap (λ (w : Wiring g.row.L.Denot). w.failed) e) (ap (λ (w : Wiring g.row.L.Denot). w.rest) e))
    (as_closed g.L.Link.polls _ _ _ _ _ (ap (λ w. w.link) e) c.self.invariant.closed)

pub returns-clause-moves : goal.returns-clause-moves
returns-clause-moves g c = rw (← c.self.view_is) (λ n asked told queries base was.
    let s = c.self.inside in
    c.note.ensures.leads n _ _ (as_below _ _ c.self.view_is c.requires.below) (happens g.L.Link.offered g.L.Link.polls g.L.Link.failures Does worth asked asked told told queries queries _ _ _ _ _ _ _ _ (Collected c.args.lane c.of.result)
    (collected _ _ _ _ _ _ _ _ _ _ _ _ c.of.result c.of.ensures c.say_found-none.ensures.spoke.said (c.collect_all-found.ensures.served, c.collect_all-found.ensures.same) c.collect_all-found.ensures.listed)
    refl (sym (append-nil told)) (sym (append-nil queries)) c.note.ensures.events (c.say_found-none.ensures.spoke.unsent ∙ ap (λ r. s.wire.unsent ++ spellings (response_out r)) (sym c.of.ensures))
    (ap (λ w. w.link) c.say_found-none.ensures.spoke.same)) base was)

pub returns-clause-phase : goal.returns-clause-phase
returns-clause-phase g c = λ t was.
    subst (λ p. IsCollectedFrom c.args.lane c.more_unless_spent-more.result p) (sym (c.note.ensures.phase t _ was ∙ collects t c.args.lane c.of.result _ c.of.ensures)) (c.more_unless_spent-more.ensures.phase c.args.lane)

pub returns-clause-more : goal.returns-clause-more
returns-clause-more g c = rw (← c.self.view_is) (λ more.
    subst (λ us. length c.self.inside.wire.unsent < length us) (sym c.say_found-none.ensures.spoke.unsent)
    (lengthens c.args.lane c.self.inside.port c.collect_all-found.new.self c.collect_all-found.result _ c.collect_all-found.ensures.served (c.more_unless_spent-more.ensures.more more)))
