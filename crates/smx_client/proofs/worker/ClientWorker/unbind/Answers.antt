use Rattle.std.proofs.Common.{refl, ap}
use Rattle.smx_link.specs.Wiring.{Wiring}
use Rattle.smx_turns.proofs.Breaking.{stays_bad}
use Rattle.smx_client.specs.declared.event.Event.TheVariants.{Unbound}
use Rattle.smx_client.proofs.Doings as doing
use Rattle.smx_client.proofs.Serving.{did, stops_closed}
use Rattle.smx_client.proofs.Settling.{still}
use Rattle.smx_client.proofs.Bindings.{going}
use Rattle.smx_client.proofs.worker.ClientWorker.unbind.Goals as goal

pub invariant_of-self : goal.invariant_of-self
invariant_of-self g c =
    let e = c.say_some.ensures.same in
    did g.L.Link.polls _ _ (Unbound c.of.result) c.self.invariant (ap (λ w. w.link) e) (ap (λ w. w.start) e) refl refl refl c.and-self-inside.ensures (going _ _ refl) refl (ap (λ w. w.heard) e) refl
    (doing.unbound _ _ _ _ _ _ _ _ _ _ _ c.of.result c.of.ensures c.stop-unbind.ensures.unbind c.stop-unbind.ensures.session c.say_some.ensures.said)
    (still _ _ _ _ (ap (λ (w : Wiring g.row.L.Denot). w.rest) e) c.self.invariant.settled)
    (stays_bad refl (ap (λ (w : Wiring g.row.L.Denot). w.failed) e) (ap (λ (w : Wiring g.row.L.Denot). w.rest) e))
    (stops_closed g.L.Link.polls _ _ _ _ _ _ (ap (λ w. w.link) e) (ap (λ x. x.state) c.stop-unbind.ensures.session) c.self.invariant.closed)
