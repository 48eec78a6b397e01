use Rattle.std.proofs.Common.{◌++◌, refl, sym, ap, ◌∙◌}
use Rattle.smx_upstream.specs.declared.event.Event.TheVariants.{Unbound}
use Rattle.smx_turns.specs.Worth.{those}
use Rattle.smx_turns.proofs.Breaking.{stays_bad}
use Rattle.smx_upstream.proofs.Eventful.{did, stands_same, goes_on}
use Rattle.smx_upstream.proofs.worker.UpstreamWorker.unbind.Goals as goal

pub invariant_of-self : goal.invariant_of-self
invariant_of-self g c =
    did _ _ (Unbound c.of.result) c.self.invariant c.and-self-inside.ensures (ap (λ w. w.heard) c.send.ensures.same) refl
    (c.send.ensures.said ∙ ap (λ o. c.self.inside.wire.said ++ those o) (sym c.of.ensures)) refl
    (c.of.ensures ∙ c.stop-unbind.ensures.unbind, stands_same c.stop-unbind.ensures.session refl refl refl refl refl)
    (λ h. ap (λ w. w.failed) c.send.ensures.same ∙ c.self.invariant.goes_on h) (goes_on c.self.inside.ending) (stays_bad refl (ap (λ w. w.failed) c.send.ensures.same) (ap (λ w. w.rest) c.send.ensures.same)) refl (refl, refl)
