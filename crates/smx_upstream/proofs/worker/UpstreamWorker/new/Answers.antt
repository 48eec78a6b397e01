use Rattle.std.proofs.Common.{subst, ◌++◌, [], ◌∷◌, refl, sym, ap, ◌∙◌}
use Rattle.smx_upstream.specs.declared.event.Event.TheVariants.{Began}
use Rattle.smx_upstream.specs.Standing.{bind_of, HoldNone}
use Rattle.smx_upstream.proofs.Owed.{emptied_none}
use Rattle.smx_upstream.proofs.Eventful.{began, stands_same}
use Rattle.smx_upstream.proofs.worker.UpstreamWorker.new.Goals as goal

pub invariant_of-result : goal.invariant_of-result
invariant_of-result g c =
    let same = ap (λ w. w.heard) c.say.ensures.same ∙ ap (λ w. w.heard) c.make_room.ensures.same ∙ c.wire_over-wire.ensures.none.0 in
    began _ (Began c.of.result) c.in-Ok.bind (c.and.ensures ∙ ap (λ l. l ++ Began c.of.result ∷ []) c.new.ensures) same refl refl (ap (λ p. p ∷ []) c.of.ensures)
    (c.say.ensures.said ∙ ap (λ l. l ++ c.in-Ok.bind ∷ []) (ap (λ w. w.said) c.make_room.ensures.same ∙ c.wire_over-wire.ensures.none.1))
    (stands_same c.of-origin.ensures.session c.of-origin.ensures.tap c.of-origin.ensures.answers (ap (λ v. v.items) c.of-origin.ensures.senders) (ap (λ v. v.items) c.of-origin.ensures.owed) c.of-origin.ensures.age)
    (subst HoldNone (ap (λ v. v.items) (sym c.of-origin.ensures.owed)) (emptied_none c.args.parts.owed.items c.let_go.new.owed.items c.let_go.ensures))
    (c.of.ensures ∙ c.in-Ok.ensures ∙ ap bind_of (sym c.of-origin.ensures.session), sym (stands_same c.of-origin.ensures.session c.of-origin.ensures.tap c.of-origin.ensures.answers (ap (λ v. v.items) c.of-origin.ensures.senders) (ap (λ v. v.items) c.of-origin.ensures.owed) c.of-origin.ensures.age))
    (ap (λ w. w.failed) c.say.ensures.same ∙ ap (λ w. w.failed) c.make_room.ensures.same ∙ c.wire_over-wire.ensures.failed) refl refl refl
