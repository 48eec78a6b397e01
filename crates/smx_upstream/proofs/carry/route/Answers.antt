use Rattle.std.proofs.Common.{rules, ◌∙◌, ap, refl, subst, sym}
use Rattle.smx_pdu.specs.Reading.{destination_at}
use Rattle.smx_session.specs.declared.up_act.UpAct.TheVariants as act
use Rattle.smx_upstream.specs.declared.event.Fate.{Fate}
use Rattle.smx_upstream.specs.Standing.{Becomes}
use Rattle.smx_upstream.proofs.carry.route.Goals as goal

pub to_box-requires-clause-read : goal.to_box-requires-clause-read
to_box-requires-clause-read g c = (_, ap destination_at (sym c.as_slice.ensures.value) ∙ c.in-Ok.ensures.read)

pub returns-in_default-clause-becomes : goal.returns-in_default-clause-becomes
returns-in_default-clause-becomes g c =
    subst (λ (f : Fate). Becomes c.args.pdu act.Mo f c.args.tap.now c.args.senders.now.items c.args.tap.now c.args.senders.now.items) (sym c.refused-in_default.ensures.fate)
    (refl, (_, ap destination_at (sym c.as_slice.ensures.value) ∙ c.in-Ok.ensures.read), tt, refl, refl)

pub returns-then-place-len-clause-becomes : goal.returns-then-place-len-clause-becomes
returns-then-place-len-clause-becomes g c =
    subst (λ (f : Fate). Becomes c.args.pdu act.Mo f c.args.tap.now c.args.senders.now.items c.args.tap.now c.args.senders.now.items) (sym c.refused-then-place-len.ensures.fate)
    (refl, (_, ap destination_at (sym c.as_slice.ensures.value) ∙ c.in-Ok.ensures.read), (let h = c.len.ensures in let k = c.if-place-len.true in search rules), refl, refl)
