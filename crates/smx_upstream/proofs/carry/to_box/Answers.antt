use Rattle.std.proofs.Common.{ℕ, List, sym, subst, refl}
use Rattle.smx_box.specs.Boxes.{Sending, LookServes}
use Rattle.smx_session.specs.declared.up_act.UpAct.TheVariants as act
use Rattle.smx_turns.specs.declared.mo_item.MoItem.{MoItem}
use Rattle.smx_turns.specs.Puts.{AtIndex, Puts}
use Rattle.smx_turns.proofs.Putting.{looked_behind}
use Rattle.smx_upstream.specs.declared.event.Fate.{Fate}
use Rattle.smx_upstream.specs.Standing.{Becomes, item_for}
use Rattle.smx_upstream.proofs.carry.to_box.Goals as goal

pub returns-in-Ok-clause-becomes : goal.returns-in-Ok-clause-becomes
returns-in-Ok-clause-becomes g c =
    let old = c.args.senders.now.items in
    let slot = c.args.place.slot in
    let full = c.is_full_at-full.result in
    subst (λ (f : Fate). Becomes c.args.pdu act.Mo f c.args.tap.now old c.args.tap.now c.is_full_at-full.new.senders.items) (sym c.settled.ensures.fate) (
      refl,
      c.requires.read,
      subst (λ (l : List (Sending MoItem)). AtIndex slot old l (λ x y. Puts (item_for c.args.tap.now.lane c.args.place c.in-Some.given c.args.pdu) c.in-Ok.nth x y × LookServes y full)) (sym c.is_full_at-full.ensures.same)
          (subst (λ (lane : ℕ). AtIndex slot old c.put_at.new.senders.items (λ x y. Puts (item_for lane c.args.place c.in-Some.given c.args.pdu) c.in-Ok.nth x y × LookServes y full)) c.lane-lane.ensures
          (looked_behind slot old c.put_at.new.senders.items full (λ x y. Puts (item_for c.lane-lane.result c.args.place c.in-Some.given c.args.pdu) c.in-Ok.nth x y) c.in-Ok.ensures.puts c.is_full_at-full.ensures.looks)),
      refl,
    )
