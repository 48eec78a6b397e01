use Rattle.std.proofs.Common.{◌≡◌, None, length, rules, refl, ap, ◌∙◌, subst}
use Rattle.std.proofs.lemmas.Option.{slice_get_read}
use Rattle.std.proofs.Math.ListN.{set}
use Rattle.smx_routes.specs.Window.{Window, message_for}
use Rattle.smx_upstream.proofs.Owed.{set_same}
use Rattle.smx_upstream.proofs.acting.settle_at.Goals as goal

pub returns-in-None : goal.returns-in-None
returns-in-None c =
    let ws = c.args.owed.now.items in
    let at = slice_get_read ws (length ws) c.args.slot c.index_mut.result.now refl (let h = c.len.ensures in let k = c.if-slot-len.false in search rules) c.index_mut.ensures.value in (
      λ w is. subst (λ (v : Window). message_for c.args.answer.now.number c.args.answer.now.command v.waiting ≡ None) (let same : c.index_mut.result.now ≡ w = cc in same) c.in-None.ensures.none.0,
      ap (set ws c.args.slot) c.in-None.ensures.none.1 ∙ set_same ws c.args.slot c.index_mut.result.now at,
    )
