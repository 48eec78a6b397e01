use Rattle.std.proofs.Common.{◌≡◌, ◌≤◌, ◌+◌, ◌∷◌, [], length, length-append, ap, sym, ◌∙◌, subst, arith}
use Rattle.std.specs.Arc.{arc_value}
use Rattle.crossbeam_queue.specs.Passes.{view, ruled_capacity}
use Rattle.smx_box.specs.Boxes.{StandFrom}
use Rattle.smx_box.specs.Private.Rule.{receiver_known}
use Rattle.smx_box.specs.Private.Ends.{pass_front}
use Rattle.smx_box.proofs.BoxRules.{forks}
use Rattle.smx_box.proofs.BoxPasses.{stand_more, same_queue}
use Rattle.smx_box.proofs.boxed.pass_all.Goals as goal

pub another-theirs-requires-clause-rule : goal.another-theirs-requires-clause-rule
another-theirs-requires-clause-rule g c = forks _ (view c.loop-sender.pass) (ap (λ v. v.told) c.loop-sender.invariant.2) (ap (λ v. v.number) c.loop-sender.invariant.2)

pub loop-sender-preserved : goal.loop-sender-preserved
loop-sender-preserved g c =
    let inv = c.loop-sender.invariant in
    let pushed = c.push_reserved.ensures in
    let s = c.new-in-loop-sender.result in
    let made = c.another-theirs.ensures in
    let q = (pass_front (ruled_capacity (arc_value c.args.queue.now)) c.args.pass.now).queue in
    let here : (pass_front (ruled_capacity (arc_value c.in_ok-owner.owner)) c.another-theirs.result).queue ≡ q = same_queue _ _ _ _
    (made.queue.1.0 ∙ ap (λ z. z.table.shared.table_id) c.deref.ensures ∙ sym c.requires.pass.0) (ap (λ z. ruled_capacity z) c.in_ok-owner.ensures) in
    let table = made.queue.0.0 ∙ inv.0 in (
      table,
      (made.queue.0.0 ∙ inv.1.0, made.queue.0.2 ∙ inv.1.1),
      made.rule.0 ∙ ap receiver_known inv.2,
      pushed.len ∙ ap (λ n. n + 1) inv.3,
      ap length pushed.items ∙ length-append c.loop-sender.all.items (s ∷ []) ∙ ap (λ n. n + 1) inv.4,
      subst (λ n. c.args.senders ≤ n) (sym pushed.capacity) inv.5,
      subst (StandFrom 0 q) (sym pushed.items)
          (stand_more 0 c.loop-sender.sender q c.loop-sender.all.items s inv.6 (let l = inv.4 in omega arith)
          (c.new-in-loop-sender.ensures.sender, c.new-in-loop-sender.ensures.put, ap (λ z. z.queue) (c.new-in-loop-sender.ensures.front ∙ c.new.ensures) ∙ here)),
    )
