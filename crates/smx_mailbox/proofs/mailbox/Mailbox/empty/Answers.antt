use Rattle.std.proofs.Common.{◌++◌, ap, refl, arith}
use Rattle.smx_mailbox.specs.Mailbox.{unanswered_messages}
use Rattle.smx_mailbox.specs.Private.Fields.{mailbox_of}
use Rattle.smx_mailbox.proofs.Rising.{length-unanswered}
use Rattle.smx_mailbox.proofs.mailbox.Mailbox.empty.Goals as goal

pub loop-message-init : goal.loop-message-init
loop-message-init c =
    let box = mailbox_of c.self.inside in
    let kept = c.self.invariant in
    rw (← c.self.view_is) (record {
      all = ap (λ xs. xs ++ unanswered_messages box) c.in_ok-messages.ensures.items;
      left = refl;
      room = omega (arith, length-unanswered box, kept.ring, kept.waiting, kept.unanswered, c.capacity.ensures.capacity, c.in_ok-messages.ensures.capacity);
    })
