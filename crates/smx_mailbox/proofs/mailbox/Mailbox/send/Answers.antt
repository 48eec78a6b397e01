use Rattle.std.proofs.Common.{◌++◌, ap, refl, arith}
use Rattle.smx_mailbox.specs.Mailbox.{pdus_sent}
use Rattle.smx_mailbox.proofs.Sending.{length-sent}
use Rattle.smx_mailbox.proofs.mailbox.Mailbox.send.Goals as goal

pub loop-pdu-init : goal.loop-pdu-init
loop-pdu-init c =
    let box = c.self.inside in
    rw (← c.self.view_is) (record {
      all = ap (λ xs. xs ++ pdus_sent box.window box.waiting.items) c.in_ok-pdus.ensures.items;
      left = refl;
      room = omega (arith, length-sent box.window box.waiting.items, c.len.ensures.len, c.in_ok-pdus.ensures.capacity);
    })
