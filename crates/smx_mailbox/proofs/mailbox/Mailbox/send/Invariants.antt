use Rattle.std.proofs.Common.{◌≡◌, ◌≤◌, ◌++◌, length}
use Rattle.std.specs.Prelude.{vec_capacity}
use Rattle.smx_mailbox.specs.Mailbox.{pdus_sent, after_sent}
use Rattle.smx_mailbox.proofs.mailbox.Mailbox.send.Given as goal

-- what was sent and what is sent next are all, and there is room for it
abbrev pub invariant-loop-pdu : goal.invariant-loop-pdu
invariant-loop-pdu l = record {
  all : l.pdus.items ++ pdus_sent l.self.window l.self.waiting ≡ pdus_sent l.fn.self.window l.fn.self.waiting;
  left : after_sent l.self.window l.self.waiting ≡ after_sent l.fn.self.window l.fn.self.waiting;
  room : length (pdus_sent l.fn.self.window l.fn.self.waiting) ≤ vec_capacity l.pdus;
}

abbrev pub decreases-loop-pdu : goal.decreases-loop-pdu
decreases-loop-pdu l = length (pdus_sent l.self.window l.self.waiting)
