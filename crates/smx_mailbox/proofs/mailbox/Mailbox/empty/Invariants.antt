use Rattle.std.proofs.Common.{◌≡◌, ◌≤◌, ◌++◌, length}
use Rattle.std.specs.Prelude.{vec_capacity}
use Rattle.smx_mailbox.specs.Mailbox.{unanswered_messages, empty_mailbox}
use Rattle.smx_mailbox.proofs.mailbox.Mailbox.empty.Given as goal

-- what was taken and what is left are all, and there is room for it
abbrev pub invariant-loop-message : goal.invariant-loop-message
invariant-loop-message l = record {
  all : l.messages.items ++ unanswered_messages l.self ≡ unanswered_messages l.fn.self;
  left : empty_mailbox l.self ≡ empty_mailbox l.fn.self;
  room : length (unanswered_messages l.fn.self) ≤ vec_capacity l.messages;
}

abbrev pub decreases-loop-message : goal.decreases-loop-message
decreases-loop-message l = length (unanswered_messages l.self)
