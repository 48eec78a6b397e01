use Rattle.std.proofs.Common.{◌≡◌, [], length, None}
use Rattle.smx_client.specs.Leaving.{gets}
use Rattle.smx_client.proofs.leaver.Leaver.answer_all.Given as goal

abbrev pub invariant-loop : goal.invariant-loop
invariant-loop g l = record {
  none : l.self.parked ≡ None;
  gets : gets l.self.closing ≡ 0;
  inbox : l.self.inbox ≡ l.fn.self.inbox;
  first_parked : l.self.first_parked ≡ l.fn.self.first_parked;
  first_window : l.self.first_window ≡ l.fn.self.first_window;
  first_inbox : l.self.first_inbox ≡ l.fn.self.first_inbox;
  first_senders : l.self.first_senders ≡ l.fn.self.first_senders;
}

abbrev pub decreases-loop : goal.decreases-loop
decreases-loop g l = length l.self.window.waiting

abbrev pub invariant-loop-item : goal.invariant-loop-item
invariant-loop-item g l = record {
  none : l.self.parked ≡ None;
  rows : l.self.window.waiting ≡ [];
  gets : gets l.self.closing ≡ l._item;
  sizes : l.self.inbox.front.queue ≡ l.fn.self.inbox.front.queue;
  first_parked : l.self.first_parked ≡ l.fn.self.first_parked;
  first_window : l.self.first_window ≡ l.fn.self.first_window;
  first_inbox : l.self.first_inbox ≡ l.fn.self.first_inbox;
  first_senders : l.self.first_senders ≡ l.fn.self.first_senders;
}
