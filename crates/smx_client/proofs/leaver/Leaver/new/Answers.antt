use Rattle.std.proofs.Common.{ap, sym}
use Rattle.smx_client.proofs.Leavings.{left_first, answered_none}
use Rattle.smx_client.proofs.leaver.Leaver.new.Goals as goal

pub invariant_of-result : goal.invariant_of-result
invariant_of-result c = record { left_is = left_first _ _ _ _ _ _ _ _ _ c.new.ensures c.of-first_parked.ensures c.of-first_window.ensures c.of-first_inbox.ensures (ap (λ v. v.items) c.of-first_senders.ensures); answered_is = sym (answered_none _ c.new.ensures) }
