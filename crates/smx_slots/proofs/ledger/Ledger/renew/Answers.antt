use Rattle.std.proofs.Common.{◌≤◌, length, arith}
use Rattle.std.proofs.lemmas.Grind.{common_steps}
use Rattle.smx_slots.proofs.Counting.{more_accounts, more_counted}
use Rattle.smx_slots.proofs.ledger.Ledger.renew.Goals as goal

pub invariant_of-self : goal.invariant_of-self
invariant_of-self c =
    let more : length c.self.inside.limits.items ≤ length c.in_ok-keys.table.items = grind (arith, common_steps) in
    record {
      clients = λ q. more_accounts _ _ more _ q _ (c.self.invariant.clients q);
      requests = rw (c.in_ok-requests.ensures, c.as_slice-4.ensures.value) (more_counted _ _ _ c.self.invariant.requests);
      bound = rw (c.in_ok-bound.ensures, c.as_slice-3.ensures.value) (more_counted _ _ _ c.self.invariant.bound);
      total = c.self.invariant.total;
      keys = c.in_ok-keys.ensures.within;
      requests_length = grind (arith, common_steps);
      bound_length = grind (arith, common_steps);
    }
