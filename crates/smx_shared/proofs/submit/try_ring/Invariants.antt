use Rattle.std.proofs.Common.{◌≡◌}
use Rattle.smx_shared.proofs.Submitting.{IsPassing}
use Rattle.smx_shared.proofs.submit.try_ring.Given as goal

abbrev pub invariant-loop-k : goal.invariant-loop-k
invariant-loop-k g l = record {
  same : l.rest ≡ l.fn.request;
  passing : IsPassing l.fn.start l.count l.k l.fn.request l.fn.seats.items l.seats.items;
}
