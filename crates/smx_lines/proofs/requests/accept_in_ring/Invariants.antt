use Rattle.std.proofs.Common.{◌≡◌, ◌%◌, length, slice_get, drop}
use Rattle.std.specs.List.{find}
use Rattle.smx_history.specs.Ring.{ring}
use Rattle.smx_lines.specs.Private.Lanes.{accepts_in}
use Rattle.smx_lines.proofs.requests.accept_in_ring.Given as goal

abbrev pub invariant-loop-k : goal.invariant-loop-k
invariant-loop-k l = record {
  same : l.lanes.items ≡ l.fn.lanes.items;
  request_same : l.request ≡ l.fn.request;
  none : find (λ i. accepts_in l.fn.request.client (slice_get l.fn.lanes.items i)) (ring (l.last % length l.fn.lanes.items) (length l.fn.lanes.items))
      ≡ find (λ i. accepts_in l.fn.request.client (slice_get l.fn.lanes.items i)) (drop l.k (ring (l.last % length l.fn.lanes.items) (length l.fn.lanes.items)));
}
