use Rattle.std.proofs.Common.{◌≡◌, ◌≤◌, length, vec_capacity}
use Rattle.smx_history.specs.Replies.{moment_at}
use Rattle.smx_shared.specs.Batches.{octets_of_requests}
use Rattle.smx_shared.proofs.ListServing.{TookSo}
use Rattle.smx_shared.proofs.batching.take_each.Given as goal

abbrev pub invariant-loop : goal.invariant-loop
invariant-loop l = record {
  took : TookSo l.fn.by l.fn.now l.initial.lane l.requests.items l.lane;
  moment : moment_at l.lane l.fn.now ≡ moment_at l.initial.lane l.fn.now;
  limits : l.lane.limits ≡ l.initial.lane.limits;
  octets : l.octets ≡ octets_of_requests l.requests.items;
  within : l.octets ≤ 65536;
  count : length l.requests.items ≡ l.counter;
  room : 16 ≤ vec_capacity l.requests;
}
