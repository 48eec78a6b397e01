use Rattle.std.proofs.Common.{◌≡◌, ◌≤◌, length, vec_capacity}
use Rattle.smx_lane.specs.Conditions.{IsOwn}
use Rattle.smx_shared.specs.Batches.{octets_of_responses}
use Rattle.smx_shared.proofs.ListServing.{Gave}
use Rattle.smx_shared.proofs.batching.collect_each.Given as goal

abbrev pub invariant-loop : goal.invariant-loop
invariant-loop l = record {
  own : IsOwn l.lane l.fn.by l.fn.client;
  gave : Gave l.fn.by l.fn.client l.initial.lane l.responses.items l.lane;
  limits : l.lane.limits ≡ l.initial.lane.limits;
  octets : l.octets ≡ octets_of_responses l.responses.items;
  within : l.octets ≤ 65536;
  count : length l.responses.items ≡ l.counter;
  room : 16 ≤ vec_capacity l.responses;
}
