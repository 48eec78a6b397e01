use Rattle.std.proofs.Common.{◌≡◌, List, ◌<◌, ◌≤◌, ◌+◌, ◌^◌, ◌++◌, length, vec_capacity}
use Rattle.smx_shared.specs.declared.offer.Offer.{Offer}
use Rattle.smx_shared.specs.Landings.{LandEach, accepted_each}
use Rattle.smx_shared.specs.Steps.{MayAccept}
use Rattle.smx_shared.proofs.accepting.accept_each.Given as goal

abbrev pub invariant-loop-offer : goal.invariant-loop-offer
invariant-loop-offer l = record {
  made : (os : List Offer) × (os ++ l.left.items ≡ l.fn.offers.items) × (length os ≡ length l.landings.items)
      × LandEach l.fn.by l.fn.client l.fn.first l.initial.lane os l.landings.items l.lane
      × (l.ordinal ≡ l.fn.first + length (accepted_each os l.landings.items));
  may : MayAccept l.lane l.fn.by l.fn.client l.ordinal;
  some : 0 < l.ordinal;
  top : l.ordinal ≤ 2 ^ 62 + 1;
  room : length l.fn.offers.items ≤ vec_capacity l.landings;
  limits : l.lane.limits ≡ l.initial.lane.limits;
}

abbrev pub decreases-loop-offer : goal.decreases-loop-offer
decreases-loop-offer l = length l.left.items
