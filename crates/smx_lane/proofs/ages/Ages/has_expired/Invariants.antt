use Rattle.std.proofs.Common.{◌≡◌}
use Rattle.smx_lane.proofs.Listing.{AreGone}
use Rattle.smx_lane.proofs.ages.Ages.has_expired.Given as goal

abbrev pub invariant-loop-at : goal.invariant-loop-at
invariant-loop-at l = record {
  list : l.self-inside.list ≡ l.initial.self-inside.list;
  latest : l.self-inside.latest ≡ l.initial.self-inside.latest;
  gone : AreGone l.rows l.initial.self-inside.list.items l.initial.self-inside.first l.at;
}
