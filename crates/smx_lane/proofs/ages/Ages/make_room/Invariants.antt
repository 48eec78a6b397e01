use Rattle.std.proofs.Common.{◌≡◌, ◌≤◌, ◌<◌, ℕ, Some, slice_get}
use Rattle.std.specs.Prelude.{All, Contains, vec_len, vec_capacity}
use Rattle.smx_history.specs.declared.place.Place.{Place}
use Rattle.smx_lane.specs.Private.Places.{aged_of}
use Rattle.smx_lane.proofs.ages.Ages.make_room.Given as goal

abbrev pub invariant-loop-at : goal.invariant-loop-at
invariant-loop-at l = record {
  first : l.self-inside.first ≡ 0;
  latest : l.self-inside.latest ≡ l.fn.self.latest;
  capacity : vec_capacity l.self-inside.list ≡ l.fn.self.places;
  count : vec_len l.self-inside.list ≤ l.at;
  each : (k : ℕ) (q : Place) → k < l.at → slice_get l.rows k ≡ Some (Some q) → Contains l.self-inside.list.items (aged_of q);
  before : All (λ x. x.moment ≤ l.fn.self.latest) l.self-inside.list.items;
}
