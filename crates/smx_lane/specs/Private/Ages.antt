-- What the fields of a list by ages show, and what they keep. No clause of a public function cites these.
use Rattle.std.specs.Prelude.{◌-◌, ◌≤◌, drop, length, vec_capacity, All}
use Rattle.std.specs.List.Sorted.{IsNonDecreasingBy}
use Rattle.smx_lane.specs.declared.ages.Ages.TheInside.{Inside}
use Rattle.smx_lane.specs.Private.Places.{Listed}

abbrev pub listed_of : Inside → Listed
listed_of a = record { aged = drop a.first a.list.items; left = vec_capacity a.list - length a.list.items; places = vec_capacity a.list; latest = a.latest }

-- the oldest first
pub record KeepsOrder (a : Inside) : Type 0 where
  pub first : a.first ≤ length a.list.items
  pub order : IsNonDecreasingBy (λ x. x.moment) a.list.items
  pub before : All (λ x. x.moment ≤ a.latest) a.list.items
