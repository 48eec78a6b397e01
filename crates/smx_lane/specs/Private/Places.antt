-- The requests that were taken and have no answer. No clause of a public function cites these.
use Rattle.std.specs.Prelude.{◌≡◌, ℕ, List, slice_get, Option, Some, Contains}
use Rattle.smx_history.specs.declared.place.Place.{Place}
use Rattle.smx_history.specs.Numbers.{place_in}
use Rattle.smx_lane.specs.declared.ages.Aged.{Aged}

-- the requests, and how many there may be; for each place the next generation, and the moment of the last take
pub record Places : Type 0 where
  pub most : ℕ
  pub taken : List Place
  pub generations : List ℕ
  pub latest : ℕ

-- the request is there and has the number
pub record IsPlaceOf (taken : List Place) (number : ℕ) (q : Place) : Type 0 where
  pub index : ℕ
  pub there : slice_get taken index ≡ Some q
  pub number_is : q.upstream ≡ number

-- the request with the number is in its row
pub record HasAt (rows : List (Option Place)) (number : ℕ) : Type 0 where
  pub request : Place
  pub there : slice_get rows (place_in number) ≡ Some (Some request)
  pub number_is : request.upstream ≡ number

-- requests by their ages: how many may be listed in all and how many more, and the moment of the last take
pub record Listed : Type 0 where
  pub aged : List Aged
  pub left : ℕ
  pub places : ℕ
  pub latest : ℕ

-- the age of a request
abbrev pub aged_of : Place → Aged
aged_of q = record { moment = q.moment; upstream = q.upstream }

-- each request that is in its row is listed
abbrev pub KeepsListed : List (Option Place) → List Aged → Type 0
KeepsListed rows aged = (q : Place) → slice_get rows (place_in q.upstream) ≡ Some (Some q) → Contains aged (aged_of q)
