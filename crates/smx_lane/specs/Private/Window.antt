-- What the fields of a window show, and what they keep. No clause of a public function cites these.
use Rattle.std.specs.Prelude.{◌≡◌, ◌+◌, ◌<◌, ◌≤◌, min, ℕ, List, length, filter_map, vec_capacity, Option, Some, None, slice_get}
use Rattle.smx_history.specs.declared.place.Place.{Place}
use Rattle.smx_history.specs.Numbers.{place_in}
use Rattle.smx_lane.specs.declared.window.Window.TheInside.{Inside}
use Rattle.smx_lane.specs.Private.Places.{Places, KeepsListed}

-- the requests in the rows
abbrev pub places_in : List (Option Place) → List Place
places_in rows = filter_map (λ row. row) rows

abbrev pub places_of : Inside → Places
places_of a = record { most = length a.rows; taken = places_in a.rows; generations = a.generations.items; latest = a.ages.latest }

-- the earlier one of a moment and that of a row's request, of those that there are
abbrev pub earlier_of : Option ℕ → Option Place → Option ℕ
earlier_of earliest None = earliest
earlier_of None (Some q) = Some q.moment
earlier_of (Some moment) (Some q) = Some (min moment q.moment)

-- the numbers of the requests name their rows, counted from n
abbrev pub NameTheirRows : ℕ → List (Option Place) → Type 0
NameTheirRows n rows = (k : ℕ) (q : Place) → slice_get rows k ≡ Some (Some q) → (0 < q.upstream) × (place_in q.upstream ≡ n + k)

-- the row is empty
abbrev pub IsEmptyAt : List (Option Place) → ℕ → Type 0
IsEmptyAt rows k = slice_get rows k ≡ Some None

pub record KeepsPlaces (a : Inside) : Type 0 where
  pub numbered : NameTheirRows 0 a.rows
  pub empty : (j k : ℕ) → slice_get a.free.items j ≡ Some k → IsEmptyAt a.rows k
  pub distinct : (i j k : ℕ) → slice_get a.free.items i ≡ Some k → slice_get a.free.items j ≡ Some k → i ≡ j
  pub count : length a.free.items + length (places_in a.rows) ≡ length a.rows
  pub few : length a.rows ≤ 1024
  pub room : length a.rows ≤ vec_capacity a.free
  pub generations : length a.generations.items ≡ length a.rows
  pub going_round : (k g : ℕ) → slice_get a.generations.items k ≡ Some g → g < 2097151
  pub listed : KeepsListed a.rows a.ages.aged
  pub before : (k : ℕ) (q : Place) → slice_get a.rows k ≡ Some (Some q) → q.moment ≤ a.ages.latest
  pub places : length a.rows < a.ages.places
