-- What the fields of a window's rows show, and what they keep. No clause of a public function cites these.
use Rattle.std.specs.Prelude.{◌≢◌, ◌<◌, ℕ, List, length, map, Option, Some, None, IsSome, slice_index}
use Rattle.slab.specs.Slab.{Slab, get}
use Rattle.smx_history.specs.declared.place.Place.{Place}
use Rattle.smx_lane.specs.declared.rows.Rows.TheInside.{Inside}

-- the row under a key, which is empty where the slab has none
abbrev pub row_in : Option (Option Place) → Option Place
row_in (Some row) = row
row_in None = None

abbrev pub row_under : Slab (Option Place) → ℕ → Option Place
row_under slab key = row_in (get slab key)

abbrev pub rows_of : Inside → List (Option Place)
rows_of a = map (row_under a.slab) a.keys.items

pub record KeepsKeys (a : Inside) : Type 0 where
  pub distinct : (j k : ℕ) → j < k → k < length a.keys.items → slice_index a.keys.items j ≢ slice_index a.keys.items k
  pub present : (k : ℕ) → k < length a.keys.items → IsSome (get a.slab (slice_index a.keys.items k))
