-- The rows of the clients by their places, and what they keep. No clause of a public function cites these.
use Rattle.std.specs.Prelude.{◌≡◌, ℕ, Bool, List, map, filter_map, Option, Some, None}
use Rattle.std.specs.List.{AllByRecursion}
use Rattle.std.specs.Map.{lookup}
use Rattle.std.specs.Ordering.{nat_cmp}
use Rattle.std.specs.BTreeMap.{is_at}
use Rattle.slab.specs.Slab.{Slab, get}
use Rattle.smx_history.specs.Prefixes.{RiseAbove}
use Rattle.smx_lane.specs.declared.client_rows.Row.{Row}
use Rattle.smx_lane.specs.declared.client_rows.ClientRows.{ClientRows}

abbrev pub is_client : ℕ → ℕ → Bool
is_client c k = is_at (nat_cmp c) k

abbrev pub client_of : Option Row → Option ℕ
client_of (Some row) = Some row.client
client_of None = None

-- the client whose row is at the place, where there is one
abbrev pub client_at : Slab Row → ℕ → Option ℕ
client_at rows place = client_of (get rows place)

-- the place that the keys tell
abbrev pub place_of : ℕ → ClientRows → Option ℕ
place_of c s = lookup (is_client c) s.keys.entries

abbrev pub row_by : ℕ → Option Row → Option (ℕ × Row)
row_by c (Some row) = Some (c, row)
row_by c None = None

-- the rows at the places of the keys, by their clients
abbrev pub rows_in : Slab Row → List (ℕ × ℕ) → List (ℕ × Row)
rows_in rows keys = filter_map (λ (e : ℕ × ℕ). row_by e.0 (get rows e.1)) keys

abbrev pub rows_of : ClientRows → List (ℕ × Row)
rows_of s = rows_in s.rows s.keys.entries

-- the keys rise; at the place of each is its client's row, and each row is at the place of its client
pub record KeepsClientRows (s : ClientRows) : Type 0 where
  pub rise : RiseAbove 0 (map (λ (e : ℕ × ℕ). e.0) s.keys.entries)
  pub there : AllByRecursion (λ (e : ℕ × ℕ). client_at s.rows e.1 ≡ Some e.0) s.keys.entries
  pub known : (place c : ℕ) → client_at s.rows place ≡ Some c → place_of c s ≡ Some place

-- the same rows at the same places
pub record HasSameRows (old new : ClientRows) : Type 0 where
  pub rows : new.rows.slots ≡ old.rows.slots
  pub keys : new.keys.entries ≡ old.keys.entries
