-- The items of a list of values.
use Rattle.std.proofs.Common.{◌≡◌, ℕ, ◌+◌, ◌<◌, ◌≤◌, List, [], ◌∷◌, ◌++◌, length, get_or, drop, false, ◌&&◌, nat_le, if◌then◌else◌, Option, Some, None, refl, arith}
use Rattle.std.specs.Result.{result_ok}
use Rattle.std.proofs.lemmas.Bool.{le-leb}
use Rattle.std.proofs.lemmas.Bool.Decides.{nat_tests}
use Rattle.toml.proofs.Views.{items_view-drop}
use Rattle.toml.specs.Data.{Data}
use Rattle.toml.specs.View.{view, items_view}
use Rattle.toml.specs.declared.value.Value.{Value}
use Rattle.smx_config.specs.Settings.{are_tables, item_count, prefix_in, prefixes_of, stated_after, tables_within}

pub item_count-items_view : (vs : List Value) → item_count (items_view vs) ≡ length vs
item_count-items_view [] = refl
item_count-items_view (v ∷ vs) = let rest : item_count (items_view vs) ≡ length vs = item_count-items_view vs in omega arith

-- the tables of a list, by its length
pub tables_of_view : (most : ℕ) (vs : List Value) → tables_within most (items_view vs) ≡ (if (nat_le 1 (length vs) && nat_le (length vs) most) && are_tables (items_view vs) then Some (items_view vs) else None)
tables_of_view most vs = rw (item_count-items_view vs)

pub prefixes_of-long : (vs : List Value) → 16 < length vs → prefixes_of (items_view vs) ≡ None
prefixes_of-long vs h =
    let long : nat_le (length vs) 16 ≡ false = grind (arith, nat_tests) in
    rw (item_count-items_view vs, long)

pub prefixes_of-few : (vs : List Value) → length vs ≤ 16 → prefixes_of (items_view vs) ≡ result_ok (stated_after prefix_in [] (items_view vs))
prefixes_of-few vs h = rw (item_count-items_view vs, le-leb (length vs) 16 h)

-- where an item states something, the others state theirs after it
pub stated_after-next : {A : Type 0} (one : List A → Data → Option A) (before : List A) (vs : List Value) (i : ℕ) (d : Value) (a : A) → i < length vs → Some a ≡ one before (view (get_or vs i d)) → stated_after one before (items_view (drop i vs)) ≡ stated_after one (before ++ a ∷ []) (items_view (drop (i + 1) vs))
stated_after-next one before vs i d a h e = rw (items_view-drop vs i d h, ← e)
