-- Rows in a slab, by the places of their keys.
use Rattle.std.proofs.Common.{◌≡◌, ◌≢◌, ◌<◌, ℕ, zero, suc, List, [], ◌∷◌, length, map, get_or, set, replicate, Option, Some, None, IsSome, refl, sym, ap, ◌∙◌, arith, inl, inr, ext_get_or, get_or-set_same, get_or-set_other}
use Rattle.std.specs.Prelude.{slice_index}
use Rattle.std.proofs.lemmas.Bool.{cases_eq, cases_lt}
use Rattle.std.proofs.lemmas.List.{length-map, length-set}
use Rattle.slab.specs.Slab.{Slab, get, with_value}
use Rattle.smx_history.specs.declared.place.Place.{Place}
use Rattle.smx_lane.specs.Private.Rows.{row_in, row_under}

at-map : {Y : Type 0} (f : ℕ → Y) (xs : List ℕ) (i : ℕ) (d : Y) → i < length xs → get_or (map f xs) i d ≡ f (get_or xs i 0)
at-map f [] i d h = absurd (omega arith)
at-map f (x ∷ xs) zero d h = refl
at-map f (x ∷ xs) (suc i) d h = at-map f xs i d (omega arith)

some-within : {X : Type 0} (xs : List (Option X)) (k : ℕ) → IsSome (get_or xs k None) → k < length xs
some-within [] k h = cc
some-within (x ∷ xs) zero h = omega arith
some-within (x ∷ xs) (suc k) h = let r = some-within xs k h in omega (arith, r)

-- the keys are apart, and the slab has each
abbrev pub AreDifferent : List ℕ → Type 0
AreDifferent keys = (j k : ℕ) → j < k → k < length keys → slice_index keys j ≢ slice_index keys k

abbrev pub ArePresent : Slab (Option Place) → List ℕ → Type 0
ArePresent s keys = (k : ℕ) → k < length keys → IsSome (get s (slice_index keys k))

-- a write under the key of a place is a write of its row
pub written : (s : Slab (Option Place)) (keys : List ℕ) (at : ℕ) (row : Option Place) → at < length keys → AreDifferent keys → ArePresent s keys
    → map (row_under (with_value s (slice_index keys at) row)) keys ≡ set (map (row_under s) keys) at row
written s keys at row within apart present =
    let key = get_or keys at 0 in
    let new = with_value s key row in
    let fits : key < length s.slots = some-within s.slots key (present at within) in
    ext_get_or None (map (row_under new) keys) (set (map (row_under s) keys) at row)
    (length-map keys (row_under new) ∙ sym (length-map keys (row_under s)) ∙ sym (length-set (map (row_under s) keys) at row))
    (λ i lt.
    let i_in : i < length keys = omega (arith, lt, length-map keys (row_under new)) in
    let at_in : at < length (map (row_under s) keys) = omega (arith, within, length-map keys (row_under s)) in
    at-map (row_under new) keys i None i_in ∙ elim (cases_eq i at) [
      | inl same ↦ ap (λ j. row_under new (get_or keys j 0)) same ∙ ap row_in (get_or-set_same s.slots key (Some row) None fits)
          ∙ sym (ap (λ j. get_or (set (map (row_under s) keys) at row) j None) same ∙ get_or-set_same (map (row_under s) keys) at row None at_in)
      | inr other ↦
          let ne : get_or keys i 0 ≢ key = elim (cases_lt i at) [
            | inl below ↦ apart i at below within
            | inr above ↦ λ e. apart at i (omega (arith, above, other)) i_in (sym e)
          ] in
          ap row_in (get_or-set_other s.slots key (get_or keys i 0) (Some row) None ne)
          ∙ sym (get_or-set_other (map (row_under s) keys) at i row None other ∙ at-map (row_under s) keys i None i_in)
    ])

-- where the slab has an empty row under each key, all rows are empty
pub all_empty : (s : Slab (Option Place)) (keys : List ℕ) → ((k : ℕ) → k < length keys → get s (slice_index keys k) ≡ Some None) → map (row_under s) keys ≡ replicate (length keys) None
all_empty s [] empty = refl
all_empty s (key ∷ keys) empty =
    let here : row_under s key ≡ None = ap row_in (empty 0 (omega arith)) in
    let rest = all_empty s keys (λ k lt. empty (suc k) (omega (arith, lt))) in
    ap (λ row. row ∷ map (row_under s) keys) here ∙ ap (λ rows. None ∷ rows) rest
