-- The requests of a window in a list by their ages.
use Rattle.std.proofs.Common.{◌≡◌, ◌<◌, ◌≤◌, ◌+◌, ◌-◌, ℕ, zero, suc, List, [], ◌∷◌, ◌++◌, length, drop, set, Option, Some, None, slice_get, get_or, refl, sym, ap, ◌∙◌, subst, arith, inl, inr, nat_le, true, false}
use Rattle.std.specs.Prelude.{Contains, All}
use Rattle.std.specs.List.Sorted.{IsNonDecreasingBy}
use Rattle.std.proofs.lemmas.Option.{slice_get_within, get_or_from_slice_get, slice_get-get_or}
use Rattle.std.proofs.lemmas.Bool.{cases_lt, lt-leb, le-leb}
use Rattle.smx_history.specs.declared.place.Place.{Place}
use Rattle.smx_history.specs.Numbers.{place_in}
use Rattle.smx_history.proofs.Spacing.{still_there, at_end}
use Rattle.smx_lane.specs.declared.ages.Aged.{Aged}
use Rattle.smx_lane.specs.Private.Places.{HasAt, KeepsListed, aged_of}
use Rattle.smx_lane.specs.Private.Window.{NameTheirRows, places_in}
use Rattle.smx_lane.proofs.WindowRows.{at-set, none_passes}
use Rattle.smx_history.specs.Replies.{is_expired}
use Rattle.std.specs.List.{find}

pub contains_at : {X : Type 0} (xs : List X) (k : ℕ) (x : X) → slice_get xs k ≡ Some x → Contains xs x
contains_at xs k x at = (k, slice_get_within xs k x at, get_or_from_slice_get xs k x x at)

pub index_of : {X : Type 0} (xs : List X) (x : X) → Contains xs x → (k : ℕ) × (slice_get xs k ≡ Some x)
index_of xs x in_it = (in_it.0, slice_get-get_or xs in_it.0 x in_it.1 ∙ ap Some in_it.2)

pub at-drop : {X : Type 0} (n k : ℕ) (xs : List X) → slice_get (drop n xs) k ≡ slice_get xs (n + k)
at-drop zero k xs = ap (slice_get xs) (omega arith)
at-drop (suc n) k [] = refl
at-drop (suc n) k (x ∷ xs) = at-drop n k xs ∙ sym (more n k x xs)
  where
    more : {X : Type 0} (n k : ℕ) (x : X) (xs : List X) → slice_get (x ∷ xs) (suc n + k) ≡ slice_get xs (n + k)
    more n k x xs = ap (slice_get (x ∷ xs)) (same n k)
      where
        same : (n k : ℕ) → suc n + k ≡ suc (n + k)
        same n k = omega arith

-- a request more
pub listed_more : (rows : List (Option Place)) (at : ℕ) (q : Place) (aged : List Aged) → KeepsListed rows aged → KeepsListed (set rows at (Some q)) (aged ++ aged_of q ∷ [])
listed_more rows at q aged listed p there = elim (at-set rows at (place_in p.upstream) (Some q) (Some p) there) [
  | inl new ↦
      let same : p ≡ q = (let e : Some p ≡ Some q = new.1 in cc) in
      contains_at (aged ++ aged_of q ∷ []) (length aged) (aged_of p) (at_end aged (aged_of q) ∙ ap (λ x. Some (aged_of x)) (sym same))
  | inr old ↦
      let was = index_of aged (aged_of p) (listed p old) in
      contains_at (aged ++ aged_of q ∷ []) was.0 (aged_of p) (still_there aged (aged_of q ∷ []) (aged_of p) was.0 was.1)
]

-- a request fewer
pub listed_less : (rows : List (Option Place)) (at : ℕ) (aged : List Aged) → KeepsListed rows aged → KeepsListed (set rows at None) aged
listed_less rows at aged listed p there = elim (at-set rows at (place_in p.upstream) None (Some p) there) [
  | inl new ↦ let e : Some p ≡ None = new.1 in cc
  | inr old ↦ listed p old
]

-- those before an index are not in their rows
abbrev pub AreGone : List (Option Place) → List Aged → ℕ → ℕ → Type 0
AreGone rows list first at = (j : ℕ) (a : Aged) → first ≤ j → j < at → slice_get list j ≡ Some a → HasAt rows a.upstream → ⊥

pub gone_more : (rows : List (Option Place)) (list : List Aged) (first at : ℕ) (a : Aged) → AreGone rows list first at → slice_get list at ≡ Some a → (HasAt rows a.upstream → ⊥) → AreGone rows list first (at + 1)
gone_more rows list first at a gone there none j b from below here has =
    elim (cases_lt j at) [
      | inl before ↦ gone j b from before here has
      | inr last ↦
          let same : at ≡ j = omega (arith, last, below) in
          let is : Some a ≡ Some b = sym there ∙ ap (slice_get list) same ∙ here in
          let equal : b ≡ a = cc in
          none (subst (λ (x : Aged). HasAt rows x.upstream) equal has)
    ]

-- so the list without them keeps each that is
pub listed_from : (rows : List (Option Place)) (list : List Aged) (first at : ℕ) → first ≤ at → AreGone rows list first at → KeepsListed rows (drop first list) → KeepsListed rows (drop at list)
listed_from rows list first at le gone listed q there =
    let was = index_of (drop first list) (aged_of q) (listed q there) in
    let here : slice_get list (first + was.0) ≡ Some (aged_of q) = sym (at-drop first was.0 list) ∙ was.1 in
    elim (cases_lt (first + was.0) at) [
      | inl before ↦ absurd (gone (first + was.0) (aged_of q) (omega arith) before here (record { request = q; there = there; number_is = refl }))
      | inr from ↦
          let k = first + was.0 - at in
          contains_at (drop at list) k (aged_of q) (at-drop at k list ∙ ap (slice_get list) (omega (arith, from)) ∙ here)
    ]

-- where the first of a list is not so old, none is
pub none_older : (list : List Aged) (at now age : ℕ) (a : Aged) → IsNonDecreasingBy (λ x. x.moment) list → slice_get list at ≡ Some a → nat_le (a.moment + age) now ≡ false → All (λ x. now < x.moment + age) (drop at list)
none_older list at now age a order there young k d lt =
    let within = slice_get_within list at a there in
    let first : now < a.moment + age = elim (cases_lt now (a.moment + age)) [
      | inl less ↦ less
      | inr more ↦ let old : true ≡ false = sym (old_enough (a.moment + age) now more) ∙ young in cc
    ] in
    let x = get_or (drop at list) k d in
    let here : slice_get (drop at list) k ≡ Some x = slice_get-get_or (drop at list) k d lt in
    let there' : slice_get list (at + k) ≡ Some x = sym (at-drop at k list) ∙ here in
    let rises = order at (at + k) d (omega arith) (slice_get_within list (at + k) x there') in
    let low : get_or list at d ≡ a = get_or_from_slice_get list at a d there in
    let high : get_or list (at + k) d ≡ x = get_or_from_slice_get list (at + k) x d there' in
    omega (arith, first, rises, ap (λ (y : Aged). y.moment) low, ap (λ (y : Aged). y.moment) high)
  where
    old_enough : (m n : ℕ) → m ≤ n → nat_le m n ≡ true
    old_enough m n le = le-leb m n le

-- a request that is in its row and listed is as young as all that are
pub young : (rows : List (Option Place)) (aged : List Aged) (now age : ℕ) → NameTheirRows 0 rows → KeepsListed rows aged → All (λ x. now < x.moment + age) aged → (k : ℕ) (q : Place) → slice_get rows k ≡ Some (Some q) → nat_le (q.moment + age) now ≡ false
young rows aged now age numbered listed all k q at =
    let named = (numbered k q at).1 in
    let there : slice_get rows (place_in q.upstream) ≡ Some (Some q) = ap (slice_get rows) (omega (arith, named)) ∙ at in
    let in_it = listed q there in
    let below = all in_it.0 (aged_of q) in_it.1 in
    lt-leb (q.moment + age) now (omega (arith, below, ap (λ (y : Aged). y.moment) in_it.2))

-- so none of them is found to be old
pub none_found : (rows : List (Option Place)) (aged : List Aged) (now age : ℕ) → NameTheirRows 0 rows → KeepsListed rows aged → All (λ x. now < x.moment + age) aged → None ≡ find (is_expired now age) (places_in rows)
none_found rows aged now age numbered listed all = sym (none_passes (is_expired now age) rows (λ k q at. young rows aged now age numbered listed all k q at))
