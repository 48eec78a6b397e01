-- The earliest moment among the requests in the rows of a window.
use Rattle.std.proofs.Common.{◌≡◌, ◌<◌, ◌≤◌, ◌+◌, ◌⊎◌, ℕ, suc, min, List, [], ◌∷◌, length, slice_get, Option, Some, None, refl, sym, ap, ◌∙◌, arith, inl, inr}
use Rattle.std.proofs.lemmas.Bool.{cases_eq}
use Rattle.std.proofs.lemmas.Option.{slice_get_within}
use Rattle.smx_history.specs.declared.place.Place.{Place}
use Rattle.smx_lane.specs.Loads.{IsEarliest}
use Rattle.smx_lane.specs.Private.Window.{places_in, earlier_of}
use Rattle.smx_lane.proofs.WindowRows.{row_of_held, cleared}

-- the earliest moment in the rows below n, where there is one
abbrev pub IsEarliestBelow : List (Option Place) → ℕ → Option ℕ → Type 0
IsEarliestBelow rows n (Some moment) =
    ((k : ℕ) × (q : Place) × (slice_get rows k ≡ Some (Some q)) × (q.moment ≡ moment))
    × ((k : ℕ) (q : Place) → k < n → slice_get rows k ≡ Some (Some q) → moment ≤ q.moment)
IsEarliestBelow rows n None = (k : ℕ) → k < n → slice_get rows k ≡ Some None

min_cases : (a b : ℕ) → (min a b ≡ a) ⊎ (min a b ≡ b)
min_cases a b = elim (cases_eq (min a b) a) [
  | inl same ↦ inl same
  | inr other ↦ inr (omega (arith, other))
]

min_left : (a b : ℕ) → min a b ≤ a
min_left a b = omega arith

min_right : (a b : ℕ) → min a b ≤ b
min_right a b = omega arith

-- one row more
pub earliest_step : (rows : List (Option Place)) (n : ℕ) (e : Option ℕ) (row : Option Place)
    → IsEarliestBelow rows n e → slice_get rows n ≡ Some row → IsEarliestBelow rows (n + 1) (earlier_of e row)
earliest_step rows n None None before at = λ k below. elim (cases_eq k n) [
  | inl same ↦ ap (slice_get rows) same ∙ at
  | inr other ↦ before k (omega (arith, below, other))
]
earliest_step rows n (Some m) None before at = (
  before.0,
  λ k q below is. elim (cases_eq k n) [
    | inl same ↦ let clash : Some (Some q) ≡ Some None = sym is ∙ ap (slice_get rows) same ∙ at in cc
    | inr other ↦ before.1 k q (omega (arith, below, other)) is
  ],
)
earliest_step rows n None (Some p) before at = (
  (n, p, at, refl),
  λ k q below is. elim (cases_eq k n) [
    | inl same ↦
        let twice : Some (Some q) ≡ Some (Some p) = sym is ∙ ap (slice_get rows) same ∙ at in
        let equal : p ≡ q = cc in
        omega (arith, ap (λ (x : Place). x.moment) equal)
    | inr other ↦ let clash : Some (Some q) ≡ Some None = sym is ∙ before k (omega (arith, below, other)) in cc
  ],
)
earliest_step rows n (Some m) (Some p) before at = (
  elim (min_cases m p.moment) [
    | inl e ↦ (before.0.0, before.0.1, before.0.2, before.0.3 ∙ sym e)
    | inr e ↦ (n, p, at, sym e)
  ],
  λ k q below is. elim (cases_eq k n) [
    | inl same ↦
        let twice : Some (Some q) ≡ Some (Some p) = sym is ∙ ap (slice_get rows) same ∙ at in
        let equal : p ≡ q = cc in
        omega (arith, ap (λ (x : Place). x.moment) equal, min_right m p.moment)
    | inr other ↦ omega (arith, before.1 k q (omega (arith, below, other)) is, min_left m p.moment)
  ],
)

none_there : (rows : List (Option Place)) → ((k : ℕ) → k < length rows → slice_get rows k ≡ Some None) → places_in rows ≡ []
none_there [] empty = refl
none_there (None ∷ rows) empty = none_there rows (λ k within. empty (suc k) (omega (arith, within)))
none_there (Some q ∷ rows) empty = let clash : Some (Some q) ≡ Some None = empty 0 (omega arith) in cc

-- once each row was looked at
pub earliest_of_all : (rows : List (Option Place)) (n : ℕ) (e : Option ℕ) → length rows ≤ n → IsEarliestBelow rows n e → IsEarliest (places_in rows) e
earliest_of_all rows n None all below = none_there rows (λ k within. below k (omega (arith, within, all)))
earliest_of_all rows n (Some m) all below =
    let r = cleared rows below.0.0 below.0.1 below.0.2 in (
      (r.0, below.0.1, r.1, below.0.3),
      λ k q at.
          let there = row_of_held rows k q at in
          below.1 there.0 q (omega (arith, slice_get_within rows there.0 (Some q) there.1, all)) there.1,
    )
