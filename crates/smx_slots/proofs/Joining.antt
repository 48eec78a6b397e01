-- Who joins a line, and who leaves it.
use Rattle.std.proofs.Common.{◌≡◌, ◌≢◌, ◌<◌, ◌==◌, ◌||◌, ℕ, Bool, true, false, List, [], ◌∷◌, ◌++◌, length, refl, ap, sym, ◌∙◌, arith, inl, inr, zero, suc, length-append}
use Rattle.std.specs.Prelude.{slice_index_or, slice_set, replicate}
use Rattle.std.specs.List.{IsDistinct, AllByRecursion}
use Rattle.std.specs.Cmp.{nat_eq_equiv}
use Rattle.std.proofs.lemmas.Bool.{cases_Bool, eqb-true, eq-eqb}
use Rattle.std.proofs.lemmas.Grind.{get_or-set_at}
use Rattle.std.proofs.lemmas.List.{get_or-set_other, length-set}
use Rattle.std.proofs.lemmas.List.Folds.{list_any-append}
use Rattle.std.proofs.lemmas.Map.Keys.{IsDistinct-push, IsDistinct-head, IsDistinct-tail}
use Rattle.std.proofs.lemmas.Map.Steps.{length-le_from_distinct_below}
use Rattle.smx_slots.specs.Lines.{stands}

-- a place beyond the list has no mark
within : (marks : List Bool) (q : ℕ) → slice_index_or marks q false ≡ true → q < length marks
within [] q marked = cc
within (m ∷ marks) zero marked = omega arith
within (m ∷ marks) (suc q) marked = let low = within marks q marked in omega (arith, low)

-- no place of a list without marks has one
none_at : (n q : ℕ) → slice_index_or (replicate n false) q false ≡ false
none_at zero q = refl
none_at (suc n) zero = refl
none_at (suc n) (suc q) = none_at n q

pub starts : (count : ℕ) (xs : List ℕ) (marks : List Bool) → xs ≡ [] → marks ≡ replicate count false → (q : ℕ) → slice_index_or marks q false ≡ stands q xs
starts count xs marks none unmarked q = rw (none, unmarked) (none_at count q)

pub distinct_none : (xs : List ℕ) → xs ≡ [] → IsDistinct (λ p q. p == q) xs
unfolding IsDistinct
distinct_none xs none = rw none tt

last : (a : Bool) → (a || (true || false)) ≡ true
last true = refl
last false = refl

other : (a : Bool) → (a || (false || false)) ≡ a
other true = refl
other false = refl

apart : (q p : ℕ) → (q == p) ≡ false → q ≢ p
apart q p differ same =
    let is : (q == p) ≡ true = eq-eqb q p same in
    let both : true ≡ false = sym is ∙ differ in
    cc

none : (p : ℕ) (xs : List ℕ) → AllByRecursion (λ y. (p == y) ≡ false) xs → stands p xs ≡ false
none p [] all = refl
none p (x ∷ xs) all = rw (all.0, none p xs all.1) refl

module _ (xs : List ℕ) (marks : List Bool) (here : (q : ℕ) → slice_index_or marks q false ≡ stands q xs) where
  module _ (p : ℕ) (low : p < length marks) where
    pub marks_joined : (q : ℕ) → slice_index_or (slice_set marks p true) q false ≡ stands q (xs ++ p ∷ [])
    marks_joined q = elim (cases_Bool (q == p)) [
      | inl is ↦
          get_or-set_at marks p q true false (eqb-true q p is) low ∙ sym (list_any-append (λ r. q == r) xs (p ∷ []) ∙ ap (λ b. stands q xs || (b || false)) is ∙ last (stands q xs))
      | inr differ ↦
          get_or-set_other marks p q true false (apart q p differ) ∙ here q ∙ sym (list_any-append (λ r. q == r) xs (p ∷ []) ∙ ap (λ b. stands q xs || (b || false)) differ ∙ other (stands q xs))
    ]

    module _ (distinct : IsDistinct (λ a b. a == b) xs) (free : slice_index_or marks p false ≡ false) where
      pub distinct_joined : IsDistinct (λ a b. a == b) (xs ++ p ∷ [])
      distinct_joined = IsDistinct-push nat_eq_equiv xs p distinct (sym (here p) ∙ free)

      pub room_left : length xs < length marks
      room_left =
          let all = length-le_from_distinct_below (xs ++ p ∷ []) (length (slice_set marks p true)) distinct_joined (λ q is. within (slice_set marks p true) q (marks_joined q ∙ is)) in
          omega (arith, all, length-append xs (p ∷ []), length-set marks p true)

-- the first one leaves
module _ (p : ℕ) (xs : List ℕ) (marks : List Bool) (here : (q : ℕ) → slice_index_or marks q false ≡ stands q (p ∷ xs)) (distinct : IsDistinct (λ a b. a == b) (p ∷ xs)) where
  pub first_within : p < length marks
  first_within = within marks p (here p ∙ ap (λ b. b || stands p xs) (eq-eqb p p refl))

  pub distinct_left : IsDistinct (λ a b. a == b) xs
  distinct_left = IsDistinct-tail (λ a b. a == b) p xs distinct

  pub marks_left : (q : ℕ) → slice_index_or (slice_set marks p false) q false ≡ stands q xs
  marks_left q = elim (cases_Bool (q == p)) [
    | inl is ↦
        let same : q ≡ p = eqb-true q p is in
        get_or-set_at marks p q false false same first_within ∙ sym (ap (λ (r : ℕ). stands r xs) same ∙ none p xs (IsDistinct-head (λ a b. a == b) p xs distinct))
    | inr differ ↦ get_or-set_other marks p q false false (apart q p differ) ∙ here q ∙ ap (λ b. b || stands q xs) differ
  ]
