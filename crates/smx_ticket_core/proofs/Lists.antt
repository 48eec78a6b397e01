-- Lists by index: an entry that is written, copies of one entry, and sums.
use Rattle.std.proofs.Common.{◌≡◌, ℕ, zero, suc, ◌+◌, ◌<◌, ◌≤◌, ◌≢◌, ◌⊎◌, List, [], ◌∷◌, ◌++◌, length, set, get_or, refl, sym, ap, inl, inr, ⊎_elim, arith, replicate}
use mathlib.Core.Option.{none, some, some-injective, some-ne-none}
use lib.ListN.{get_elem?}

abbrev pub sum_by : {A : Type 0} → (A → ℕ) → List A → ℕ
sum_by f [] = 0
sum_by f (x ∷ xs) = f x + sum_by f xs

module _ {A : Type 0} where
  pub at_set : (l : List A) (i j : ℕ) (a b : A) → get_elem? (set l i a) j ≡ some b → ((j ≡ i) × (a ≡ b)) ⊎ ((j ≢ i) × (get_elem? l j ≡ some b))
  at_set [] i j a b e = absurd (some-ne-none b (sym e))
  at_set (x ∷ xs) zero zero a b e = inl (refl, some-injective a b e)
  at_set (x ∷ xs) zero (suc j) a b e = inr ((λ h. omega arith), e)
  at_set (x ∷ xs) (suc i) zero a b e = inr ((λ h. omega arith), e)
  at_set (x ∷ xs) (suc i) (suc j) a b e = ⊎_elim (λ t. inl (ap suc t.0, t.1)) (λ t. let n = t.0 in inr ((λ h. n (omega arith)), t.1)) (at_set xs i j a b e)

  pub set_here : (l : List A) (i : ℕ) (a b : A) → get_elem? l i ≡ some b → get_elem? (set l i a) i ≡ some a
  set_here [] i a b h = absurd (some-ne-none b (sym h))
  set_here (x ∷ xs) zero a b h = refl
  set_here (x ∷ xs) (suc i) a b h = set_here xs i a b h

  pub sum_set : (f : A → ℕ) (l : List A) (i : ℕ) (a b : A) → get_elem? l i ≡ some b → sum_by f (set l i a) + f b ≡ sum_by f l + f a
  sum_set f [] i a b h = absurd (some-ne-none b (sym h))
  sum_set f (x ∷ xs) zero a b h = let e : f x ≡ f b = ap f (some-injective x b h) in omega arith
  sum_set f (x ∷ xs) (suc i) a b h = omega (arith, sum_set f xs i a b h)

  pub sum_zero : (f : A → ℕ) (l : List A) → ((i : ℕ) (a : A) → get_elem? l i ≡ some a → f a ≡ 0) → sum_by f l ≡ 0
  sum_zero f [] h = refl
  sum_zero f (x ∷ xs) h = omega (arith, h 0 x refl, sum_zero f xs (λ i a e. h (suc i) a e))

  pub at_copies : (n i : ℕ) (x a : A) → get_elem? (replicate n x) i ≡ some a → x ≡ a
  at_copies zero i x a e = absurd (some-ne-none a (sym e))
  at_copies (suc n) zero x a e = some-injective x a e
  at_copies (suc n) (suc i) x a e = at_copies n i x a e

  -- the element put last
  pub at_end : (l : List A) (x a : A) (k : ℕ) → get_elem? (l ++ x ∷ []) k ≡ some a → (get_elem? l k ≡ some a) ⊎ ((k ≡ length l) × (x ≡ a))
  at_end [] x a zero e = inr (refl, some-injective x a e)
  at_end [] x a (suc k) e = absurd (some-ne-none a (sym e))
  at_end (y ∷ l) x a zero e = inl e
  at_end (y ∷ l) x a (suc k) e = ⊎_elim (λ t. inl t) (λ t. inr (ap suc t.0, t.1)) (at_end l x a k e)

pub no_more : {A : Type 0} (l : List A) (i : ℕ) → length l ≤ i → get_elem? l i ≡ none
no_more [] i h = refl
no_more (x ∷ xs) zero h = absurd (omega arith)
no_more (x ∷ xs) (suc i) h = no_more xs i (omega arith)

pub at_index : {A : Type 0} (l : List A) (i : ℕ) (a : A) → i < length l → a ≡ get_or l i a → get_elem? l i ≡ some a
at_index [] i a h e = absurd (omega arith)
at_index (x ∷ xs) zero a h e = ap some (sym e)
at_index (x ∷ xs) (suc i) a h e = at_index xs i a (omega arith) e
