-- Of as many numbers as there are messages and one more, one is free.
use Rattle.std.proofs.Common.{◌≡◌, ◌<◌, ◌≤◌, ◌+◌, ◌==◌, ℕ, Bool, true, false, cond, ◌||◌, List, [], ◌∷◌, length, refl, ap, sym, arith, count_by, zero, suc}
use Rattle.std.specs.List.{list_any}
use Rattle.std.proofs.lemmas.List.Sums.{count_by-le-length, sum_by-cons}
use Rattle.std.proofs.lemmas.Bool.{eqb-true, ne_eqb}
use Rattle.smx_routes.specs.declared.mo_window.Waiting.{Waiting}
use Rattle.smx_routes.specs.Window.{waits, number_behind}

count_any : (p : Waiting → Bool) (ws : List Waiting) → list_any p ws ≡ true → 1 ≤ count_by p ws
count_any p [] h = cc
count_any p (w ∷ ws) h = count_any_at (p w) refl h (count_any p ws)
  where
    count_any_at : (b : Bool) → p w ≡ b → (b || list_any p ws) ≡ true → (list_any p ws ≡ true → 1 ≤ count_by p ws) → 1 ≤ count_by p (w ∷ ws)
    count_any_at true e t later = omega (arith, sum_by-cons (λ v. cond (p v) 1 0) w ws, ap {B = ℕ} (λ b. cond b 1 0) e)
    count_any_at false e t later = let l = later t in omega (arith, sum_by-cons (λ v. cond (p v) 1 0) w ws, l)

-- the number is one of the first n
abbrev is_among : (ℕ → ℕ) → ℕ → ℕ → Bool
is_among f zero number = false
is_among f (suc n) number = is_among f n number || (number == f n)

module _ (f : ℕ → ℕ) (most : ℕ) (apart : (j k : ℕ) → j < k → k < most → f j ≡ f k → ⊥) where
  new : (n k : ℕ) → n ≤ k → k < most → is_among f n (f k) ≡ false
  new zero k le within = refl
  new (suc n) k le within =
      let rest = new n k (omega arith) within in
      let other : (f k == f n) ≡ false = ne_eqb (f k) (f n) (λ same. apart n k (omega arith) within (sym same)) in
      rw (rest, other) refl

  count_next : (n : ℕ) (ws : List Waiting) → n < most → count_by (λ w. is_among f n w.given) ws + count_by (λ w. w.given == f n) ws ≤ count_by (λ w. is_among f (suc n) w.given) ws
  count_next n [] within = omega arith
  count_next n (w ∷ ws) within =
      let rest = count_next n ws within in
      let here = one (is_among f n w.given) (w.given == f n) (λ first second. cc (new n n (omega arith) within, first, ap (is_among f n) (eqb-true w.given (f n) second))) in
      omega (arith, rest, here, sum_by-cons (λ (v : Waiting). cond (is_among f n v.given) 1 0) w ws, sum_by-cons (λ (v : Waiting). cond (v.given == f n) 1 0) w ws, sum_by-cons (λ (v : Waiting). cond (is_among f (suc n) v.given) 1 0) w ws)
    where
      one : (a b : Bool) → (a ≡ true → b ≡ true → ⊥) → cond a 1 0 + cond b 1 0 ≤ cond (a || b) 1 0
      one true true both = absurd (both refl refl)
      one true false both = omega arith
      one false b both = omega arith

  all_wait : (n : ℕ) (ws : List Waiting) → n ≤ most → ((k : ℕ) → k < n → waits (f k) ws ≡ true) → n ≤ count_by (λ w. is_among f n w.given) ws
  all_wait zero ws within all = omega arith
  all_wait (suc n) ws within all =
      let before = all_wait n ws (omega arith) (λ k low. all k (omega arith)) in
      let here : 1 ≤ count_by (λ w. w.given == f n) ws = count_any (λ w. w.given == f n) ws (all n (omega arith)) in
      let next = count_next n ws (omega arith) in
      omega (arith, before, here, next)

-- numbers close behind one another are different
numbers_apart : (last j k : ℕ) → j < k → k < 1_025 → number_behind last j ≡ number_behind last k → ⊥
numbers_apart last j k less within same = omega arith

-- where so many numbers wait, there are so many messages
pub waiting-le-length : (last n : ℕ) (ws : List Waiting) → n ≤ 1_024 → ((k : ℕ) → k < n → waits (number_behind last k) ws ≡ true) → n ≤ length ws
waiting-le-length last n ws few all =
    let counted = all_wait (number_behind last) 1_025 (numbers_apart last) n ws (omega arith) all in
    omega (arith, counted, count_by-le-length (λ (w : Waiting). is_among (number_behind last) n w.given) ws)
