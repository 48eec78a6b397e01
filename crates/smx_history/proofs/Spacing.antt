-- Numbers in turn are spaced, and which numbers keep them so.
use Rattle.std.proofs.Common.{◌≡◌, ◌<◌, ◌≤◌, ◌+◌, ◌-◌, ◌%◌, ◌==◌, ℕ, Bool, true, false, ◌||◌, cond, List, [], ◌∷◌, ◌++◌, length, take, drop, refl, sym, ◌∙◌, ap, arith, count_by, zero, suc, inl, inr, Some, slice_get, length-append}
use Rattle.std.specs.List.{list_any}
use Rattle.std.proofs.lemmas.Bool.{cases_lt, cases_Bool, eq-eqb, eqb-true}
use Rattle.std.proofs.lemmas.List.Sums.{count_by-le-length, sum_by-cons}
use Rattle.std.proofs.lemmas.List.{length-take}
use Rattle.std.proofs.lemmas.Option.{slice_get_within, get_or_from_slice_get}
use Rattle.std.proofs.lemmas.List.Folds.{list_any_at}
use Rattle.std.proofs.Math.Nat.{mod-add-div'}
use Rattle.smx_history.specs.Numbers.{place_in, ArePlaced, AreSpaced, recent}

-- what stands in a list with one more at its end
pub before_end : {X : Type 0} (xs : List X) (x y : X) (j : ℕ) → j < length xs → slice_get (xs ++ x ∷ []) j ≡ Some y → slice_get xs j ≡ Some y
before_end [] x y j lt at = absurd (omega arith)
before_end (z ∷ xs) x y zero lt at = at
before_end (z ∷ xs) x y (suc j) lt at = before_end xs x y j (omega arith) at

pub still_there : {X : Type 0} (xs ys : List X) (y : X) (j : ℕ) → slice_get xs j ≡ Some y → slice_get (xs ++ ys) j ≡ Some y
still_there [] ys y j at = cc
still_there (z ∷ xs) ys y zero at = at
still_there (z ∷ xs) ys y (suc j) at = still_there xs ys y j at

pub at_end : {X : Type 0} (xs : List X) (x : X) → slice_get (xs ++ x ∷ []) (length xs) ≡ Some x
at_end [] x = refl
at_end (z ∷ xs) x = at_end xs x

-- the part of a list from n on has what stands at n or after
any_dropped : (n i : ℕ) (xs : List ℕ) (u : ℕ) → n ≤ i → slice_get xs i ≡ Some u → list_any (λ x. x == u) (drop n xs) ≡ true
any_dropped zero i xs u le at = list_any_at (λ x. x == u) xs i u (slice_get_within xs i u at) (ap (λ x. x == u) (get_or_from_slice_get xs i u u at) ∙ eq-eqb u u refl)
any_dropped (suc n) zero xs u le at = absurd (omega arith)
any_dropped (suc n) (suc i) [] u le at = cc
any_dropped (suc n) (suc i) (x ∷ xs) u le at = any_dropped n i xs u (omega arith) at

-- and nothing else
record IsFrom (n : ℕ) (xs : List ℕ) (u : ℕ) : Type 0 where
  index : ℕ
  from : n ≤ index
  at : slice_get xs index ≡ Some u

found_dropped : (n : ℕ) (xs : List ℕ) (u : ℕ) → list_any (λ x. x == u) (drop n xs) ≡ true → IsFrom n xs u
found_dropped zero [] u h = cc
found_dropped (suc n) [] u h = cc
found_dropped zero (x ∷ xs) u h = head (x == u) refl h (found_dropped zero xs u)
  where
    head : (b : Bool) → (x == u) ≡ b → (b || list_any (λ y. y == u) xs) ≡ true → (list_any (λ y. y == u) xs ≡ true → IsFrom 0 xs u) → IsFrom 0 (x ∷ xs) u
    head true e h later = record { index = 0; from = omega arith; at = ap Some (eqb-true x u e) }
    head false e h later = let r = later h in record { index = suc r.index; from = omega arith; at = r.at }
found_dropped (suc n) (x ∷ xs) u h = let r = found_dropped n xs u h in record { index = suc r.index; from = omega (arith, r.from); at = r.at }

-- a number that is none of the last keeps numbers spaced
pub spaced_next : (ns : List ℕ) (u : ℕ) → AreSpaced ns → list_any (λ n. n == u) (recent ns) ≡ false → AreSpaced (ns ++ u ∷ [])
spaced_next ns u spaced free i j w lt first second =
    let n = length-append ns (u ∷ []) in
    let within = slice_get_within (ns ++ u ∷ []) j w second in
    elim (cases_lt j (length ns)) [
      | inl inside ↦ spaced i j w lt (before_end ns u w i (omega (arith, lt, inside)) first) (before_end ns u w j inside second)
      | inr last ↦
          let here : j ≡ length ns = omega (arith, last, within, n) in
          let is : Some u ≡ Some w = sym (at_end ns u) ∙ ap (slice_get (ns ++ u ∷ [])) (sym here) ∙ second in
          let same : w ≡ u = cc in
          elim (cases_lt (length ns) (i + 1000000)) [
            | inl near ↦
                let there : slice_get ns i ≡ Some u = before_end ns u w i (omega (arith, lt, here)) first ∙ ap Some same in
                let had = any_dropped (length ns - 999999) i ns u (omega (arith, near)) there in
                let clash : true ≡ false = sym had ∙ free in
                cc
            | inr far ↦ omega (arith, far, here)
          ]
    ]

-- and only such a number
pub spaced_free : (ns : List ℕ) (u : ℕ) → AreSpaced (ns ++ u ∷ []) → list_any (λ n. n == u) (recent ns) ≡ false
spaced_free ns u spaced =
    elim (cases_Bool (list_any (λ n. n == u) (recent ns))) [
      | inl had ↦
          let r = found_dropped (length ns - 999999) ns u had in
          let within = slice_get_within ns r.index u r.at in
          absurd (omega (arith, r.from, within, spaced r.index (length ns) u within (still_there ns (u ∷ []) u r.index r.at) (at_end ns u)))
      | inr free ↦ free
    ]

pub spaced_start : (xs ys : List ℕ) → AreSpaced (xs ++ ys) → AreSpaced xs
spaced_start xs ys spaced i j u lt first second = spaced i j u lt (still_there xs ys u i first) (still_there xs ys u j second)

-- how many pass among the first, where one at i does
record Counts (p : ℕ → Bool) (ns : List ℕ) (i j : ℕ) : Type 0 where
  more : count_by p (take i ns) + 1 ≤ count_by p (take j ns)
  few : count_by p (take j ns) + i ≤ count_by p (take i ns) + j

counts : (p : ℕ → Bool) (ns : List ℕ) (i j u : ℕ) → i < j → slice_get ns i ≡ Some u → p u ≡ true → Counts p ns i j
counts p [] i j u lt at passes = cc
counts p (x ∷ ns) i zero u lt at passes = absurd (omega arith)
counts p (x ∷ ns) zero (suc j) u lt at passes =
    let same : x ≡ u = cc in
    let one : cond (p x) 1 0 ≡ suc 0 = ap {B = ℕ} (λ b. cond b 1 0) (ap p same ∙ passes) in
    let sum = sum_by-cons (λ y. cond (p y) 1 0) x (take j ns) in
    record {
      more = omega (arith, sum, one);
      few = omega (arith, sum, one, count_by-le-length p (take j ns), length-take j ns);
    }
counts p (x ∷ ns) (suc i) (suc j) u lt at passes =
    let rest = counts p ns i j u (omega (arith, lt)) at passes in
    let first = sum_by-cons (λ y. cond (p y) 1 0) x (take i ns) in
    let second = sum_by-cons (λ y. cond (p y) 1 0) x (take j ns) in
    record { more = omega (arith, first, second, rest.more); few = omega (arith, first, second, rest.few) }

-- a place has one generation again after 2,097,151 of its takes
pub spaced_placed : (ns : List ℕ) → ArePlaced ns → AreSpaced ns
spaced_placed ns placed i j u lt first second =
    let p : ℕ → Bool = λ x. place_in x == place_in u in
    let a = count_by p (take i ns) in
    let b = count_by p (take j ns) in
    let c = counts p ns i j u lt first (eq-eqb (place_in u) (place_in u) refl) in
    let same : a % 2097151 ≡ b % 2097151 = sym (placed i u first) ∙ placed j u second in
    omega (arith, c.more, c.few, same, mod-add-div' a 2097151, mod-add-div' b 2097151)
