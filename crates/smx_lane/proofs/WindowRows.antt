-- The requests in the rows of a window, by their places.
use Rattle.std.proofs.Common.{◌≡◌, ◌≢◌, ◌<◌, ◌≤◌, ◌+◌, ◌-◌, ◌==◌, ◌&&◌, ◌⊎◌, ℕ, zero, suc, Bool, true, false, List, [], ◌∷◌, ◌++◌, length, set, replicate, slice_get, Option, Some, None, refl, sym, ap, ◌∙◌, arith, inl, inr, cond, count_by, length-append}
use Rattle.std.specs.List.{find, list_any, remove}
use Rattle.std.proofs.lemmas.Bool.{cases_eq, eq-eqb, ne_eqb, and_from}
use Rattle.std.proofs.lemmas.Option.{slice_get_within}
use Rattle.std.proofs.lemmas.List.{length-set}
use Rattle.circular_buffer.proofs.Places.{slice_get-set_same, slice_get-set_other, slice_get-push, slice_get-last}
use Rattle.smx_history.specs.declared.place.Place.{Place}
use Rattle.smx_history.specs.Numbers.{place_in}
use Rattle.smx_history.specs.Prefixes.{SameCounts}
use Rattle.smx_history.proofs.Counts.{count_by-push, length-same}
use Rattle.std.proofs.lemmas.List.Sums.{sum_by-cons}
use Rattle.smx_lane.specs.Private.Places.{IsPlaceOf}
use Rattle.smx_lane.specs.Private.Window.{places_in, NameTheirRows, IsEmptyAt}

count_by-cons : {X : Type 0} (p : X → Bool) (x : X) (xs : List X) → count_by p (x ∷ xs) ≡ cond (p x) 1 0 + count_by p xs
count_by-cons p x xs = sum_by-cons (λ y. cond (p y) 1 0) x xs

-- a request that is held has a row
pub row_of_held : (rows : List (Option Place)) (i : ℕ) (q : Place) → slice_get (places_in rows) i ≡ Some q → (k : ℕ) × (slice_get rows k ≡ Some (Some q))
row_of_held [] i q at = cc
row_of_held (None ∷ rows) i q at = let r = row_of_held rows i q at in (suc r.0, r.1)
row_of_held (Some p ∷ rows) zero q at = (0, ap Some at)
row_of_held (Some p ∷ rows) (suc i) q at = let r = row_of_held rows i q at in (suc r.0, r.1)

-- to empty a row is to take its request out
pub cleared : (rows : List (Option Place)) (k : ℕ) (q : Place) → slice_get rows k ≡ Some (Some q) → (j : ℕ) × (slice_get (places_in rows) j ≡ Some q) × (places_in (set rows k None) ≡ remove (places_in rows) j)
cleared [] k q at = cc
cleared (None ∷ rows) zero q at = cc
cleared (None ∷ rows) (suc k) q at = cleared rows k q at
cleared (Some p ∷ rows) zero q at = let same : p ≡ q = cc in (0, ap Some same, refl)
cleared (Some p ∷ rows) (suc k) q at = let r = cleared rows k q at in (suc r.0, r.1, ap (λ xs. p ∷ xs) r.2)

-- to write a request into an empty row is to add it
pub filled : (rows : List (Option Place)) (k : ℕ) (q : Place) → slice_get rows k ≡ Some None → SameCounts (places_in rows ++ q ∷ []) (places_in (set rows k (Some q)))
filled [] k q at = λ test. cc
filled (None ∷ rows) zero q at = λ test. omega (arith, count_by-cons test q (places_in rows), count_by-push test (places_in rows) q)
filled (None ∷ rows) (suc k) q at = filled rows k q at
filled (Some p ∷ rows) zero q at = λ test. cc
filled (Some p ∷ rows) (suc k) q at = λ test. omega (arith, filled rows k q at test, count_by-cons test p (places_in rows ++ q ∷ []), count_by-cons test p (places_in (set rows k (Some q))))

length-removed : {X : Type 0} (xs : List X) (j : ℕ) (x : X) → slice_get xs j ≡ Some x → length (remove xs j) + 1 ≡ length xs
length-removed [] j x at = cc
length-removed (y ∷ xs) zero x at = omega arith
length-removed (y ∷ xs) (suc j) x at = omega (arith, length-removed xs j x at)

pub length-cleared : (rows : List (Option Place)) (k : ℕ) (q : Place) → slice_get rows k ≡ Some (Some q) → length (places_in (set rows k None)) + 1 ≡ length (places_in rows)
length-cleared rows k q at =
    let r = cleared rows k q at in
    omega (arith, ap length r.2, length-removed (places_in rows) r.0 q r.1)

pub length-filled : (rows : List (Option Place)) (k : ℕ) (q : Place) → slice_get rows k ≡ Some None → length (places_in (set rows k (Some q))) ≡ length (places_in rows) + 1
length-filled rows k q at = length-same (places_in rows ++ q ∷ []) (places_in (set rows k (Some q))) (filled rows k q at) ∙ length-append (places_in rows) (q ∷ [])

numbered-rest : (n : ℕ) (row : Option Place) (rows : List (Option Place)) → NameTheirRows n (row ∷ rows) → NameTheirRows (suc n) rows
numbered-rest n row rows numbered k q at = let h = numbered (suc k) q at in (h.0, omega (arith, h.1))

-- the row that a number names has the one request with the number
pub found_at : (fits : Place → Bool) (rows : List (Option Place)) (n k u : ℕ) (q : Place) → NameTheirRows n rows → slice_get rows k ≡ Some (Some q) → q.upstream ≡ u → fits q ≡ true → find (λ x. (x.upstream == u) && fits x) (places_in rows) ≡ Some q
found_at fits [] n k u q numbered at is good = cc
found_at fits (None ∷ rows) n zero u q numbered at is good = cc
found_at fits (None ∷ rows) n (suc k) u q numbered at is good = found_at fits rows (suc n) k u q (numbered-rest n None rows numbered) at is good
found_at fits (Some p ∷ rows) n zero u q numbered at is good =
    let same : p ≡ q = cc in
    let here : (p.upstream == u) ≡ true = eq-eqb p.upstream u (ap (λ (x : Place). x.upstream) same ∙ is) in
    let test : ((p.upstream == u) && fits p) ≡ true = and_from (p.upstream == u) (fits p) here (ap fits same ∙ good) in
    rw test (ap Some same)
found_at fits (Some p ∷ rows) n (suc k) u q numbered at is good =
    let mine = (numbered 0 p refl).1 in
    let theirs = (numbered (suc k) q at).1 in
    let other : (p.upstream == u) ≡ false = ne_eqb p.upstream u (λ e. omega (arith, mine, theirs, ap place_in (e ∙ sym is)))
    in
    rw other (found_at fits rows (suc n) k u q (numbered-rest n (Some p) rows numbered) at is good)

-- no request is found where none that has the number fits
pub not_found : (fits : Place → Bool) (rows : List (Option Place)) (u : ℕ) → ((k : ℕ) (q : Place) → slice_get rows k ≡ Some (Some q) → q.upstream ≡ u → fits q ≡ false) → find (λ x. (x.upstream == u) && fits x) (places_in rows) ≡ None
not_found fits [] u none = refl
not_found fits (None ∷ rows) u none = not_found fits rows u (λ k q at is. none (suc k) q at is)
not_found fits (Some p ∷ rows) u none =
    let rest = not_found fits rows u (λ k q at is. none (suc k) q at is) in
    elim (cases_eq p.upstream u) [
      | inl same ↦
          let bad : fits p ≡ false = none 0 p refl same in
          let here : (p.upstream == u) ≡ true = eq-eqb p.upstream u same in
          rw (here, bad) rest
      | inr apart ↦ let other : (p.upstream == u) ≡ false = ne_eqb p.upstream u apart in rw other rest
    ]

-- no request has the number of an empty row
pub none_numbered : (rows : List (Option Place)) (n k u : ℕ) → NameTheirRows n rows → slice_get rows k ≡ Some None → place_in u ≡ n + k → list_any (λ q. q.upstream == u) (places_in rows) ≡ false
none_numbered rows n k u numbered at is = none_of rows (λ j q there e.
    let here = (numbered j q there).1 in
    let same : j ≡ k = omega (arith, here, is, ap place_in e) in
    let clash : Some (Some q) ≡ Some None = sym there ∙ ap (slice_get rows) same ∙ at in
    cc)
  where
    none_of : (rs : List (Option Place)) → ((j : ℕ) (q : Place) → slice_get rs j ≡ Some (Some q) → q.upstream ≡ u → ⊥) → list_any (λ q. q.upstream == u) (places_in rs) ≡ false
    none_of [] none = refl
    none_of (None ∷ rs) none = none_of rs (λ j q there e. none (suc j) q there e)
    none_of (Some p ∷ rs) none =
        let other : (p.upstream == u) ≡ false = ne_eqb p.upstream u (λ e. none 0 p refl e) in
        rw other (none_of rs (λ j q there e. none (suc j) q there e))

-- what stands at an index after a write
pub at-set : {X : Type 0} (xs : List X) (k j : ℕ) (w y : X) → slice_get (set xs k w) j ≡ Some y → ((j ≡ k) × (y ≡ w)) ⊎ (slice_get xs j ≡ Some y)
at-set xs k j w y at = elim (cases_eq j k) [
  | inl same ↦
      let within : k < length xs = omega (arith, same, slice_get_within (set xs k w) j y at, length-set xs k w) in
      let is : Some y ≡ Some w = sym at ∙ ap (slice_get (set xs k w)) same ∙ slice_get-set_same xs k w within in
      inl (same, cc)
  | inr other ↦ inr (sym (slice_get-set_other xs k j w other) ∙ at)
]

pub numbered-filled : (rows : List (Option Place)) (k : ℕ) (q : Place) → NameTheirRows 0 rows → 0 < q.upstream → place_in q.upstream ≡ k → NameTheirRows 0 (set rows k (Some q))
numbered-filled rows k q numbered above is j p at = elim (at-set rows k j (Some q) (Some p) at) [
  | inl new ↦
      let same : p ≡ q = (let e : Some p ≡ Some q = new.1 in cc) in
      let upstream = ap (λ (x : Place). x.upstream) same in
      (omega (arith, upstream, above), omega (arith, ap place_in upstream, is, new.0))
  | inr old ↦ numbered j p old
]

pub numbered-cleared : (rows : List (Option Place)) (k : ℕ) → NameTheirRows 0 rows → NameTheirRows 0 (set rows k None)
numbered-cleared rows k numbered j p at = elim (at-set rows k j None (Some p) at) [
  | inl new ↦ let e : Some p ≡ None = new.1 in cc
  | inr old ↦ numbered j p old
]

-- they are empty rows, each once
abbrev pub AreEmpty : List (Option Place) → List ℕ → Type 0
AreEmpty rows free = (j u : ℕ) → slice_get free j ≡ Some u → IsEmptyAt rows u

abbrev pub AreOnce : List ℕ → Type 0
AreOnce free = (i j u : ℕ) → slice_get free i ≡ Some u → slice_get free j ≡ Some u → i ≡ j

-- the last of them is an empty row
pub last-empty : (rows : List (Option Place)) (free rest : List ℕ) (u : ℕ) → free ≡ rest ++ u ∷ [] → AreEmpty rows free → IsEmptyAt rows u
last-empty rows free rest u split empty = empty (length rest) u (ap (λ xs. slice_get xs (length rest)) split ∙ slice_get-last rest u (length rest) refl)

front-at : (rest : List ℕ) (u j v : ℕ) → slice_get rest j ≡ Some v → slice_get (rest ++ u ∷ []) j ≡ Some v
front-at rest u j v at = slice_get-push rest u j (λ e. omega (arith, e, slice_get_within rest j v at)) ∙ at

pub once-front : (rest : List ℕ) (u : ℕ) → AreOnce (rest ++ u ∷ []) → AreOnce rest
once-front rest u once i j v a b = once i j v (front-at rest u i v a) (front-at rest u j v b)

pub empty-filled : (rows : List (Option Place)) (rest : List ℕ) (k : ℕ) (q : Place) → AreEmpty rows (rest ++ k ∷ []) → AreOnce (rest ++ k ∷ []) → AreEmpty (set rows k (Some q)) rest
empty-filled rows rest k q empty once j v at =
    let e = empty j v (front-at rest k j v at) in
    let last : slice_get (rest ++ k ∷ []) (length rest) ≡ Some k = slice_get-last rest k (length rest) refl in
    let other : v ≢ k = λ same.
    omega (arith, once j (length rest) v (front-at rest k j v at) (last ∙ ap Some (sym same)), slice_get_within rest j v at) in
    slice_get-set_other rows k v (Some q) other ∙ e

pub empty-cleared : (rows : List (Option Place)) (free : List ℕ) (k : ℕ) → AreEmpty rows free → k < length rows → AreEmpty (set rows k None) (free ++ k ∷ [])
empty-cleared rows free k empty within j v at = elim (cases_eq j (length free)) [
  | inl same ↦
      let is : Some v ≡ Some k = sym at ∙ slice_get-last free k j same in
      let equal : v ≡ k = cc in
      ap (slice_get (set rows k None)) equal ∙ slice_get-set_same rows k None within
  | inr other ↦
      let e = empty j v (sym (slice_get-push free k j other) ∙ at) in
      elim (cases_eq v k) [
        | inl same ↦ ap (slice_get (set rows k None)) same ∙ slice_get-set_same rows k None within
        | inr apart ↦ slice_get-set_other rows k v None apart ∙ e
      ]
]

pub once-pushed : (free : List ℕ) (u : ℕ) → AreOnce free → ((j : ℕ) → slice_get free j ≡ Some u → j ≡ length free) → AreOnce (free ++ u ∷ [])
once-pushed free u once absent i j v a b = elim (cases_eq i (length free)) [
  | inl ends ↦ elim (cases_eq j (length free)) [
    | inl ends' ↦ ends ∙ sym ends'
    | inr before ↦
        let is : Some v ≡ Some u = sym a ∙ slice_get-last free u i ends in
        let there : slice_get free j ≡ Some u = sym (slice_get-push free u j before) ∙ b ∙ is in
        absurd (before (absent j there))
  ]
  | inr before ↦ elim (cases_eq j (length free)) [
    | inl ends ↦
        let is : Some v ≡ Some u = sym b ∙ slice_get-last free u j ends in
        let there : slice_get free i ≡ Some u = sym (slice_get-push free u i before) ∙ a ∙ is in
        absurd (before (absent i there))
    | inr before' ↦ once i j v (sym (slice_get-push free u i before) ∙ a) (sym (slice_get-push free u j before') ∙ b)
  ]
]

-- rows that are all empty hold nothing, and each of their numbers is free
pub held-replicate : (n : ℕ) → places_in (replicate n None) ≡ []
held-replicate zero = refl
held-replicate (suc n) = held-replicate n

pub slice_get-replicate : {X : Type 0} (n k : ℕ) (x : X) → k < n → slice_get (replicate n x) k ≡ Some x
slice_get-replicate zero k x lt = absurd (omega arith)
slice_get-replicate (suc n) zero x lt = refl
slice_get-replicate (suc n) (suc k) x lt = slice_get-replicate n k x (omega (arith, lt))

pub only-replicate : {X : Type 0} (n k : ℕ) (x y : X) → slice_get (replicate n x) k ≡ Some y → y ≡ x
only-replicate zero k x y at = cc
only-replicate (suc n) zero x y at = let e : Some x ≡ Some y = at in cc
only-replicate (suc n) (suc k) x y at = only-replicate n k x y at

-- they fall by one from the one before n
abbrev pub AreFalling : ℕ → List ℕ → Type 0
AreFalling n free = (j u : ℕ) → slice_get free j ≡ Some u → u + j + 1 ≡ n

pub falling-pushed : (n given : ℕ) (free : List ℕ) → AreFalling n free → length free ≡ given → given < n → AreFalling n (free ++ (n - 1 - given) ∷ [])
falling-pushed n given free falling count lt j u at = elim (cases_eq j (length free)) [
  | inl ends ↦
      let is : Some u ≡ Some (n - 1 - given) = sym at ∙ slice_get-last free (n - 1 - given) j ends in
      let same : u ≡ n - 1 - given = cc in
      omega (arith, same, ends, count, lt)
  | inr before ↦ falling j u (sym (slice_get-push free (n - 1 - given) j before) ∙ at)
]

pub empty-falling : (n : ℕ) (free : List ℕ) → AreFalling n free → length free ≤ n → AreEmpty (replicate n None) free
empty-falling n free falling count j u at = slice_get-replicate n u None (omega (arith, falling j u at))

pub once-falling : (n : ℕ) (free : List ℕ) → AreFalling n free → AreOnce free
once-falling n free falling i j u a b = omega (arith, falling i u a, falling j u b)

pub numbered-replicate : (n : ℕ) → NameTheirRows 0 (replicate n None)
numbered-replicate n k q at = let e : Some q ≡ None = only-replicate n k None (Some q) at in cc

-- a request that is there has the row that its number names
pub row_at_number : (rows : List (Option Place)) (number : ℕ) (q : Place) → NameTheirRows 0 rows → IsPlaceOf (places_in rows) number q → slice_get rows (place_in number) ≡ Some (Some q)
row_at_number rows number q numbered place =
    let r = row_of_held rows place.index q place.there in
    let named = (numbered r.0 q r.1).1 in
    let k : place_in number ≡ r.0 = omega (arith, named, ap place_in place.number_is) in
    ap (slice_get rows) k ∙ r.1

-- the request in a row is there
pub place_at_number : (rows : List (Option Place)) (number k : ℕ) (q : Place) → q.upstream ≡ number → slice_get rows k ≡ Some (Some q) → IsPlaceOf (places_in rows) number q
place_at_number rows number k q is at =
    let r = cleared rows k q at in
    record { index = r.0; there = r.1; number_is = is }

-- no row has a request
pub none_held : (rows : List (Option Place)) → ((k : ℕ) → k < length rows → slice_get rows k ≡ Some None) → slice_get (places_in rows) 0 ≡ None
none_held [] empty = refl
none_held (None ∷ rows) empty = none_held rows (λ k within. empty (suc k) (omega (arith, within)))
none_held (Some q ∷ rows) empty = let clash : Some (Some q) ≡ Some None = empty 0 (omega arith) in cc

-- the first row that has one has the first
pub first_held : (rows : List (Option Place)) (k : ℕ) (q : Place) → ((j : ℕ) → j < k → slice_get rows j ≡ Some None) → slice_get rows k ≡ Some (Some q) → slice_get (places_in rows) 0 ≡ Some q
first_held [] k q empty at = cc
first_held (row ∷ rows) zero q empty at = let same : row ≡ Some q = cc in ap (λ r. slice_get (places_in (r ∷ rows)) 0) same
first_held (None ∷ rows) (suc k) q empty at = first_held rows k q (λ j below. empty (suc j) (omega (arith, below))) at
first_held (Some p ∷ rows) (suc k) q empty at = let clash : Some (Some p) ≡ Some None = empty 0 (omega arith) in cc

-- the first request that passes
pub none_passes : (test : Place → Bool) (rows : List (Option Place)) → ((k : ℕ) (q : Place) → slice_get rows k ≡ Some (Some q) → test q ≡ false) → find test (places_in rows) ≡ None
none_passes test [] none = refl
none_passes test (None ∷ rows) none = none_passes test rows (λ k q at. none (suc k) q at)
none_passes test (Some p ∷ rows) none = rw (none 0 p refl) (none_passes test rows (λ k q at. none (suc k) q at))

pub first_passes : (test : Place → Bool) (rows : List (Option Place)) (k : ℕ) (q : Place) → ((j : ℕ) (p : Place) → j < k → slice_get rows j ≡ Some (Some p) → test p ≡ false) → slice_get rows k ≡ Some (Some q) → test q ≡ true → find test (places_in rows) ≡ Some q
first_passes test [] k q before at good = cc
first_passes test (None ∷ rows) zero q before at good = cc
first_passes test (Some p ∷ rows) zero q before at good =
    let same : p ≡ q = cc in
    rw (ap test same ∙ good) (ap Some same)
first_passes test (None ∷ rows) (suc k) q before at good = first_passes test rows k q (λ j p below there. before (suc j) p (omega (arith, below)) there) at good
first_passes test (Some p ∷ rows) (suc k) q before at good =
    rw (before 0 p (omega arith) refl) (first_passes test rows k q (λ j x below there. before (suc j) x (omega (arith, below)) there) at good)
