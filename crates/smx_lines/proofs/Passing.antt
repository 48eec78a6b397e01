-- A loop over a list, which takes each to what f makes of its fellow.
use Rattle.std.proofs.Common.{◌≡◌, ◌<◌, ◌≤◌, ◌+◌, ℕ, Bool, true, false, List, [], ◌∷◌, ◌++◌, length, map, get_or, set, refl, sym, ◌∙◌, ap, subst, arith, Some, None, append_assoc, length-append}
use Rattle.std.specs.List.{AllZip, list_any, position, position_or_len}
use Rattle.std.proofs.lemmas.Bool.{lt-ltb, le-ltb}
use Rattle.std.proofs.lemmas.List.{append-nil, map_push, length-map}
use Rattle.smx_lines.proofs.Lanes.{zip-length, zip-middle, zip-middle_set, position_or_len-past, position_or_len-none}

-- f was done on the first i, and the others are left
pub record IsPassing {X Y : Type 0} (R : X → Y → Type 0) (f : X → X) (xs done left : List X) (ys : List Y) (i : ℕ) : Type 0 where
  pub all : xs ≡ done ++ left
  pub count : length done ≡ i
  pub lanes_are : AllZip R (map f done ++ left) ys

pub passing_start : {X Y : Type 0} (R : X → Y → Type 0) (f : X → X) (xs : List X) (ys : List Y) → AllZip R xs ys → IsPassing R f xs [] xs ys 0
passing_start R f xs ys z = record { all = refl; count = refl; lanes_are = z }

passing_length : {X Y : Type 0} (R : X → Y → Type 0) (f : X → X) (xs done left : List X) (ys : List Y) (i : ℕ) → IsPassing R f xs done left ys i → i + length left ≡ length ys
passing_length R f xs done left ys i p =
    omega (arith, zip-length R (map f done ++ left) ys p.lanes_are, length-append (map f done) left, length-map done f, p.count)

-- what stands at i
pub passing_at : {X Y : Type 0} (R : X → Y → Type 0) (f : X → X) (xs done left : List X) (ys : List Y) (i : ℕ) (d : Y) → IsPassing R f xs done left ys i → i < length ys
    → (x : X) × (rest : List X) × (left ≡ x ∷ rest) × R x (get_or ys i d)
passing_at R f xs done [] ys i d p lt = absurd (let n = passing_length R f xs done [] ys i p in omega (arith, n))
passing_at R f xs done (x ∷ rest) ys i d p lt =
    (x, rest, refl, subst (λ k. R x (get_or ys k d)) (length-map done f ∙ p.count) (zip-middle R (map f done) x rest ys d p.lanes_are))

pub passing_more : {X Y : Type 0} (R : X → Y → Type 0) (f : X → X) (xs done left : List X) (ys : List Y) (i : ℕ) (x : X) (rest : List X) (y : Y) → IsPassing R f xs done left ys i → left ≡ x ∷ rest → R (f x) y
    → IsPassing R f xs (done ++ x ∷ []) rest (set ys i y) (i + 1)
passing_more R f xs done left ys i x rest y p e r =
    let before : AllZip R (map f done ++ x ∷ rest) ys = subst (λ xs. AllZip R (map f done ++ xs) ys) e p.lanes_are in
    let after = subst (λ k. AllZip R (map f done ++ f x ∷ rest) (set ys k y)) (length-map done f ∙ p.count) (zip-middle_set R (map f done) x (f x) rest ys y before r) in
    record {
      all = p.all ∙ ap (λ xs. done ++ xs) e ∙ sym (append_assoc done (x ∷ []) rest);
      count = omega (arith, length-append done (x ∷ []), p.count);
      lanes_are = subst (λ xs. AllZip R xs (set ys i y)) (sym (append_assoc (map f done) (f x ∷ []) rest) ∙ ap (λ xs. xs ++ rest) (sym (map_push f done x))) after;
    }

pub passing_end : {X Y : Type 0} (R : X → Y → Type 0) (f : X → X) (xs done left : List X) (ys : List Y) (i : ℕ) → IsPassing R f xs done left ys i → length ys ≤ i → (xs ≡ done) × AllZip R (map f xs) ys
passing_end R f xs done [] ys i p le =
    let same : xs ≡ done = p.all ∙ append-nil done in
    (same, subst (λ xs. AllZip R (map f xs) ys) (sym same) (subst (λ xs. AllZip R xs ys) (append-nil (map f done)) p.lanes_are))
passing_end R f xs done (x ∷ rest) ys i p le = absurd (let n = passing_length R f xs done (x ∷ rest) ys i p in omega (arith, n))

-- the first place at which a test passes, or none
pub first_place : {X : Type 0} (p : X → Bool) (xs : List X) (x : X) (ys : List X) → list_any p xs ≡ false → p x ≡ true → position p (xs ++ x ∷ ys) ≡ Some (length xs)
first_place p xs x ys none here =
    let zero' : position_or_len p (x ∷ ys) ≡ 0 = rw here refl in
    let at : position_or_len p (xs ++ x ∷ ys) ≡ length xs = omega (arith, position_or_len-past p xs (x ∷ ys) none, zero') in
    let inside : length xs < length (xs ++ x ∷ ys) = omega (arith, length-append xs (x ∷ ys)) in
    rw (at, lt-ltb (length xs) (length (xs ++ x ∷ ys)) inside) refl

pub no_place : {X : Type 0} (p : X → Bool) (xs : List X) → list_any p xs ≡ false → position p xs ≡ None
no_place p xs none = rw (position_or_len-none p xs none, le-ltb (length xs) (length xs) (omega arith)) refl
