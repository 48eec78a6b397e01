-- Lists that have the same elements, each as often.
use Rattle.std.proofs.Common.{◌==◌, ◌≡◌, ◌<◌, ◌≤◌, ◌+◌, ℕ, Bool, true, false, cond, not, ◌||◌, ◌&&◌, List, [], ◌∷◌, ◌++◌, length, map, filter, get_or, refl, sym, ◌∙◌, ap, arith, count_by, suc, inl, inr}
use Rattle.std.specs.List.{list_any, remove}
use Rattle.std.proofs.lemmas.List.Sums.{sum_by-cons, sum_by-append, sum_by-remove}
use Rattle.std.proofs.lemmas.Bool.{cases_Bool, cases_eq, eq-eqb, ne_eqb}
use Rattle.smx_history.specs.Prefixes.{SameCounts}

pub count_by-push : {X : Type 0} (p : X → Bool) (xs : List X) (x : X) → count_by p (xs ++ x ∷ []) ≡ count_by p xs + cond (p x) 1 0
count_by-push p xs x = omega (arith, sum_by-append (λ y. cond (p y) 1 0) xs (x ∷ []))

count_by-cons : {X : Type 0} (p : X → Bool) (x : X) (xs : List X) → count_by p (x ∷ xs) ≡ cond (p x) 1 0 + count_by p xs
count_by-cons p x xs = sum_by-cons (λ y. cond (p y) 1 0) x xs

count_all : {X : Type 0} (xs : List X) → count_by (λ _. true) xs ≡ length xs
count_all [] = refl
count_all (x ∷ xs) = omega (arith, count_by-cons (λ _. true) x xs, count_all xs)

pub length-same : {X : Type 0} (xs ys : List X) → SameCounts xs ys → length ys ≡ length xs
length-same xs ys h = sym (count_all ys) ∙ h (λ _. true) ∙ count_all xs

pub SameCounts-push : {X : Type 0} (xs ys : List X) (x : X) → SameCounts xs ys → SameCounts (xs ++ x ∷ []) (ys ++ x ∷ [])
SameCounts-push xs ys x h p = omega (arith, count_by-push p xs x, count_by-push p ys x, h p)

pub any_count : {X : Type 0} (p : X → Bool) (xs : List X) → list_any p xs ≡ true → 1 ≤ count_by p xs
any_count p [] h = cc
any_count p (x ∷ xs) h = any_count_at (p x) refl h (any_count p xs)
  where
    any_count_at : (b : Bool) → p x ≡ b → (b || list_any p xs) ≡ true → (list_any p xs ≡ true → 1 ≤ count_by p xs) → 1 ≤ count_by p (x ∷ xs)
    any_count_at true e t later = omega (arith, count_by-cons p x xs, ap {B = ℕ} (λ b. cond b 1 0) e)
    any_count_at false e t later = let l = later t in omega (arith, count_by-cons p x xs, l)

pub none_count : {X : Type 0} (p : X → Bool) (xs : List X) → list_any p xs ≡ false → count_by p xs ≡ 0
none_count p [] h = refl
none_count p (x ∷ xs) h = none_count_at (p x) refl h (none_count p xs)
  where
    none_count_at : (b : Bool) → p x ≡ b → (b || list_any p xs) ≡ false → (list_any p xs ≡ false → count_by p xs ≡ 0) → count_by p (x ∷ xs) ≡ 0
    none_count_at true e t later = cc
    none_count_at false e t later = let l = later t in omega (arith, count_by-cons p x xs, l, ap {B = ℕ} (λ b. cond b 1 0) e)

pub count_none_any : {X : Type 0} (p : X → Bool) (xs : List X) → count_by p xs ≡ 0 → list_any p xs ≡ false
count_none_any p xs h = elim (cases_Bool (list_any p xs)) [
  | inl some ↦ absurd (let l = any_count p xs some in omega (arith, l, h))
  | inr none ↦ none
]

-- a test finds something in both or in neither
pub any-same : {X : Type 0} (p : X → Bool) (xs ys : List X) → SameCounts xs ys → list_any p ys ≡ false → list_any p xs ≡ false
any-same p xs ys h none = count_none_any p xs (sym (h p) ∙ none_count p ys none)

-- a test counts what passes another test too, and what does not
pub count_split : {X : Type 0} (p q : X → Bool) (xs : List X) → count_by p xs ≡ count_by (λ x. p x && q x) xs + count_by (λ x. p x && not (q x)) xs
count_split p q [] = refl
count_split p q (x ∷ xs) = omega (arith, count_split p q xs, count_by-cons p x xs, count_by-cons (λ x. p x && q x) x xs, count_by-cons (λ x. p x && not (q x)) x xs, one (p x) (q x))
  where
    one : (a b : Bool) → cond a 1 0 ≡ cond (a && b) 1 0 + cond (a && not b) 1 0
    one true true = refl
    one true false = refl
    one false b = refl

pub count_and-le : {X : Type 0} (p q : X → Bool) (xs : List X) → count_by (λ x. p x && q x) xs ≤ count_by q xs
count_and-le p q [] = omega arith
count_and-le p q (x ∷ xs) = omega (arith, count_and-le p q xs, count_by-cons q x xs, count_by-cons (λ x. p x && q x) x xs, one (p x) (q x))
  where
    one : (a b : Bool) → cond (a && b) 1 0 ≤ cond b 1 0
    one true b = omega arith
    one false true = omega arith
    one false false = omega arith

pub count_by-filter : {X : Type 0} (p q : X → Bool) (xs : List X) → count_by p (filter q xs) ≡ count_by (λ x. p x && q x) xs
count_by-filter p q [] = refl
count_by-filter p q (x ∷ xs) = count_by-filter_at (q x) refl (count_by-filter p q xs)
  where
    one : (a b : Bool) → b ≡ true → ◌≡◌ {A = ℕ} (cond (a && b) 1 0) (cond a 1 0)
    one true b e = ap {B = ℕ} (λ c. cond c 1 0) e
    one false b e = refl

    none : (a b : Bool) → b ≡ false → ◌≡◌ {A = ℕ} (cond (a && b) 1 0) 0
    none true b e = ap {B = ℕ} (λ c. cond c 1 0) e
    none false b e = refl

    count_by-filter_at : (b : Bool) → q x ≡ b → count_by p (filter q xs) ≡ count_by (λ x. p x && q x) xs → count_by p (cond b (x ∷ filter q xs) (filter q xs)) ≡ count_by (λ x. p x && q x) (x ∷ xs)
    count_by-filter_at true e h = omega (arith, h, count_by-cons p x (filter q xs), count_by-cons (λ x. p x && q x) x xs, one (p x) (q x) e)
    count_by-filter_at false e h = omega (arith, h, count_by-cons (λ x. p x && q x) x xs, none (p x) (q x) e)

pub count_by-remove : {X : Type 0} (p : X → Bool) (xs : List X) (i : ℕ) (x : X) → i < length xs → x ≡ get_or xs i x → count_by p (remove xs i) + cond (p x) 1 0 ≡ count_by p xs
count_by-remove p xs i x within is = ap (λ y. count_by p (remove xs i) + cond (p y) 1 0) is ∙ sum_by-remove (λ y. cond (p y) 1 0) xs i x within

-- where one element alone passes a test, to take it out is to keep what fails
pub remove_only : {X : Type 0} (named : X → Bool) (xs : List X) (i : ℕ) (x : X) → i < length xs → x ≡ get_or xs i x → named x ≡ true → count_by named xs ≤ 1 → SameCounts (filter (λ y. not (named y)) xs) (remove xs i)
remove_only named xs i x within is yes' few p =
    let rest = count_by-remove named xs i x within is in
    let one : cond (named x) 1 0 ≡ suc 0 = ap {B = ℕ} (λ b. cond b 1 0) yes' in
    let whole = count_by-remove (λ y. p y && not (named y)) xs i x within is in
    let out : cond (p x && not (named x)) 1 0 ≡ 0 = ap {B = ℕ} (λ b. cond (p x && not b) 1 0) yes' ∙ fails (p x) in
    omega (arith, count_by-filter p (λ y. not (named y)) xs, count_split p named (remove xs i), count_and-le p named (remove xs i), rest, one, whole, out)
  where
    fails : (b : Bool) → ◌≡◌ {A = ℕ} (cond (b && false) 1 0) 0
    fails true = refl
    fails false = refl

-- what holds of each element of the one list holds of each of the other
pub All-same : {X : Type 0} (p : X → Bool) (xs ys : List X) → SameCounts xs ys → list_any (λ x. not (p x)) xs ≡ false → (i : ℕ) (y : X) → i < length ys → y ≡ get_or ys i y → p y ≡ true
All-same p xs ys h none i y within is =
    let z : count_by (λ x. not (p x)) ys ≡ 0 = h (λ x. not (p x)) ∙ none_count (λ x. not (p x)) xs none in
    let r = count_by-remove (λ x. not (p x)) ys i y within is in
    elim (cases_Bool (p y)) [
      | inl good ↦ good
      | inr bad ↦ absurd (let one : cond (not (p y)) 1 0 ≡ suc 0 = ap {B = ℕ} (λ b. cond (not b) 1 0) bad in omega (arith, r, z, one))
    ]

pub filter-map : {X Y : Type 0} (p : Y → Bool) (f : X → Y) (xs : List X) → filter p (map f xs) ≡ map f (filter (λ x. p (f x)) xs)
filter-map p f [] = refl
filter-map p f (x ∷ xs) = filter-map_at (p (f x)) (filter-map p f xs)
  where
    filter-map_at : (b : Bool) → filter p (map f xs) ≡ map f (filter (λ x. p (f x)) xs) → cond b (f x ∷ filter p (map f xs)) (filter p (map f xs)) ≡ map f (cond b (x ∷ filter (λ x. p (f x)) xs) (filter (λ x. p (f x)) xs))
    filter-map_at true h = ap (λ ys. f x ∷ ys) h
    filter-map_at false h = h

pub count_by-map : {X Y : Type 0} (p : Y → Bool) (f : X → Y) (xs : List X) → count_by p (map f xs) ≡ count_by (λ x. p (f x)) xs
count_by-map p f [] = refl
count_by-map p f (x ∷ xs) = omega (arith, count_by-map p f xs, count_by-cons p (f x) (map f xs), count_by-cons (λ y. p (f y)) x xs)

pub count-filter-le : {X : Type 0} (p q : X → Bool) (xs : List X) → count_by p (filter q xs) ≤ count_by p xs
count-filter-le p q xs = omega (arith, count_by-filter p q xs, count_split p q xs)

pub eqb_sym : (a b : ℕ) → (a == b) ≡ (b == a)
eqb_sym a b = elim (cases_eq a b) [
  | inl same ↦ eq-eqb a b same ∙ sym (eq-eqb b a (sym same))
  | inr apart ↦ ne_eqb a b apart ∙ sym (ne_eqb b a (λ e. apart (sym e)))
]

pub length_part : {X : Type 0} (p : X → Bool) (xs : List X) → length (filter p xs) ≤ length xs
length_part p [] = omega arith
length_part p (x ∷ xs) = length_part_at (p x) (length_part p xs)
  where
    length_part_at : (b : Bool) → length (filter p xs) ≤ length xs → length (cond b (x ∷ filter p xs) (filter p xs)) ≤ length (x ∷ xs)
    length_part_at true le = omega (arith, le)
    length_part_at false le = omega (arith, le)
