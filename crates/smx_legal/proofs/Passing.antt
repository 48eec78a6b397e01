-- What a test of an entry that was found says.
use Rattle.std.proofs.Common.{◌≡◌, ◌<◌, ◌≤◌, ◌==◌, ℕ, Bool, true, false, cond, ◌||◌, ◌&&◌, List, [], ◌∷◌, map, refl, sym, ◌∙◌, ap, arith, Option, Some, None, slice_get, filter, nat_le, inl, inr}
use Rattle.std.specs.List.{list_any, AllByRecursion}
use Rattle.std.specs.Option.{option_map}
use Rattle.std.proofs.lemmas.Bool.{and_from, and_parts, eqb-true, eq-eqb, le-leb, lt-leb, or_parts, cases_lt}
use Rattle.smx_history.specs.declared.entry.Entry.{Entry}
use Rattle.smx_history.specs.Prefixes.{last_or, first_or}
use Rattle.smx_history.specs.Entries.{Name, name_of, has_name}
use Rattle.smx_legal.specs.Checks.{passes}

-- a test of the first that was found
pub passes_first : (p : Entry → Bool) (f : Entry → ℕ) (g : ℕ → Bool) (xs : List Entry) → passes (λ x. g (f x)) (slice_get (filter p xs) 0) ≡ (list_any p xs && g (first_or 0 (map f (filter p xs))))
passes_first p f g [] = refl
passes_first p f g (x ∷ xs) =
    elim (p x) as (λ b. passes (λ x. g (f x)) (slice_get (cond b (x ∷ filter p xs) (filter p xs)) 0) ≡ ((b || list_any p xs) && g (first_or 0 (map f (cond b (x ∷ filter p xs) (filter p xs)))))) [
      | true ↦ refl
      | false ↦ passes_first p f g xs
    ]

same_name : (e : Entry) (c n : ℕ) → has_name c n e ≡ true → ◌≡◌ {A = Name} (name_of e) (record { client = c; ordinal = n })
same_name e c n h =
    let w = and_parts (e.client == c) (e.ordinal == n) h in
    let p = eqb-true e.client c w.0 in
    let q = eqb-true e.ordinal n w.1 in
    λ i. record { client = p i; ordinal = q i }

pub named_some : (o : Option Entry) (c n : ℕ) → passes (has_name c n) o ≡ true → option_map name_of o ≡ Some (record { client = c; ordinal = n })
named_some None c n h = cc
named_some (Some e) c n h = ap Some (same_name e c n h)

pub some_named : (o : Option Entry) (c n : ℕ) → option_map name_of o ≡ Some (record { client = c; ordinal = n }) → passes (has_name c n) o ≡ true
some_named None c n h = cc
some_named (Some e) c n h =
    let same : name_of e ≡ record { client = c; ordinal = n } = cc in
    and_from _ _ (eq-eqb e.client c (ap (λ (x : Name). x.client) same)) (eq-eqb e.ordinal n (ap (λ (x : Name). x.ordinal) same))

pub numbered_some : (o : Option Entry) (n : ℕ) → passes (λ x. x.ordinal == n) o ≡ true → option_map (λ (x : Entry). x.ordinal) o ≡ Some n
numbered_some None n h = cc
numbered_some (Some e) n h = ap Some (eqb-true e.ordinal n h)

pub some_numbered : (o : Option Entry) (n : ℕ) → option_map (λ (x : Entry). x.ordinal) o ≡ Some n → passes (λ x. x.ordinal == n) o ≡ true
some_numbered None n h = cc
some_numbered (Some e) n h = let same : e.ordinal ≡ n = cc in eq-eqb e.ordinal n same

leb-below : (a b : ℕ) → nat_le a b ≡ false → b < a
leb-below a b h = elim (cases_lt b a) [
  | inl below ↦ below
  | inr above ↦ absurd (let x : false ≡ true = sym h ∙ le-leb a b above in cc)
]

-- numbers of which none has reached n end below it
pub last_below : {X : Type 0} (f : X → ℕ) (p : X → Bool) (low n : ℕ) (xs : List X) → low < n → list_any (λ x. p x && nat_le n (f x)) xs ≡ false → last_or low (map f (filter p xs)) < n
last_below f p low n [] h none = h
last_below f p low n (x ∷ xs) h none = last_below_at (p x) none (λ l g. last_below f p l n xs g)
  where
    last_below_at : (b : Bool) → ((b && nat_le n (f x)) || list_any (λ y. p y && nat_le n (f y)) xs) ≡ false → ((l : ℕ) → l < n → list_any (λ y. p y && nat_le n (f y)) xs ≡ false → last_or l (map f (filter p xs)) < n) → last_or low (map f (cond b (x ∷ filter p xs) (filter p xs))) < n
    last_below_at true none later = let w = or_parts (nat_le n (f x)) (list_any (λ y. p y && nat_le n (f y)) xs) none in later (f x) (leb-below n (f x) w.0) w.1
    last_below_at false none later = later low h none

pub below_last : {X : Type 0} (f : X → ℕ) (p : X → Bool) (n last : ℕ) (xs : List X) → last < n → AllByRecursion (λ k. k ≤ last) (map f (filter p xs)) → list_any (λ x. p x && nat_le n (f x)) xs ≡ false
below_last f p n last [] h all = refl
below_last f p n last (x ∷ xs) h all = below_last_at (p x) all (below_last f p n last xs h)
  where
    below_last_at : (b : Bool) → AllByRecursion (λ k. k ≤ last) (map f (cond b (x ∷ filter p xs) (filter p xs))) → (AllByRecursion (λ k. k ≤ last) (map f (filter p xs)) → list_any (λ y. p y && nat_le n (f y)) xs ≡ false) → ((b && nat_le n (f x)) || list_any (λ y. p y && nat_le n (f y)) xs) ≡ false
    below_last_at true all later = rw (lt-leb n (f x) (omega (arith, all.0, h)), later all.1) refl
    below_last_at false all later = later all
