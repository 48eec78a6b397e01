-- Facts on all elements of lists.
use Rattle.std.proofs.Common.{◌≡◌, ◌||◌, ℕ, Bool, true, false, cond, List, [], ◌∷◌, ◌++◌, refl, ap, subst, slice_get, Some, filter}
use Rattle.std.specs.List.{AllByRecursion, list_any}
use Rattle.std.proofs.lemmas.Bool.{both_ways}
use Rattle.std.proofs.lemmas.Option.{slice_get_within, get_or_from_slice_get}
use Rattle.smx_history.proofs.Keeping.{All-get_row}

pub All-in_filter : {X : Type 0} (P : X → Type 0) (p : X → Bool) (xs : List X) → AllByRecursion P (filter p xs) → AllByRecursion (λ x. p x ≡ true → P x) xs
All-in_filter P p [] h = tt
All-in_filter P p (x ∷ xs) h = All-in_filter_at (p x) refl h (All-in_filter P p xs)
  where
    All-in_filter_at : (b : Bool) → p x ≡ b → AllByRecursion P (cond b (x ∷ filter p xs) (filter p xs)) → (AllByRecursion P (filter p xs) → AllByRecursion (λ y. p y ≡ true → P y) xs) → AllByRecursion (λ y. p y ≡ true → P y) (x ∷ xs)
    All-in_filter_at true e h later = ((λ _. h.0), later h.1)
    All-in_filter_at false e h later = ((λ t. absurd (both_ways (p x) e t)), later h)

pub All-at : {X : Type 0} (P : X → Type 0) (xs : List X) (k : ℕ) (x : X) → slice_get xs k ≡ Some x → AllByRecursion P xs → P x
All-at P xs k x at all = subst P (get_or_from_slice_get xs k x x at) (All-get_row P xs k x (slice_get_within xs k x at) all)

pub any_weaken : {X : Type 0} (p q : X → Bool) → ((x : X) → p x ≡ true → q x ≡ true) → (xs : List X) → list_any p xs ≡ true → list_any q xs ≡ true
any_weaken p q weaker [] h = h
any_weaken p q weaker (x ∷ xs) h = any_weaken_at (p x) refl h (any_weaken p q weaker xs)
  where
    or_last : (a b : Bool) → b ≡ true → (a || b) ≡ true
    or_last true b e = refl
    or_last false b e = e

    any_weaken_at : (b : Bool) → p x ≡ b → (b || list_any p xs) ≡ true → (list_any p xs ≡ true → list_any q xs ≡ true) → (q x || list_any q xs) ≡ true
    any_weaken_at true e h later = ap (λ t. t || list_any q xs) (weaker x e)
    any_weaken_at false e h later = or_last (q x) (list_any q xs) (later h)

pub All-both : {X : Type 0} (P : X → Type 0) (xs ys : List X) → AllByRecursion P xs → AllByRecursion P ys → AllByRecursion P (xs ++ ys)
All-both P [] ys a b = b
All-both P (x ∷ xs) ys a b = (a.0, All-both P xs ys a.1 b)
