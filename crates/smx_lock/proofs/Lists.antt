-- Beginnings of lists, and a place of a list.
use Rattle.std.proofs.Common.{◌≡◌, ℕ, zero, suc, ◌⊎◌, List, [], ◌∷◌, ◌++◌, set, refl, sym, ap, ◌∙◌, inl, inr, ⊎_elim, append_assoc}
use Rattle.std.proofs.lemmas.List.{append-nil}
use mathlib.Core.Option.{some, some-ne-none}
use mathlib.Core.List.{IsPrefix}
use lib.ListN.{get_elem?}

pub prefix_self : {A : Type 0} (xs : List A) → IsPrefix xs xs
prefix_self xs = ([], append-nil xs)

pub prefix_more : {A : Type 0} (xs ys zs : List A) → IsPrefix xs ys → IsPrefix xs (ys ++ zs)
prefix_more xs ys zs p = (p.0 ++ zs, sym (append_assoc xs p.0 zs) ∙ ap (λ w. w ++ zs) p.1)

pub set_there : {A : Type 0} (l : List A) (i : ℕ) (a b : A) → get_elem? l i ≡ some b → get_elem? (set l i a) i ≡ some a
set_there [] i a b h = absurd (some-ne-none b (sym h))
set_there (x ∷ xs) zero a b h = refl
set_there (x ∷ xs) (suc i) a b h = set_there xs i a b h

head_is : {A : Type 0} (x y : A) (xs ys : List A) → x ∷ xs ≡ y ∷ ys → x ≡ y
head_is x y xs ys e = cc

tail_is : {A : Type 0} (x y : A) (xs ys : List A) → x ∷ xs ≡ y ∷ ys → xs ≡ ys
tail_is x y xs ys e = cc

-- of two beginnings of one list one begins with the other
pub begins_other : {A : Type 0} (xs ys a b : List A) → xs ++ a ≡ ys ++ b → IsPrefix xs ys ⊎ IsPrefix ys xs
begins_other [] ys a b e = inl (ys, refl)
begins_other (x ∷ xs) [] a b e = inr (x ∷ xs, refl)
begins_other (x ∷ xs) (y ∷ ys) a b e = let same = head_is x y (xs ++ a) (ys ++ b) e in
    ⊎_elim (λ (p : IsPrefix xs ys). inl (p.0, λ k. same k ∷ p.1 k)) (λ (p : IsPrefix ys xs). inr (p.0, λ k. sym same k ∷ p.1 k)) (begins_other xs ys a b (tail_is x y (xs ++ a) (ys ++ b) e))
