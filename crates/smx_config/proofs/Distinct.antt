-- Lists in which no two names are equal.
use Rattle.std.proofs.Common.{◌≡◌, ◌≢◌, ℕ, List, [], ◌∷◌, map, All, Bool, true, false, Some, None, refl, arith}
use Rattle.std.specs.List.{list_any}
use Rattle.std.specs.Str.{bytes_eq}
use Rattle.std.proofs.lemmas.List.Folds.{list_any_at}
use Rattle.std.proofs.lemmas.Slice.Eq.{bytes_eq-Decides}
use Rattle.toml.specs.Data.{Data}
use Rattle.smx_config.specs.declared.text.Text.TheVariants.{Prefix}
use Rattle.smx_config.specs.Settings.{prefix_in, text_of}

pub list_any-map : {A B : Type 0} (p : B → Bool) (f : A → B) (xs : List A) → list_any (λ x. p (f x)) xs ≡ list_any p (map f xs)
list_any-map p f [] = refl
list_any-map p f (x ∷ xs) = rw (list_any-map p f xs)

bytes_eq_itself : (s : List ℕ) → bytes_eq s s ≡ true
bytes_eq_itself s = let same : s ≡ s = refl in let test = bytes_eq-Decides s s in grind arith

-- where no test finds a name, each name is another
pub All-from_none : {A : Type 0} (name : A → List ℕ) (s : List ℕ) (xs : List A) → list_any (λ x. bytes_eq s (name x)) xs ≡ false → All (λ x. name x ≢ s) xs
All-from_none name s xs none k d h e =
    let found : list_any (λ x. bytes_eq s (name x)) xs ≡ true = list_any_at (λ x. bytes_eq s (name x)) xs k d h (rw e (bytes_eq_itself s)) in
    cc

-- a text that is among those before it states no prefix, and another one does
pub prefix_in-known : (s : List ℕ) (before : List (List ℕ)) (d : Data) → Some s ≡ text_of Prefix d → list_any (bytes_eq s) before ≡ true → None ≡ prefix_in before d
prefix_in-known s before d is known = rw (← is, known)

pub prefix_in-new : (s : List ℕ) (before : List (List ℕ)) (d : Data) → Some s ≡ text_of Prefix d → list_any (bytes_eq s) before ≡ false → Some s ≡ prefix_in before d
prefix_in-new s before d is other = rw (← is, other)
