-- One line more of what a list prints, and all of them.
use Rattle.std.proofs.Common.{◌≡◌, ℕ, ◌+◌, ◌<◌, ◌≤◌, List, [], ◌++◌, length, take, get_or, sym, ap, ◌∙◌}
use Rattle.std.specs.List.{flat_map}
use Rattle.std.proofs.lemmas.List.{flat_map_more, take_more, take_all}

pub printed_more : {X : Type 0} (f : X → List ℕ) (xs : List X) (i : ℕ) (d : X) (old new line : List ℕ) → i < length xs → old ≡ flat_map f (take i xs) → new ≡ old ++ line → line ≡ f (get_or xs i d) → new ≡ flat_map f (take (i + 1) xs)
printed_more f xs i d old new line within so_far pushed is =
    pushed ∙ ap (λ (t : List ℕ). t ++ line) so_far ∙ ap (λ (l : List ℕ). flat_map f (take i xs) ++ l) is ∙ flat_map_more f [] (take i xs) (get_or xs i d) ∙ ap (flat_map f) (sym (take_more xs i d within))

pub printed_all : {X : Type 0} (f : X → List ℕ) (xs : List X) (i : ℕ) (text : List ℕ) → length xs ≤ i → text ≡ flat_map f (take i xs) → text ≡ flat_map f xs
printed_all f xs i text past so_far = so_far ∙ ap (flat_map f) (take_all i xs past)
