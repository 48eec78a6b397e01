-- The ring of lanes, lane by lane.
use Rattle.std.proofs.Common.{◌≡◌, ◌<◌, ◌≤◌, ◌+◌, ◌%◌, ℕ, zero, suc, List, [], ◌∷◌, length, map, drop, get_or, ◌∙◌, ap, arith}
use Rattle.std.specs.List.{AllByRecursion, range_with_len}
use Rattle.std.proofs.lemmas.List.{drop_all, drop_more, get_or-map}
use Rattle.std.proofs.lemmas.List.FromFn.{length-map-range_with_len, length-range_with_len, get_or-range_with_len}
use Rattle.std.proofs.lemmas.Nat.{mod_below}
use Rattle.smx_history.specs.Ring.{ring}

-- the lanes from the k-th of the ring on
pub ring_step : (first count k : ℕ) → k < count → drop k (ring first count) ≡ ((first + k) % count) ∷ drop (k + 1) (ring first count)
ring_step first count k lt =
    let f : ℕ → ℕ = λ j. (first + j) % count in
    let inside : k < length (map f (range_with_len 0 count)) = omega (arith, length-map-range_with_len f 0 count) in
    let at : get_or (map f (range_with_len 0 count)) k 0 ≡ f k =
    get_or-map f (range_with_len 0 count) k 0 0 (omega (arith, length-range_with_len 0 count)) ∙ ap f (get_or-range_with_len 0 count k 0 lt ∙ omega arith) in
    drop_more (map f (range_with_len 0 count)) k 0 inside ∙ ap (λ i. i ∷ drop (k + 1) (map f (range_with_len 0 count))) at

pub ring_end : (first count k : ℕ) → count ≤ k → drop k (ring first count) ≡ []
ring_end first count k le = drop_all k (ring first count) (omega (arith, length-map-range_with_len (λ j. (first + j) % count) 0 count))

all_map : {X Y : Type 0} (Q : Y → Type 0) (f : X → Y) → ((x : X) → Q (f x)) → (xs : List X) → AllByRecursion Q (map f xs)
all_map Q f each [] = tt
all_map Q f each (x ∷ xs) = (each x, all_map Q f each xs)

-- there is a lane at each index of the ring
pub ring_within : (first count : ℕ) → AllByRecursion (λ i. i < count) (ring first count)
ring_within first zero = tt
ring_within first (suc n) = all_map (λ i. i < suc n) (λ k. (first + k) % suc n) (λ k. mod_below (first + k) (suc n) (omega arith)) (range_with_len 0 (suc n))
