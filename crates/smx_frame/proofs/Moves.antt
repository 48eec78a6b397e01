-- Octets that are moved to the front.
use Rattle.std.proofs.Common.{◌≡◌, ◌+◌, ◌-◌, ◌≤◌, ◌++◌, ℕ, List, length, take, drop, sym, ap, ◌∙◌, arith}
use Rattle.std.specs.List.{copy_within}
use Rattle.std.proofs.Math.Seq.{paste}
use Rattle.std.proofs.lemmas.List.{drop-take, take_at, length-take, length-drop}

pub front : (xs : List ℕ) (s m : ℕ) → s + m ≤ length xs → take m (copy_within xs s (s + m) 0) ≡ drop s (take (s + m) xs)
front xs s m within =
    let same : (s + m) - s ≡ m = omega arith in
    let size : length (take m (drop s xs)) ≡ m = omega (arith, length-take m (drop s xs), length-drop s xs) in
    ap (λ k. take m (paste xs 0 (drop s xs) k)) same ∙ take_at (take m (drop s xs)) (drop (0 + m) xs) m size ∙ sym (drop-take s m xs)
