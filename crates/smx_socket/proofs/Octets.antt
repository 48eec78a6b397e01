-- Octets that are taken in two parts.
use Rattle.std.proofs.Common.{◌≡◌, ℕ, ◌+◌, ◌-◌, List, ◌++◌, take, drop, length, length-drop, sym, ◌∙◌, ap, arith}
use Rattle.std.proofs.lemmas.List.{take-append-drop, take-take, take_all, drop-take}

pub takes_both : (n m : ℕ) (xs : List ℕ) → take n xs ++ take m (take (length xs - n) (drop n xs)) ≡ take (n + m) xs
takes_both n m xs =
    ap (λ l. take n xs ++ take m l) (take_all (length xs - n) (drop n xs) (omega (arith, length-drop n xs)))
    ∙ ap (λ l. take n xs ++ l) (sym (drop-take n m xs))
    ∙ ap (λ l. l ++ drop n (take (n + m) xs)) (sym (take-take n (n + m) xs (omega arith)))
    ∙ take-append-drop n (take (n + m) xs)
