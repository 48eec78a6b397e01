-- Octets that move from one list to the next.
use Rattle.std.proofs.Common.{◌≡◌, ℕ, ◌+◌, ◌≤◌, List, [], ◌∷◌, ◌++◌, take, drop, length, length-drop, refl, sym, ◌∙◌, ap, append_assoc, arith}
use Rattle.std.proofs.lemmas.List.{take-append-drop, take-append-le, take-take, drop-drop, drop-take, drop_at, length-take}

-- what a link takes of what waits, and then the rest
pub sends : (before waiting : List ℕ) (s n : ℕ) → before ++ take n (drop s waiting) ++ drop (s + n) waiting ≡ before ++ drop s waiting
sends before waiting s n =
    append_assoc before (take n (drop s waiting)) (drop (s + n) waiting)
    ∙ ap (λ l. before ++ (take n (drop s waiting) ++ l)) (sym (drop-drop n s waiting))
    ∙ ap (λ l. before ++ l) (take-append-drop n (drop s waiting))

-- nothing is left where all was dropped
pub none_left : (s : ℕ) (xs : List ℕ) → s ≡ length xs → drop s xs ≡ []
none_left s xs all = nil_of (drop s xs) (omega (arith, length-drop s xs))
  where
    nil_of : (ys : List ℕ) → length ys ≡ 0 → ys ≡ []
    nil_of [] e = refl
    nil_of (y ∷ ys) e = absurd (omega arith)

pub all_dropped : (s : ℕ) (xs : List ℕ) → s ≤ length xs → drop s xs ≡ [] → s ≡ length xs
all_dropped s xs within none = omega (arith, length-drop s xs, ap length none)

-- octets that were put behind others, in place of some, are those that are there
pub put_behind : (e n len : ℕ) (old put more tail : List ℕ) → e ≤ length old → n ≤ length put → e + n ≤ len
    → drop e (take (e + n) (take len (take e old ++ (put ++ more) ++ tail))) ≡ take n put
put_behind e n len old put more tail within few room =
    let all = take e old ++ (put ++ more) ++ tail in
    let size : length (take e old) ≡ e = omega (arith, length-take e old, within) in
    ap (drop e) (take-take (e + n) len all room)
    ∙ drop-take e n all
    ∙ ap (λ l. take n (drop e l)) (append_assoc (take e old) (put ++ more) tail)
    ∙ ap (take n) (drop_at (take e old) ((put ++ more) ++ tail) e size)
    ∙ ap (take n) (append_assoc put more tail)
    ∙ take-append-le n put (more ++ tail) few
