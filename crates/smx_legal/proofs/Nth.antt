-- A loop that goes over a list, and one that goes over lists, to the n-th element that passes.
use Rattle.std.specs.Global.{Vec}
use Rattle.std.proofs.lemmas.List.Elements.{filter-append}
use Rattle.smx_history.specs.declared.entry.Entry.{Entry}
use Rattle.smx_legal.specs.Checks.{entries_in}
use Rattle.smx_legal.proofs.Marking.{entries_in-rest}
use Rattle.std.proofs.Common.{◌≡◌, ◌<◌, ◌≤◌, ◌+◌, ◌-◌, ℕ, Bool, true, false, cond, List, [], ◌∷◌, ◌++◌, length, get_or, drop, drop-cons, refl, sym, ◌∙◌, ap, arith, append_assoc, Option, Some, None, slice_get, filter, zero, suc, add-one}

rest_at : {X : Type 0} (p : X → Bool) (xs : List X) (i : ℕ) (d : X) → i < length xs → filter p (drop i xs) ≡ cond (p (get_or xs i d)) (get_or xs i d ∷ filter p (drop (i + 1) xs)) (filter p (drop (i + 1) xs))
rest_at p xs i d within = rw (add-one, drop-cons xs i d) refl

-- the next one passes, and none is left to pass over
pub nth_here : {X : Type 0} (p : X → Bool) (xs : List X) (i left : ℕ) (d : X) (r : Option X) → i < length xs → p (get_or xs i d) ≡ true → left ≡ 0 → slice_get (filter p (drop i xs)) left ≡ r → Some (get_or xs i d) ≡ r
nth_here p xs i left d r within passes none was =
    let front : filter p (drop i xs) ≡ get_or xs i d ∷ filter p (drop (i + 1) xs) = rest_at p xs i d within ∙ ap (λ b. cond b (get_or xs i d ∷ filter p (drop (i + 1) xs)) (filter p (drop (i + 1) xs))) passes in
    sym (ap (slice_get (filter p (drop i xs))) none ∙ ap (λ ys. slice_get ys 0) front) ∙ was

get_next : {X : Type 0} (x : X) (ys : List X) (left : ℕ) → 1 ≤ left → slice_get (x ∷ ys) left ≡ slice_get ys (left - 1)
get_next x ys zero h = absurd (omega arith)
get_next x ys (suc n) h = let e : suc n - 1 ≡ n = omega arith in rw e refl

-- the next one passes, and is one of those to pass over
pub nth_over : {X : Type 0} (p : X → Bool) (xs : List X) (i left next : ℕ) (d : X) (r : Option X) → i < length xs → p (get_or xs i d) ≡ true → 1 ≤ left → next ≡ left - 1 → slice_get (filter p (drop i xs)) left ≡ r → slice_get (filter p (drop (i + 1) xs)) next ≡ r
nth_over p xs i left next d r within passes some is was =
    let front : filter p (drop i xs) ≡ get_or xs i d ∷ filter p (drop (i + 1) xs) = rest_at p xs i d within ∙ ap (λ b. cond b (get_or xs i d ∷ filter p (drop (i + 1) xs)) (filter p (drop (i + 1) xs))) passes in
    ap (slice_get (filter p (drop (i + 1) xs))) is ∙ sym (get_next (get_or xs i d) (filter p (drop (i + 1) xs)) left some) ∙ ap (λ ys. slice_get ys left) (sym front) ∙ was

-- the next one does not pass
pub nth_other : {X : Type 0} (p : X → Bool) (xs : List X) (i left next : ℕ) (d : X) (r : Option X) → i < length xs → p (get_or xs i d) ≡ false → next ≡ left → slice_get (filter p (drop i xs)) left ≡ r → slice_get (filter p (drop (i + 1) xs)) next ≡ r
nth_other p xs i left next d r within fails is was =
    let front : filter p (drop i xs) ≡ filter p (drop (i + 1) xs) = rest_at p xs i d within ∙ ap (λ b. cond b (get_or xs i d ∷ filter p (drop (i + 1) xs)) (filter p (drop (i + 1) xs))) fails in
    ap (slice_get (filter p (drop (i + 1) xs))) is ∙ ap (λ ys. slice_get ys left) (sym front) ∙ was

drop_past : {X : Type 0} (i : ℕ) (xs : List X) → length xs ≤ i → drop i xs ≡ []
drop_past zero [] h = refl
drop_past (suc i) [] h = refl
drop_past zero (x ∷ xs) h = absurd (omega arith)
drop_past (suc i) (x ∷ xs) h = drop_past i xs (omega arith)

-- how many are left to pass over: at the next one that passes, at the next one that does not, and at the end
pub left_over : {X : Type 0} (p : X → Bool) (xs : List X) (i left next n : ℕ) (d : X) → i < length xs → p (get_or xs i d) ≡ true → 1 ≤ left → next ≡ left - 1 → left + length (filter p xs) ≡ n + length (filter p (drop i xs)) → next + length (filter p xs) ≡ n + length (filter p (drop (i + 1) xs))
left_over p xs i left next n d within passes some is was =
    let front : filter p (drop i xs) ≡ get_or xs i d ∷ filter p (drop (i + 1) xs) = rest_at p xs i d within ∙ ap (λ b. cond b (get_or xs i d ∷ filter p (drop (i + 1) xs)) (filter p (drop (i + 1) xs))) passes in
    let count : length (filter p (drop i xs)) ≡ suc (length (filter p (drop (i + 1) xs))) = ap length front in
    omega (arith, count, was, is, some)

pub left_other : {X : Type 0} (p : X → Bool) (xs : List X) (i left next n : ℕ) (d : X) → i < length xs → p (get_or xs i d) ≡ false → next ≡ left → left + length (filter p xs) ≡ n + length (filter p (drop i xs)) → next + length (filter p xs) ≡ n + length (filter p (drop (i + 1) xs))
left_other p xs i left next n d within fails is was =
    let front : filter p (drop i xs) ≡ filter p (drop (i + 1) xs) = rest_at p xs i d within ∙ ap (λ b. cond b (get_or xs i d ∷ filter p (drop (i + 1) xs)) (filter p (drop (i + 1) xs))) fails in
    omega (arith, ap length front, was, is)

pub left_end : {X : Type 0} (p : X → Bool) (xs : List X) (i left n : ℕ) → length xs ≤ i → left + length (filter p xs) ≡ n + length (filter p (drop i xs)) → left + length (filter p xs) ≡ n
left_end p xs i left n past was =
    let none : length (filter p (drop i xs)) ≡ 0 = ap (λ ys. length (filter p ys)) (drop_past i xs past) in
    omega (arith, none, was)

-- an element of two lists joined: of the first, or of the second after the first, or of neither
pub get_first : {X : Type 0} (xs ys : List X) (n : ℕ) (x : X) → slice_get xs n ≡ Some x → slice_get (xs ++ ys) n ≡ Some x
get_first [] ys zero x h = cc
get_first [] ys (suc n) x h = cc
get_first (z ∷ xs) ys zero x h = h
get_first (z ∷ xs) ys (suc n) x h = get_first xs ys n x h

pub get_second : {X : Type 0} (xs ys : List X) (n m : ℕ) → m + length xs ≡ n → slice_get (xs ++ ys) n ≡ slice_get ys m
get_second xs ys n m is = ap (slice_get (xs ++ ys)) (sym is) ∙ after xs m
  where
    after : (xs : List _) (m : ℕ) → slice_get (xs ++ ys) (m + length xs) ≡ slice_get ys m
    after [] m = ap (slice_get ys) (omega arith)
    after (x ∷ xs) m = ap (slice_get (x ∷ xs ++ ys)) (let e : m + length (x ∷ xs) ≡ suc (m + length xs) = omega arith in e) ∙ after xs m

pub get_none : {X : Type 0} (xs : List X) (n m : ℕ) → m + length xs ≡ n → slice_get xs n ≡ None
get_none [] n m is = refl
get_none (x ∷ xs) zero m is = absurd (omega (arith, is))
get_none (x ∷ xs) (suc n) m is = get_none xs n m (omega (arith, is))

-- in lists: the one that is looked for stands in the list at the index, after that list, or in the last
split_at : (p : Entry → Bool) (lists : List (Vec Entry)) (since : List Entry) (i : ℕ) (d v : Vec Entry) (es : List Entry) → i < length lists → v ≡ get_or lists i d → es ≡ v.items → filter p (entries_in (drop i lists) ++ since) ≡ filter p es ++ filter p (entries_in (drop (i + 1) lists) ++ since)
split_at p lists since i d v es within at is =
    ap (λ xs. filter p (xs ++ since)) (entries_in-rest lists i d v es within at is)
    ∙ ap (filter p) (append_assoc es (entries_in (drop (i + 1) lists)) since)
    ∙ filter-append p es (entries_in (drop (i + 1) lists) ++ since)

pub list_found : (p : Entry → Bool) (lists : List (Vec Entry)) (since : List Entry) (i left : ℕ) (d v : Vec Entry) (es : List Entry) (e : Entry) (all : Option Entry) → i < length lists → v ≡ get_or lists i d → es ≡ v.items → slice_get (filter p (entries_in (drop i lists) ++ since)) left ≡ all → slice_get (filter p es) left ≡ Some e → Some e ≡ all
list_found p lists since i left d v es e all within at is was found =
    sym (get_first (filter p es) (filter p (entries_in (drop (i + 1) lists) ++ since)) left e found)
    ∙ ap (λ xs. slice_get xs left) (sym (split_at p lists since i d v es within at is)) ∙ was

pub list_passed : (p : Entry → Bool) (lists : List (Vec Entry)) (since : List Entry) (i left rest : ℕ) (d v : Vec Entry) (es : List Entry) (all : Option Entry) → i < length lists → v ≡ get_or lists i d → es ≡ v.items → slice_get (filter p (entries_in (drop i lists) ++ since)) left ≡ all → rest + length (filter p es) ≡ left → slice_get (filter p (entries_in (drop (i + 1) lists) ++ since)) rest ≡ all
list_passed p lists since i left rest d v es all within at is was passed =
    sym (get_second (filter p es) (filter p (entries_in (drop (i + 1) lists) ++ since)) left rest passed)
    ∙ ap (λ xs. slice_get xs left) (sym (split_at p lists since i d v es within at is)) ∙ was

pub last_list : (p : Entry → Bool) (lists : List (Vec Entry)) (since : List Entry) (i left : ℕ) (all : Option Entry) → length lists ≤ i → slice_get (filter p (entries_in (drop i lists) ++ since)) left ≡ all → slice_get (filter p since) left ≡ all
last_list p lists since i left all past was = ap (λ xs. slice_get (filter p (entries_in xs ++ since)) left) (sym (drop_past i lists past)) ∙ was
