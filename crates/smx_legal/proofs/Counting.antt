-- What an entry changes in the totals of a list.
use Rattle.std.proofs.Common.{◌≡◌, ◌≤◌, ◌+◌, ◌==◌, ℕ, Bool, true, false, not, ◌&&◌, cond, List, [], ◌∷◌, ◌++◌, length, map, filter, refl, ◌∙◌, ap, arith, count_by, sum_by}
use Rattle.std.specs.List.{list_any, AllByRecursion}
use Rattle.std.proofs.lemmas.List.Sums.{sum_by-cons, length-filter}
use Rattle.std.proofs.lemmas.List.Filters.{sum_by-filter_both}
use Rattle.std.proofs.lemmas.Bool.{and_from, and_parts, and_left}
use Rattle.smx_history.specs.declared.entry.Entry.{Entry}
use Rattle.smx_history.specs.Entries.{is_admit, is_take, is_settling, answers_of, collects_of, is_admitted, unanswered_takes}
use Rattle.smx_history.specs.Legal.{IsFifo}
use Rattle.smx_legal.specs.Checks.{takes_as, settlings_as}
use Rattle.smx_history.proofs.ListPushes.{filter_other, StartsWith-length}
use Rattle.smx_history.proofs.Frames.{unanswered-other}
use Rattle.smx_history.proofs.Reading.{All-filtered, All-from_get}
use Rattle.smx_history.proofs.Taking.{any_weaker}
use Rattle.std.proofs.lemmas.List.{length-map}

pub count_agree : {X : Type 0} (p q : X → Bool) → ((x : X) → p x ≡ q x) → (xs : List X) → count_by p xs ≡ count_by q xs
count_agree p q h xs = ap (λ (t : _ → Bool). count_by t xs) (λ i x. h x i)

pub count_implies : {X : Type 0} (p q : X → Bool) → ((x : X) → p x ≡ true → q x ≡ true) → (xs : List X) → count_by p xs ≤ count_by q xs
count_implies p q h [] = omega arith
count_implies p q h (x ∷ xs) = omega (arith, count_implies p q h xs, sum_by-cons (λ y. cond (p y) 1 0) x xs, sum_by-cons (λ y. cond (q y) 1 0) x xs, one (p x) (q x) (h x))
  where
    one : (a b : Bool) → (a ≡ true → b ≡ true) → cond a 1 0 ≤ cond b 1 0
    one false true h = omega arith
    one false false h = omega arith
    one true true h = omega arith
    one true false h = absurd (let e : false ≡ true = h refl in cc)

pub sum_more : {X : Type 0} (f g : X → ℕ) (p : X → Bool) → ((x : X) → f x ≡ g x + cond (p x) 1 0) → (xs : List X) → sum_by f xs ≡ sum_by g xs + count_by p xs
sum_more f g p h [] = refl
sum_more f g p h (x ∷ xs) = omega (arith, sum_more f g p h xs, sum_by-cons f x xs, sum_by-cons g x xs, sum_by-cons (λ y. cond (p y) 1 0) x xs, h x)

pub length_without : {X : Type 0} (p : X → Bool) (xs : List X) → length (filter (λ x. not (p x)) xs) + count_by p xs ≡ length xs
length_without p [] = refl
length_without p (x ∷ xs) = length_without_at (p x) refl (length_without p xs)
  where
    length_without_at : (b : Bool) → p x ≡ b → length (filter (λ y. not (p y)) xs) + count_by p xs ≡ length xs → length (cond (not b) (x ∷ filter (λ y. not (p y)) xs) (filter (λ y. not (p y)) xs)) + count_by p (x ∷ xs) ≡ length (x ∷ xs)
    length_without_at true e h = omega (arith, h, sum_by-cons (λ y. cond (p y) 1 0) x xs, ap {B = ℕ} (λ b. cond b 1 0) e)
    length_without_at false e h = omega (arith, h, sum_by-cons (λ y. cond (p y) 1 0) x xs, ap {B = ℕ} (λ b. cond b 1 0) e)

sum_single : {X : Type 0} (f : X → ℕ) (k : ℕ) (xs : List X) → length xs ≡ 1 → AllByRecursion (λ x. f x ≡ k) xs → sum_by f xs ≡ k
sum_single f k [] h all = absurd (omega (arith, h))
sum_single f k (x ∷ []) h all = omega (arith, all.0, sum_by-cons f x [])
sum_single f k (x ∷ y ∷ xs) h all = absurd (omega (arith, h))

-- the one that passes goes out of the sum
pub sum_without : {X : Type 0} (f : X → ℕ) (p : X → Bool) (k : ℕ) (xs : List X) → count_by p xs ≡ 1 → ((x : X) → p x ≡ true → f x ≡ k) → sum_by f (filter (λ x. not (p x)) xs) + k ≡ sum_by f xs
sum_without f p k xs one same =
    let both = sum_by-filter_both p (λ x. not (p x)) (λ x. refl) f xs in
    let single : sum_by f (filter p xs) ≡ k =
    sum_single f k (filter p xs) (length-filter p xs ∙ one) (All-filtered (λ x. f x ≡ k) p xs (All-from_get (λ x. p x ≡ true → f x ≡ k) xs (λ i x at. same x))) in
    omega (arith, both, single)

-- who admitted the client is no matter
pub admitted_any : (es : List Entry) (by c : ℕ) → is_admitted by c es ≡ true → list_any (λ e. is_admit e.kind && (e.client == c)) es ≡ true
admitted_any es by c h =
    any_weaker (λ x. is_admit x.kind && ((x.client == c) && (x.by == by))) (λ x. is_admit x.kind && (x.client == c)) es
    (λ x t. let w = and_parts (is_admit x.kind) ((x.client == c) && (x.by == by)) t in
    let y = and_parts (x.client == c) (x.by == by) w.1 in and_from _ _ w.0 y.0) h

pub collected_le : (es : List Entry) (c : ℕ) → IsFifo es → length (collects_of c es) ≤ length (answers_of c es)
collected_le es c fifo =
    let le = StartsWith-length (map (λ x. x.ordinal) (answers_of c es)) (map (λ x. x.ordinal) (collects_of c es)) (fifo.collected c) in
    omega (arith, le, length-map (answers_of c es) (λ (x : Entry). x.ordinal), length-map (collects_of c es) (λ (x : Entry). x.ordinal))

pub takes_as-other : (u : ℕ) (es : List Entry) (e : Entry) → is_take e.kind ≡ false → takes_as u (es ++ e ∷ []) ≡ takes_as u es
takes_as-other u es e h = ap length (filter_other (λ x. is_take x.kind && (x.number == u)) es e (and_left _ _ h))

pub settlings_as-other : (u : ℕ) (es : List Entry) (e : Entry) → is_settling e.kind ≡ false → settlings_as u (es ++ e ∷ []) ≡ settlings_as u es
settlings_as-other u es e h = ap length (filter_other (λ x. is_settling x.kind && (x.number == u)) es e (and_left _ _ h))

-- an entry that neither takes nor settles leaves the numbers
pub numbers_kept : (es : List Entry) (e : Entry) → is_take e.kind ≡ false → is_settling e.kind ≡ false → ((u : ℕ) → count_by (λ x. x.number == u) (unanswered_takes es) + settlings_as u es ≡ takes_as u es) → (u : ℕ) → count_by (λ x. x.number == u) (unanswered_takes (es ++ e ∷ [])) + settlings_as u (es ++ e ∷ []) ≡ takes_as u (es ++ e ∷ [])
numbers_kept es e t s h u = omega (arith, h u, takes_as-other u es e t, settlings_as-other u es e s, ap (count_by (λ x. x.number == u)) (unanswered-other es e t s))
