-- A client collects no more responses than it had requests accepted.
use Rattle.std.proofs.Common.{◌≡◌, ◌<◌, ◌≤◌, ◌==◌, ◌&&◌, ◌||◌, ℕ, Bool, true, false, cond, List, [], ◌∷◌, length, map, get_or, refl, sym, ◌∙◌, ap, subst, arith, count_by, filter, suc, inl, inr}
use Rattle.std.specs.List.{list_any, AllByRecursion, remove}
use Rattle.std.proofs.lemmas.Bool.{cases_Bool, eq-eqb, eqb-true}
use Rattle.std.proofs.lemmas.List.{length-map}
use Rattle.std.proofs.lemmas.List.Edits.{length-remove}
use Rattle.std.proofs.lemmas.List.Sums.{sum_by-cons}
use Rattle.smx_history.specs.declared.entry.Kind.{Kind}
use Rattle.smx_history.specs.declared.entry.Kind.TheVariants as kind
use Rattle.smx_history.specs.declared.entry.Entry.{Entry}
use Rattle.smx_history.specs.declared.limits.Limits.{Limits}
use Rattle.smx_history.specs.Entries.{is_accept, is_answer, is_settling, has_name, accepts_of, answers_of, collects_of, is_accepted}
use Rattle.smx_history.specs.Legal.{KeepsRules, IsFifo}
use Rattle.smx_history.proofs.Counts.{any_count, none_count, count_by-map, count_by-filter, count_by-remove}
use Rattle.smx_history.proofs.Frames.{sum_by-agree}
use Rattle.smx_history.proofs.ListPushes.{AtEachPrefix-whole, StartsWith-length}
use Rattle.smx_history.proofs.Reading.{answers_accepted}

pub found_at : (x : ℕ) (ys : List ℕ) → 1 ≤ count_by (λ y. y == x) ys → (i : ℕ) × (i < length ys) × (x ≡ get_or ys i x)
found_at x [] some = absurd (omega (arith, some))
found_at x (y ∷ ys) some = at (y == x) refl (found_at x ys)
  where
    at : (b : Bool) → (y == x) ≡ b → (1 ≤ count_by (λ z. z == x) ys → (i : ℕ) × (i < length ys) × (x ≡ get_or ys i x)) → (i : ℕ) × (i < length (y ∷ ys)) × (x ≡ get_or (y ∷ ys) i x)
    at true e later = (0, omega arith, sym (eqb-true y x e))
    at false e later =
        let w = later (omega (arith, some, sum_by-cons (λ z. cond (z == x) 1 0) y ys, ap {B = ℕ} (λ b. cond b 1 0) e)) in
        (suc w.0, omega (arith, w.1), w.2)

-- numbers of which each comes no more often than in others are no more than those
no_more : (xs ys : List ℕ) → ((n : ℕ) → count_by (λ x. x == n) xs ≤ count_by (λ y. y == n) ys) → length xs ≤ length ys
no_more [] ys few = omega arith
no_more (x ∷ xs) ys few =
    let one : cond (x == x) 1 0 ≡ suc 0 = ap {B = ℕ} (λ b. cond b 1 0) (eq-eqb x x refl) in
    let at = found_at x ys (omega (arith, few x, sum_by-cons (λ y. cond (y == x) 1 0) x xs, one)) in
    let rest = no_more xs (remove ys at.0) (λ n. omega (arith, few n, sum_by-cons (λ y. cond (y == n) 1 0) x xs, count_by-remove (λ y. y == n) ys at.0 x at.1 at.2)) in
    omega (arith, rest, length-remove ys at.0 at.1)

all_had : (P : ℕ → Type 0) (n : ℕ) (xs : List ℕ) → AllByRecursion P xs → list_any (λ x. x == n) xs ≡ true → P n
all_had P n [] all some = cc
all_had P n (x ∷ xs) all some = at (x == n) refl some (all_had P n xs all.1)
  where
    at : (b : Bool) → (x == n) ≡ b → (b || list_any (λ y. y == n) xs) ≡ true → (list_any (λ y. y == n) xs ≡ true → P n) → P n
    at true e s later = subst P (eqb-true x n e) all.0
    at false e s later = later s

-- a client's entries of a sort with that ordinal, counted by their name
count_named : (p : Entry → Bool) (c n : ℕ) (es : List Entry) → count_by (λ x. x == n) (map (λ (e : Entry). e.ordinal) (filter (λ e. p e && (e.client == c)) es)) ≡ count_by (λ e. p e && has_name c n e) es
count_named p c n es =
    count_by-map (λ x. x == n) (λ (e : Entry). e.ordinal) (filter (λ e. p e && (e.client == c)) es)
    ∙ count_by-filter (λ e. e.ordinal == n) (λ e. p e && (e.client == c)) es
    ∙ sum_by-agree (λ e. cond ((e.ordinal == n) && (p e && (e.client == c))) 1 0) (λ e. cond (p e && has_name c n e) 1 0) (λ e. ap {B = ℕ} (λ b. cond b 1 0) (turned (e.ordinal == n) (p e) (e.client == c))) es
  where
    turned : (x y z : Bool) → (x && (y && z)) ≡ (y && (z && x))
    turned true true true = refl
    turned true true false = refl
    turned true false z = refl
    turned false true true = refl
    turned false true false = refl
    turned false false z = refl

answer_settles : (k : Kind) (b : Bool) → cond (is_answer k && b) 1 0 ≤ cond (is_settling k && b) 1 0
answer_settles kind.Answer b = omega arith
answer_settles kind.Fail b = omega arith
answer_settles kind.Admit b = omega arith
answer_settles kind.Accept b = omega arith
answer_settles kind.Take b = omega arith
answer_settles kind.Late b = omega arith
answer_settles kind.Collect b = omega arith
answer_settles kind.Retire b = omega arith
answer_settles kind.Down b = omega arith
answer_settles kind.Up b = omega arith

answers_settle : (c n : ℕ) (es : List Entry) → count_by (λ e. is_answer e.kind && has_name c n e) es ≤ count_by (λ e. is_settling e.kind && has_name c n e) es
answers_settle c n [] = omega arith
answers_settle c n (e ∷ es) =
    omega (arith, answers_settle c n es, answer_settles e.kind (has_name c n e), sum_by-cons (λ x. cond (is_answer x.kind && has_name c n x) 1 0) e es, sum_by-cons (λ x. cond (is_settling x.kind && has_name c n x) 1 0) e es)

-- each answer is to an accept of its own
answers_within : (limits : Limits) (es : List Entry) (c : ℕ) → KeepsRules limits es → length (answers_of c es) ≤ length (accepts_of c es)
answers_within limits es c legal =
    let xs = map (λ (e : Entry). e.ordinal) (answers_of c es) in
    let ys = map (λ (e : Entry). e.ordinal) (accepts_of c es) in
    let few = no_more xs ys (λ n. elim (cases_Bool (list_any (λ x. x == n) xs)) [
      | inl some ↦ omega (
        arith,
        count_named (λ e. is_answer e.kind) c n es,
        count_named (λ e. is_accept e.kind) c n es,
        answers_settle c n es,
        legal.once.settlings c n,
        any_count (λ e. is_accept e.kind && has_name c n e) es (all_had (λ m. is_accepted c m es ≡ true) n xs (answers_accepted c es legal.pairing) some),
      )
      | inr none ↦ omega (arith, none_count (λ x. x == n) xs none)
    ]) in
    omega (arith, few, length-map (answers_of c es) (λ (e : Entry). e.ordinal), length-map (accepts_of c es) (λ (e : Entry). e.ordinal))

-- and each collect to an answer
pub collects_within : (limits : Limits) (es : List Entry) (c : ℕ) → KeepsRules limits es → length (collects_of c es) ≤ length (accepts_of c es)
collects_within limits es c legal =
    let collected = (AtEachPrefix-whole IsFifo es legal.fifo).collected c in
    omega (
      arith,
      answers_within limits es c legal,
      StartsWith-length (map (λ (e : Entry). e.ordinal) (answers_of c es)) (map (λ (e : Entry). e.ordinal) (collects_of c es)) collected,
      length-map (answers_of c es) (λ (e : Entry). e.ordinal),
      length-map (collects_of c es) (λ (e : Entry). e.ordinal),
    )
