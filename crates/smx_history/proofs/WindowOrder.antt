-- The place that a response answers is found in any order of the window.
use Rattle.std.proofs.Common.{◌≡◌, ◌≤◌, ◌==◌, ◌&&◌, ℕ, Bool, true, false, cond, List, [], ◌∷◌, length, map, filter, refl, sym, ◌∙◌, ap, subst, arith, count_by, Some, slice_get, nat_eq}
use Rattle.std.specs.List.{find, AllByRecursion, IsDistinct}
use Rattle.std.proofs.lemmas.Bool.{eqb-true, eq-eqb}
use Rattle.std.proofs.lemmas.List.Sums.{sum_by-cons, length-filter}
use Rattle.smx_pdu.specs.declared.pdu.Pdu.{Pdu}
use Rattle.smx_pdu.specs.Command.{is_response_to}
use Rattle.smx_history.specs.declared.entry.Entry.{Entry}
use Rattle.smx_history.specs.declared.note.Note.{Note}
use Rattle.smx_history.specs.declared.place.Place.{Place}
use Rattle.smx_history.specs.Prefixes.{SameCounts}
use Rattle.smx_history.specs.Entries.{unanswered_takes}
use Rattle.smx_history.specs.Legal.{AreApart}
use Rattle.smx_history.specs.History.{entries_of}
use Rattle.smx_history.specs.Contents.{AgreesWith, Content, place_of, window_after}
use Rattle.smx_history.specs.Replies.{answers_place}
use Rattle.smx_history.proofs.Counts.{All-same, count_by-map, count_by-filter, count_split, eqb_sym, length-same}
use Rattle.smx_history.proofs.ListPushes.{AtEachPrefix-whole}
use Rattle.smx_history.proofs.Parts.{count_numbered}

-- what is found is what stands first among what passes
find_first : {X : Type 0} (test : X → Bool) (xs : List X) → find test xs ≡ slice_get (filter test xs) 0
find_first test [] = refl
find_first test (x ∷ xs) = at (test x) (find_first test xs)
  where
    at : (b : Bool) → find test xs ≡ slice_get (filter test xs) 0 → cond b (Some x) (find test xs) ≡ slice_get (cond b (x ∷ filter test xs) (filter test xs)) 0
    at true later = refl
    at false later = later

-- of the same places, one at most, the first is the same
first_same : (xs ys : List Place) → SameCounts xs ys → length xs ≤ 1 → slice_get ys 0 ≡ slice_get xs 0
first_same [] [] same few = refl
first_same [] (y ∷ ys) same few = absurd (omega (arith, length-same [] (y ∷ ys) same))
first_same (x ∷ xs) [] same few = absurd (omega (arith, length-same (x ∷ xs) [] same))
first_same (x ∷ x2 ∷ xs) (y ∷ ys) same few = absurd (omega (arith, few))
first_same (x ∷ []) (y ∷ y2 ∷ ys) same few = absurd (omega (arith, length-same (x ∷ []) (y ∷ y2 ∷ ys) same))
first_same (x ∷ []) (y ∷ []) same few =
    λ i. Some (record { upstream = equal (λ q. q.upstream) i; client = equal (λ q. q.client) i; ordinal = equal (λ q. q.ordinal) i; own = equal (λ q. q.own) i; command = equal (λ q. q.command) i; moment = equal (λ q. q.moment) i })
  where
    equal : (field : Place → ℕ) → field y ≡ field x
    equal field = eqb-true (field y) (field x) (All-same (λ q. field q == field x) (x ∷ []) (y ∷ []) same (rw (eq-eqb (field x) (field x) refl) refl) 0 y (omega arith) refl)

-- numbers that are pairwise different, counted
few_numbers : (n : ℕ) (us : List Entry) → IsDistinct nat_eq (map (λ e. e.number) us) → count_by (λ e. e.number == n) us ≤ 1
unfolding IsDistinct
few_numbers n [] h = omega arith
few_numbers n (e ∷ us) h = at (e.number == n) refl (few_numbers n us h.1)
  where
    turned : (xs : List ℕ) → AllByRecursion (λ y. nat_eq e.number y ≡ false) xs → AllByRecursion (λ y. nat_eq y e.number ≡ false) xs
    turned [] apart = tt
    turned (x ∷ xs) apart = (eqb_sym x e.number ∙ apart.0, turned xs apart.1)

    at : (b : Bool) → (e.number == n) ≡ b → count_by (λ x. x.number == n) us ≤ 1 → count_by (λ x. x.number == n) (e ∷ us) ≤ 1
    at true eq later =
        subst (λ m. count_by (λ x. x.number == m) (e ∷ us) ≤ 1) (eqb-true e.number n eq)
        (omega (arith, sum_by-cons (λ (y : Entry). cond (y.number == e.number) 1 0) e us, ap {B = ℕ} (λ b. cond b 1 0) (eq-eqb e.number e.number refl), count_numbered e.number us (turned (map (λ x. x.number) us) h.0)))
    at false eq later = omega (arith, sum_by-cons (λ (y : Entry). cond (y.number == n) 1 0) e us, ap {B = ℕ} (λ b. cond b 1 0) eq, later)

few_places : (h : List Note) (v : Content) (n : ℕ) → AgreesWith h v → count_by (λ (q : Place). q.upstream == n) (window_after h) ≤ 1
few_places h v n a =
    omega (arith, count_by-map (λ (q : Place). q.upstream == n) (place_of h) (unanswered_takes (entries_of h)), few_numbers n (unanswered_takes (entries_of h)) (AtEachPrefix-whole AreApart (entries_of h) a.legal.rules.apart))

pub place_same : (h : List Note) (v : Content) (p : Pdu) → AgreesWith h v → find (answers_place p) (window_after h) ≡ find (answers_place p) v.window
place_same h v p a =
    let test = answers_place p in
    let few : length (filter test (window_after h)) ≤ 1 =
    omega (arith, length-filter test (window_after h), count_split (λ (q : Place). q.upstream == p.number) (λ q. is_response_to q.command p.command) (window_after h), few_places h v p.number a) in
    let same : SameCounts (filter test (window_after h)) (filter test v.window) =
    λ other. count_by-filter other test v.window ∙ a.after.window (λ q. other q && test q) ∙ sym (count_by-filter other test (window_after h)) in
    find_first test (window_after h) ∙ sym (first_same (filter test (window_after h)) (filter test v.window) same few) ∙ sym (find_first test v.window)
