-- Some number is free, and the number of a take was.
use Rattle.std.proofs.Common.{◌≡◌, ◌<◌, ◌≤◌, ◌+◌, ◌-◌, ◌*◌, ◌==◌, ◌&&◌, ℕ, Bool, true, false, cond, List, [], ◌∷◌, ◌++◌, length, map, refl, sym, ◌∙◌, ap, subst, arith, count_by, zero, suc, inl, inr, nat_eq}
use Rattle.std.specs.List.{list_any, IsDistinct, remove}
use Rattle.std.proofs.lemmas.Bool.{cases_Bool, cases_lt, and_from, eq-eqb, eqb-true, false_from_ne_true, or_parts, ne_eqb}
use Rattle.std.proofs.lemmas.Nat.{mod_below}
use Rattle.std.proofs.lemmas.List.{length-map, map-append}
use Rattle.std.proofs.lemmas.List.Edits.{length-remove}
use Rattle.smx_history.specs.declared.entry.Entry.{Entry}
use Rattle.smx_history.specs.declared.note.Note.{Note}
use Rattle.smx_history.specs.declared.note.Event.TheVariants.{Take}
use Rattle.smx_history.specs.Entries.{is_take, has_name, unanswered_takes, numbers}
use Rattle.smx_history.specs.Numbers.{place_in, generation_in, generation_after, ArePlaced, AreSpaced}
use Rattle.smx_history.specs.Legal.{AreApart, IsLegal, KeepsRules, IsPaired}
use Rattle.smx_history.specs.History.{entries_of, entry_by, note, marks_of}
use Rattle.smx_history.specs.Contents.{AgreesWith, Content, place_of, window_after}
use Rattle.smx_history.proofs.Counts.{any_count, none_count, count_none_any, count_by-remove}
use Rattle.smx_history.proofs.FitsTake.{numbers_push, own_name, unanswered_taken, untaken_unsettled}
use Rattle.smx_history.proofs.ListPushes.{AtEachPrefix-whole, AtEach-last, AtEach-push}
use Rattle.smx_history.proofs.Parts.{IsDistinct-end, count_numbered, count_one}
use Rattle.smx_history.proofs.Pending.{found_at}
use Rattle.smx_history.proofs.Reading.{entries_of-push}
use Rattle.smx_history.proofs.Spacing.{spaced_free, spaced_placed}
use Rattle.smx_history.proofs.TakeAgrees.{any-map}
use Rattle.smx_lane.proofs.Giving.{generation_of_number, place_of_number}
use Rattle.smx_lines.specs.Turns.{IsFreeNumber, MayBear}

-- of more numbers than a list has one isn't in it
first_free : (n : ℕ) (ks : List ℕ) → length ks < n → (u : ℕ) × (0 < u) × (u ≤ n) × (list_any (λ k. k == u) ks ≡ false)
first_free zero ks few = absurd (omega (arith, few))
first_free (suc n) ks few = elim (cases_Bool (list_any (λ k. k == suc n) ks)) [
  | inl here ↦
      let at = found_at (suc n) ks (any_count (λ k. k == suc n) ks here) in
      let rest = first_free n (remove ks at.0) (omega (arith, few, length-remove ks at.0 at.1)) in
      let other : cond (suc n == rest.0) 1 0 ≡ zero = ap {B = ℕ} (λ b. cond b 1 0) (ne_eqb (suc n) rest.0 (λ same. omega (arith, same, rest.2))) in
      (rest.0, rest.1, omega (arith, rest.2), count_none_any (λ k. k == rest.0) ks (omega (arith, other, none_count (λ k. k == rest.0) (remove ks at.0) rest.3, count_by-remove (λ k. k == rest.0) ks at.0 (suc n) at.1 at.2)))
  | inr free ↦ (suc n, omega arith, omega arith, free)
]

-- what is in no list of keys has the key of none
none_weaker : {X : Type 0} (p q : X → Bool) → ((x : X) → p x ≡ true → q x ≡ true) → (xs : List X) → list_any q xs ≡ false → list_any p xs ≡ false
none_weaker p q weaker [] none = refl
none_weaker p q weaker (x ∷ xs) none =
    let parts = or_parts (q x) (list_any q xs) none in
    let first : p x ≡ false = false_from_ne_true (p x) (λ is. absurd (let clash : true ≡ false = sym (weaker x is) ∙ parts.0 in cc)) in
    rw (first, none_weaker p q weaker xs parts.1) refl

-- the takes of the history bear the numbers of their places, each in turn
abbrev pub TakesArePlaced : List Note → Type 0
TakesArePlaced h = ArePlaced (numbers (entries_of h))

-- the next number of a place
abbrev next_of : List ℕ → ℕ → ℕ
next_of ns place = generation_after place ns * 1024 + place + 1

next_placed : (ns : List ℕ) (place : ℕ) → place < 1024 → generation_in (next_of ns place) ≡ generation_after (place_in (next_of ns place)) ns
next_placed ns place below =
    generation_of_number (generation_after place ns) place below ∙ sym (ap (λ k. generation_after k ns) (place_of_number (generation_after place ns) place below))

-- with one take more
pub placed_push : (ns : List ℕ) (u : ℕ) → ArePlaced ns → generation_in u ≡ generation_after (place_in u) ns → ArePlaced (ns ++ u ∷ [])
placed_push ns u before next = AtEach-push (λ earlier m. generation_in m ≡ generation_after (place_in m) earlier) ns u before next

-- the next number of a place that no unanswered take has
free_place : (es : List Entry) (k : ℕ) → ArePlaced (numbers es) → 0 < k → k ≤ 1024 → list_any (λ (t : Entry). (place_in t.number + 1) == k) (unanswered_takes es) ≡ false → MayBear es (next_of (numbers es) (k - 1))
free_place es k before above within none =
    let ns = numbers es in
    let place = k - 1 in
    let below : place < 1024 = omega (arith, above, within) in
    let u = next_of ns place in
    let named : place_in u ≡ place = place_of_number (generation_after place ns) place below in
    let round : generation_after place ns < 2097151 = mod_below (count_by (λ n. place_in n == place) ns) 2097151 (omega arith) in
    record {
      range = (omega arith, omega (arith, round, below));
      unused = none_weaker (λ (t : Entry). t.number == u) (λ (t : Entry). (place_in t.number + 1) == k) (λ t same. eq-eqb (place_in t.number + 1) k (omega (arith, above, named, ap place_in (eqb-true t.number u same)))) (unanswered_takes es) none;
      spaced = spaced_free ns u (spaced_placed (ns ++ u ∷ []) (placed_push ns u before (next_placed ns place below)));
    }

-- after each history whose takes are placed some number is free
pub some_free : (h : List Note) → TakesArePlaced h → (u : ℕ) × IsFreeNumber h u
some_free h before =
    let ns = numbers (entries_of h) in
    elim (cases_lt (length (window_after h)) 1024) [
      | inl room ↦
          let us = unanswered_takes (entries_of h) in
          let key : Entry → ℕ = λ t. place_in t.number + 1 in
          let few : length (map key us) < 1024 = omega (arith, room, length-map us key, length-map us (place_of h)) in
          let found = first_free 1024 (map key us) few in
          let none : list_any (λ t. key t == found.0) us ≡ false = sym (any-map (λ x. x == found.0) key us) ∙ found.3 in
          (next_of ns (found.0 - 1), record { placed = next_placed ns (found.0 - 1) (omega (arith, found.1, found.2)); free = λ _. free_place (entries_of h) found.0 before found.1 found.2 none })
      | inr full ↦ (next_of ns 0, record { placed = next_placed ns 0 (omega arith); free = λ room. absurd (omega (arith, room, full)) })
    ]

-- the number of a take that the history may have was free
pub taken_free : (h : List Note) (new : Content) (by c n u t : ℕ) → IsLegal new.limits (marks_of h) → AgreesWith (h ++ note by (Take c n u t) ∷ []) new → IsFreeNumber h u
taken_free h new by c n u t before a =
    let es = entries_of h in
    let us = unanswered_takes es in
    let e = entry_by by (Take c n u t) in
    let legal : KeepsRules new.limits (es ++ e ∷ []) = subst (λ xs. KeepsRules new.limits xs) (entries_of-push h (note by (Take c n u t)) e refl) a.legal.rules in
    let named : Entry → Bool = λ x. is_take x.kind && has_name c n x in
    let untaken = count_none_any named es (omega (arith, legal.once.takes c n, count_one named es e (and_from _ _ refl (own_name e)))) in
    let grown = unanswered_taken es e refl (untaken_unsettled es c n before.rules.pairing untaken) in
    let apart : IsDistinct nat_eq (map (λ x. x.number) us ++ u ∷ []) =
    subst (λ xs. IsDistinct nat_eq xs) (ap (map (λ (x : Entry). x.number)) grown ∙ map-append (λ x. x.number) us (e ∷ [])) (AtEachPrefix-whole AreApart (es ++ e ∷ []) legal.apart) in
    let numbered : numbers (entries_of (h ++ note by (Take c n u t) ∷ [])) ≡ numbers es ++ u ∷ [] = ap numbers (entries_of-push h (note by (Take c n u t)) e refl) ∙ numbers_push es e refl in
    record {
      placed = AtEach-last (λ earlier m. generation_in m ≡ generation_after (place_in m) earlier) (numbers es) u (subst (λ ns. ArePlaced ns) numbered a.numbered.placed);
      free = λ _. record {
        range = AtEach-last (λ earlier x. IsPaired x.kind earlier x) es e legal.pairing;
        unused = count_none_any (λ x. x.number == u) us (count_numbered u us (IsDistinct-end (map (λ x. x.number) us) u apart));
        spaced = spaced_free (numbers es) u (subst (λ ns. AreSpaced ns) (numbers_push es e refl) legal.spaced);
      };
    }
