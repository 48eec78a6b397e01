-- Which slot is found among rows, and what an edit of the rows does to it.
use Rattle.std.proofs.Common.{◌≡◌, ℕ, zero, suc, ◌<◌, ◌≤◌, ◌+◌, ◌-◌, eqb, ◌≢◌, [], ◌∷◌, length, get_or, Some, None, Result, Ok, Err, IfOk, IfErr, refl, sym, ap, subst, ◌∙◌, inl, inr, arith}
use Rattle.std.specs.List.{insert, remove}
use Rattle.std.specs.List.Sorted.{IsSearchInRange, IsBinarySearchResult, IsNonDecreasingBy}
use Rattle.std.specs.Ordering.{nat_cmp, ordering_index}
use Rattle.std.proofs.lemmas.Bool.{cases_Bool, eqb-true, eq-eqb, false≢true, cases_lt}
use Rattle.std.proofs.lemmas.Bool.Decides.{nat_tests}
use Rattle.std.proofs.lemmas.Cmp.{ranked}
use Rattle.std.proofs.lemmas.List.Sorted.{IsNonDecreasingBy-from_default}
use Rattle.std.proofs.lemmas.List.Edits.{length-insert, length-remove, get_or-remove_below, get_or-remove_above, get_or-insert_below, get_or-insert_at, get_or-insert_above}
use Rattle.smx_slots.specs.Rolls.{Rows, slot_of, SetsSlot}
use Rattle.smx_slots.specs.Private.Sorted.{client_at, IsRising, IsAt, IsGap}

-- no row before this place is the client's
abbrev IsNoneBefore : Rows → ℕ → ℕ → Type 0
IsNoneBefore rows c i = (j : ℕ) → j < i → client_at rows j ≢ c

none_before_tail : (x : ℕ × ℕ) (rows : Rows) (c i : ℕ) → IsNoneBefore (x ∷ rows) c (suc i) → IsNoneBefore rows c i
none_before_tail x rows c i none j lt = none (suc j) (omega arith)

at_tail : (x : ℕ × ℕ) (rows : Rows) (c i : ℕ) → IsAt (x ∷ rows) c (suc i) → IsAt rows c i
at_tail x rows c i at = record { within = omega (arith, at.within); is = at.is }

absent : (rows : Rows) (c : ℕ) → IsNoneBefore rows c (length rows) → slot_of rows c ≡ None
absent [] c none = refl
absent (x ∷ rows) c none = grind (arith, nat_tests, none 0 (omega arith), absent rows c (none_before_tail x rows c _ none))

present : (rows : Rows) (c i : ℕ) → IsAt rows c i → IsNoneBefore rows c i → slot_of rows c ≡ Some (get_or rows i (0, 0)).1
present [] c i at none = absurd (omega (arith, at.within))
present (x ∷ rows) c zero at none = grind (arith, nat_tests, at.is)
present (x ∷ rows) c (suc i) at none = grind (arith, nat_tests, none 0 (omega arith), present rows c i (at_tail x rows c i at) (none_before_tail x rows c i none))

inserted : (rows : Rows) (c slot i : ℕ) → IsNoneBefore rows c i → SetsSlot (Some slot) rows c (insert rows i (c, slot))
inserted rows c slot zero none q = refl
inserted [] c slot (suc i) none q = refl
inserted (x ∷ rows) c slot (suc i) none q = grind (arith, nat_tests, none 0 (omega arith), inserted rows c slot i (none_before_tail x rows c i none) q)

-- another client's slot after a row was taken out
others_left : (rows : Rows) (c i q : ℕ) → IsAt rows c i → (c ≡ q → ⊥) → slot_of (remove rows i) q ≡ slot_of rows q
others_left [] c i q at differ = absurd (omega (arith, at.within))
others_left (x ∷ rows) c zero q at differ = grind (arith, nat_tests, at.is)
others_left (x ∷ rows) c (suc i) q at differ = grind (arith, nat_tests, others_left rows c i q (at_tail x rows c i at) differ)

module _ (rows : Rows) (rising : IsRising rows) (c : ℕ) where
  rise : IsNonDecreasingBy (λ row. ordering_index (nat_cmp row.0 c)) rows
  rise = IsNonDecreasingBy-from_default (λ row. ordering_index (nat_cmp row.0 c)) rows (0, 0) (λ i j le within.
      let clients_rise : client_at rows i ≤ client_at rows j = grind (arith, rising i j, λ (same : i ≡ j). ap (client_at rows) same) in
      grind (arith, nat_tests))

  -- a binary search ends at the client, or where it would go
  pub searched : (r : Result ℕ ℕ) → IsSearchInRange r (length rows) → IsBinarySearchResult (λ row. nat_cmp row.0 c) rows r → record { found : IfOk r (IsAt rows c); absent : IfErr r (IsGap rows c) }
  searched (Ok at) within equal = record { found = record { within = within; is = ranked _ c _ (sym (equal (0, 0))) }; absent = tt }
  searched (Err at) within parted = record {
    found = tt;
    absent = record {
      within = within;
      smaller = λ j lt. ranked _ c _ (sym ((parted rise).0 j (0, 0) (omega arith) lt));
      greater = λ j le lt. ranked _ c _ (sym ((parted rise).1 j (0, 0) le lt));
    };
  }

module _ (rows : Rows) (rising : IsRising rows) (c at : ℕ) (is_at : IsAt rows c at) where
  none_before : IsNoneBefore rows c at
  none_before j lt same = omega (arith, rising j at lt is_at.within, is_at.is)

  pub slot_at : slot_of rows c ≡ Some (get_or rows at (0, 0)).1
  slot_at = present rows c at is_at none_before

module _ (rows : Rows) (c at : ℕ) (gap : IsGap rows c at) where
  pub no_slot : slot_of rows c ≡ None
  no_slot = absent rows c (λ j lt same. grind (arith, gap.smaller j, gap.greater j))

  pub slot_inserted : (slot : ℕ) → SetsSlot (Some slot) rows c (insert rows at (c, slot))
  slot_inserted slot = inserted rows c slot at (λ j lt same. omega (arith, gap.smaller j lt))

  pub rising_inserted : (slot : ℕ) → IsRising rows → IsRising (insert rows at (c, slot))
  rising_inserted slot rising i j lt within =
      let new = insert rows at (c, slot) in
      let client = λ (x : ℕ × ℕ). x.0 in
      let length_new = length-insert rows at (c, slot) gap.within in
      let below : (i : ℕ) → i < at → client_at new i ≡ client_at rows i = λ i is. ap client (get_or-insert_below rows at (c, slot) (0, 0) i is gap.within) in
      let here : (i : ℕ) → i ≡ at → client_at new i ≡ c = λ i is. rw is (ap client (get_or-insert_at rows at (c, slot) (0, 0) gap.within)) in
      let above : (i : ℕ) → at < i → client_at new i ≡ client_at rows (i - 1) = λ i is. subst (λ q. client_at new q ≡ client_at rows (i - 1)) {x = i - 1 + 1} (omega arith) (ap client (get_or-insert_above rows at (c, slot) (0, 0) (i - 1) (omega arith) gap.within)) in
      grind (arith, below i, here i, above i, below j, here j, above j, rising i j, rising i (j - 1), rising (i - 1) (j - 1), gap.smaller i, gap.greater (j - 1))

module _ (rows : Rows) (rising : IsRising rows) (c at : ℕ) (is_at : IsAt rows c at) where
  below_left : (i : ℕ) → i < at → client_at (remove rows at) i ≡ client_at rows i
  below_left i is = ap (λ (x : ℕ × ℕ). x.0) (get_or-remove_below rows at (0, 0) i is is_at.within)

  above_left : (i : ℕ) → at ≤ i → client_at (remove rows at) i ≡ client_at rows (i + 1)
  above_left i is = ap (λ (x : ℕ × ℕ). x.0) (get_or-remove_above rows at (0, 0) i is is_at.within)

  none_left : (i : ℕ) → i < length (remove rows at) → client_at (remove rows at) i ≢ c
  none_left i within same =
      let long = length-remove rows at is_at.within in
      elim (cases_lt i at) [
        | inl lower ↦ omega (arith, below_left i lower, rising i at lower is_at.within, is_at.is)
        | inr higher ↦ omega (arith, above_left i higher, rising at (i + 1) (omega arith) (omega arith), is_at.is)
      ]

  pub slot_removed : SetsSlot None rows c (remove rows at)
  slot_removed q = elim (cases_Bool (eqb c q)) [
    | inl here ↦ rw here (ap (slot_of (remove rows at)) (sym (eqb-true c q here)) ∙ absent (remove rows at) c none_left)
    | inr other ↦ rw other (others_left rows c at q is_at (λ same. false≢true (sym other ∙ eq-eqb c q same)))
  ]

  pub rising_removed : IsRising (remove rows at)
  rising_removed i j lt within =
      let long = length-remove rows at is_at.within in
      grind (arith, below_left i, above_left i, below_left j, above_left j, rising i j, rising i (j + 1), rising (i + 1) (j + 1))

-- a client that has no slot has none
pub none_kept : (rows : Rows) (c at : ℕ) → IsGap rows c at → SetsSlot None rows c rows
none_kept rows c at gap q = elim (cases_Bool (eqb c q)) [
  | inl here ↦ rw here (ap (slot_of rows) (sym (eqb-true c q here)) ∙ no_slot rows c at gap)
  | inr other ↦ rw other refl
]
