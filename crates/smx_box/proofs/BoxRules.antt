-- Each step of a pass keeps the rule of the box.
use Rattle.std.proofs.Common.{◌≡◌, ◌≢◌, ℕ, zero, suc, ◌+◌, ◌<◌, ◌≤◌, List, [], ◌∷◌, ◌++◌, length, set, sym, refl, ap, ◌∙◌, subst, ⊎_elim, inl, inr, append_assoc, arith, drop, true, true≢false, length-append}
use Rattle.std.proofs.lemmas.List.{append-nil, length-set}
use mathlib.Core.Option.{some, some-ne-none}
use lib.ListN.{get_elem?}
use Rattle.crossbeam_queue.specs.Fifo.{Pushes, Pops, Forks, Learns}
use Rattle.crossbeam_queue.proofs.Lists.{at_set, at_snoc}
use Rattle.smx_box.specs.declared.letter.Letter.{Letter}
use Rattle.smx_box.specs.declared.letter.Note.{Note}
use Rattle.smx_box.specs.declared.letter.Deed.{Deed}
use Rattle.smx_box.specs.declared.letter.Deed.TheVariants.{Putting, Getting}
use Rattle.smx_box.specs.declared.letter.Known.{Known}
use Rattle.smx_box.specs.Letters.{is_open}
use Rattle.smx_box.specs.Boxes.{deed_note, puts, BoxHistory, Stood, Posts, TakesLetter, FindsLetters}
use Rattle.smx_box.specs.Private.Rule.{FitsHistory, IsOpenWith, IsTelling, IsLeftBy, Tells, WasTold, FindsNone, FindsOne, KnowsPlaces, first_known, telling_known, told_known, receiver_known, sender_known}
use Rattle.smx_box.proofs.BoxHistories.{own_puts, history_put, history_got, notes_here, notes_else}

module _ {T : Type 0} where
  -- no place is past the end
  within : (l : List (Known T)) (i : ℕ) (a : Known T) → get_elem? l i ≡ some a → i < length l
  within [] i a e = absurd (some-ne-none a (sym e))
  within (x ∷ xs) zero a e = omega arith
  within (x ∷ xs) (suc i) a e = let r = within xs i a e in omega arith

  at_end : (l : List (Known T)) (a b : Known T) (j : ℕ) → ¬ (get_elem? l j ≡ some b) → get_elem? (l ++ a ∷ []) j ≡ some b → j ≡ length l
  at_end [] a b zero n e = refl
  at_end [] a b (suc j) n e = absurd (some-ne-none b (sym e))
  at_end (x ∷ xs) a b zero n e = absurd (n e)
  at_end (x ∷ xs) a b (suc j) n e = ap suc (at_end xs a b j n e)

  abbrev All : (ℕ → Known T → Type 0) → List (Known T) → Type 0
  All F views = (place : ℕ) (v : Known T) → get_elem? views place ≡ some v → F place v

  all_set : (F : ℕ → Known T → Type 0) (views : List (Known T)) (place : ℕ) (w : Known T) → F place w → ((j : ℕ) (u : Known T) → j ≢ place → get_elem? views j ≡ some u → F j u) → All F (set views place w)
  all_set F views place w mine others j u e = ⊎_elim (λ (x : (j ≡ place) × (w ≡ u)). subst (λ (y : ℕ × Known T). F y.0 y.1) (λ i. (sym x.0 i, x.1 i)) mine)
      (λ (x : (j ≢ place) × (get_elem? views j ≡ some u)). others j u x.0 x.1) (at_set views place j w u e)

  -- the only pass
  only : (a v : Known T) (place : ℕ) → get_elem? (a ∷ []) place ≡ some v → (place ≡ 0) × (a ≡ v)
  only a v zero e = let none : List (Known T) = [] in (refl, ⊎_elim (λ (x : get_elem? none 0 ≡ some v). absurd (some-ne-none v (sym x))) (λ (x : a ≡ v). x) (at_snoc none a v 0 e))
  only a v (suc j) e = absurd (some-ne-none v (sym e))

  pub begins : IsLeftBy {T = T} [] (first_known ∷ [])
  begins = inl (refl, refl)

  -- a queue that was told holds what a history left
  open_with : (items : List (Letter T)) (views : List (Known T)) (place : ℕ) (v : Known T) → IsLeftBy items views → get_elem? views place ≡ some v → v.told ≡ true → (places : ℕ) × IsOpenWith places items views
  open_with items views place v (inl k) at told = absurd (true≢false (sym told ∙ ap (λ (y : Known T). y.told) (sym (only first_known v place (subst (λ l. get_elem? l place ≡ some v) k.1 at)).1)))
  open_with items views place v (inr (inl k)) at told = absurd (true≢false (sym told ∙ ap (λ (y : Known T). y.told) (sym (only (telling_known k.0.number) v place (subst (λ l. get_elem? l place ≡ some v) k.2 at)).1)))
  open_with items views place v (inr (inr k)) at told = k

  -- before it is told the box is empty, and then it holds one letter
  pub finds_none : (place : ℕ) (v : Known T) → v ≡ first_known → Learns IsLeftBy place v (FindsNone v)
  finds_none place v first items views (inl k) at = k.0
  finds_none place v first items views (inr (inl k)) at = let is : telling_known k.0.number ≡ v = (only (telling_known k.0.number) v place (subst (λ l. get_elem? l place ≡ some v) k.2 at)).1 in
      let none : k.0.number ≡ 0 = ap (λ (y : Known T). y.places) (is ∙ first) in let some_places = k.3 in absurd (omega arith)
  finds_none place v first items views (inr (inr k)) at = absurd (true≢false (sym (k.1.3 place v at).told.0 ∙ ap (λ (y : Known T). y.told) first))

  pub finds_one : (n place : ℕ) (v : Known T) → 0 < n → v ≡ telling_known n → Learns IsLeftBy place v (FindsOne v)
  finds_one n place v some_places telling items views (inl k) at = let is : first_known ≡ v = (only first_known v place (subst (λ l. get_elem? l place ≡ some v) k.1 at)).1 in
      let none : 0 ≡ n = ap (λ (y : Known T). y.places) (is ∙ telling) in absurd (omega arith)
  finds_one n place v some_places telling items views (inr (inl k)) at = ap length k.1
  finds_one n place v some_places telling items views (inr (inr k)) at = absurd (true≢false (sym (k.1.3 place v at).told.0 ∙ ap (λ (y : Known T). y.told) telling))

  -- the letter that tells joins
  pub tells : (n place : ℕ) (v : Known T) (x : Letter T) → v ≡ first_known → 0 < x.number → Pushes IsLeftBy n place v x (Tells v x)
  tells n place v x first some_places items views room k at = (telling_known x.number, inr (inl (joined k)), refl)
    where
      joined : IsLeftBy items views → IsTelling (items ++ x ∷ []) (set views place (telling_known x.number))
      joined (inl l) = (
        x,
        ap (λ (z : List (Letter T)). z ++ x ∷ []) l.0,
        ap (λ (z : List (Known T)). set z place (telling_known x.number)) l.1 ∙ ap (λ j. set (first_known ∷ []) j (telling_known x.number)) (only first_known v place (subst (λ z. get_elem? z place ≡ some v) l.1 at)).0,
        some_places,
      )
      joined (inr (inl l)) = let is : telling_known l.0.number ≡ v = (only (telling_known l.0.number) v place (subst (λ z. get_elem? z place ≡ some v) l.2 at)).1 in
          let none : l.0.number ≡ 0 = ap (λ (y : Known T). y.places) (is ∙ first) in let has = l.3 in absurd (omega arith)
      joined (inr (inr l)) = absurd (true≢false (sym (l.1.3 place v at).told.0 ∙ ap (λ (y : Known T). y.told) first))

  -- the box of a pass that was told, and of no sender
  opens : (places : ℕ) → IsOpenWith {T = T} places [] (told_known places ∷ [])
  opens places = (
    [],
    record { delivers = (λ p. (refl, tt)); own = tt },
    (λ k le. refl),
    all_set (FitsHistory [] places 1) (told_known places ∷ []) 0 (told_known places) record { told = (refl, refl); number = refl; saw = ([], refl); own = refl; counts = λ _. refl }
        (λ j u other e. absurd (other (at_end [] _ u j (λ x. some-ne-none u (sym x)) e))),
    omega arith,
  )

  -- it is taken
  pub was_told : (n place : ℕ) (v : Known T) → 0 < n → v ≡ telling_known n → Pops IsLeftBy place v (WasTold v)
  was_told n place v some_places telling x items views k at = (record v { told = true }, inr (inr (left k)), refl)
    where
      left : IsLeftBy (x ∷ items) views → (places : ℕ) × IsOpenWith places items (set views place (record v { told = true }))
      left (inl l) = absurd (cc (l.0))
      left (inr (inl l)) = let here = only (telling_known l.0.number) v place (subst (λ z. get_elem? z place ≡ some v) l.2 at) in
          let alone : set views place (record v { told = true }) ≡ told_known n ∷ [] = ap (λ (z : List (Known T)). set z place (record v { told = true })) l.2
          ∙ ap (λ j. set (telling_known l.0.number ∷ []) j (record v { told = true })) here.0 ∙ ap (λ (y : Known T). record y { told = true } ∷ []) telling in
          let none : items ≡ [] = ap (λ (z : List (Letter T)). drop 1 z) l.1 in
          (n, subst (λ (z : List (Letter T) × List (Known T)). IsOpenWith n z.0 z.1) (λ i. (sym none i, sym alone i)) (opens n))
      left (inr (inr l)) = absurd (true≢false (sym (l.1.3 place v at).told.0 ∙ ap (λ (y : Known T). y.told) telling))

  -- what a pass finds
  stood : (places : ℕ) (items : List (Letter T)) (views : List (Known T)) (place : ℕ) (v : Known T) (k : IsOpenWith places items views) → get_elem? views place ≡ some v → Stood v k.0 items
  stood places items views place v k at = let mine = k.3 place v at in record {
    begins = mine.saw;
    own = mine.own;
    history = k.1;
    room = (let n = mine.told.1 in let r = k.4 in omega arith);
    no_others = λ first p le. own_puts k.0 p k.1.own ∙ ap puts (k.2 (p + 1) (let c = mine.counts first in omega arith));
  }

  pub learns : (place : ℕ) (v : Known T) → v.told ≡ true → Learns IsLeftBy place v (FindsLetters v)
  learns place v told items views k at = let o = open_with items views place v k at told in (o.1.0, stood o.0 items views place v o.1 at)

  -- the view of a pass after its note
  abbrev after : Known T → List (Note T) → Deed T → Known T
  after v h d = record v { seen = h ++ deed_note v.number d ∷ []; mine = v.mine ++ deed_note v.number d ∷ [] }

  -- one pass more has a note
  one_more : (places : ℕ) (items new : List (Letter T)) (views : List (Known T)) (place : ℕ) (v : Known T) (d : Deed T) (k : IsOpenWith places items views) → get_elem? views place ≡ some v → BoxHistory (k.0 ++ deed_note v.number d ∷ []) new
      → length new ≤ places → IsOpenWith places new (set views place (after v k.0 d))
  one_more places items new views place v d k at history room =
      let h = k.0 in
      let mine = k.3 place v at in
      let w = after v h d in
      let long : length (set views place w) ≡ length views = length-set views place w in
      let here : place < length views = within views place v at in (
        h ++ deed_note v.number d ∷ [],
        history,
        (λ j le. notes_else j h v.number d (λ e. let n = mine.number in absurd (omega arith)) ∙ k.2 j (omega arith)),
        subst (λ n. All (FitsHistory (h ++ deed_note v.number d ∷ []) places n) (set views place w)) (sym long)
            (all_set (FitsHistory (h ++ deed_note v.number d ∷ []) places (length views)) views place w
            record { told = mine.told; number = mine.number; saw = ([], append-nil _); own = notes_here h v.number d ∙ ap (λ l. l ++ deed_note v.number d ∷ []) mine.own; counts = mine.counts }
            (λ j u other e. let his = k.3 j u e in record {
              told = his.told;
              number = his.number;
              saw = (his.saw.0 ++ deed_note v.number d ∷ [], sym (append_assoc u.seen his.saw.0 (deed_note v.number d ∷ [])) ∙ ap (λ l. l ++ deed_note v.number d ∷ []) his.saw.1);
              own = notes_else u.number h v.number d (λ e. other (sym his.number ∙ sym e ∙ mine.number)) ∙ his.own;
              counts = his.counts;
            })),
        room,
      )

  -- a sender's letter joins
  pub joins : (n place : ℕ) (v : Known T) (x : Letter T) → KnowsPlaces n v → v.number ≡ x.sender + 1 → x.number ≡ length (puts v.mine) + 1 → is_open (puts v.mine) ≡ true → Pushes IsLeftBy n place v x (Posts v x)
  joins n place v x knows pass number opened items views room left at =
      let o = open_with items views place v left at knows.0 in
      let places = o.0 in
      let k = o.1 in
      let h = k.0 in
      let fits = k.3 place v at in
      let history = history_put h items v.number x k.1 pass (number ∙ ap (λ l. length (puts l) + 1) (sym fits.own)) (ap (λ l. is_open (puts l)) fits.own ∙ opened) in
      let more : length (items ++ x ∷ []) ≡ length items + 1 = length-append items (x ∷ []) in
      let here = knows.1 in
      let there = fits.told.1 in
      let fills : length (items ++ x ∷ []) ≤ places = omega arith in
      let knows_it : length (items ++ x ∷ []) ≤ v.places = omega arith in (
        after v h (Putting x),
        inr (inr (places, one_more places items (items ++ x ∷ []) views place v (Putting x) k at history fills)),
        (h, items, record { finds = stood places items views place v k at; number = refl; senders = refl; places = (refl, refl); seen = refl; mine = refl; leaves = history; room_left = knows_it }),
      )

  -- the receiver takes the oldest
  pub leaves : (place : ℕ) (v : Known T) → v.told ≡ true → v.number ≡ 0 → Pops IsLeftBy place v (TakesLetter v)
  leaves place v told first x items views left at =
      let o = open_with (x ∷ items) views place v left at told in
      let places = o.0 in
      let k = o.1 in
      let h = k.0 in
      let history = history_got h items v.number x k.1 first in
      let room = k.4 in
      let there = (k.3 place v at).told.1 in
      let fewer : length items ≤ places = omega arith in
      let knows_it : length items ≤ v.places = omega arith in (
        after v h (Getting x),
        inr (inr (places, one_more places (x ∷ items) items views place v (Getting x) k at history fewer)),
        (h, items, record { finds = stood places (x ∷ items) views place v k at; number = refl; senders = refl; places = (refl, refl); seen = refl; mine = refl; leaves = history; room_left = knows_it }),
      )

  -- the receiver's pass makes a sender's
  pub forks : (place : ℕ) (v : Known T) → v.told ≡ true → v.number ≡ 0 → Forks IsLeftBy place v (receiver_known v) (sender_known v)
  forks place v told first items views left at =
      let o = open_with items views place v left at told in
      let places = o.0 in
      let k = o.1 in
      let h = k.0 in
      let mine = k.3 place v at in
      let count = mine.counts first in
      let vs : List (Known T) = set views place (receiver_known v) in
      let long : length vs ≡ length views = length-set views place (receiver_known v) in
      let longer : length (vs ++ sender_known v ∷ []) ≡ length views + 1 = length-append vs (sender_known v ∷ []) ∙ ap (λ n. n + 1) long in
      let here : All (FitsHistory h places (length views + 1)) vs = all_set (FitsHistory h places (length views + 1)) views place (receiver_known v)
      record { told = mine.told; number = mine.number; saw = mine.saw; own = mine.own; counts = λ _. ap (λ n. n + 1) count }
      (λ j u other e. let his = k.3 j u e in
      record { told = his.told; number = his.number; saw = his.saw; own = his.own; counts = λ z. absurd (other (sym his.number ∙ z ∙ sym first ∙ mine.number)) }) in inr (inr (
        places,
        (
          h,
          k.1,
          (λ j le. k.2 j (omega arith)),
          subst (λ n. All (FitsHistory h places n) (vs ++ sender_known v ∷ [])) (sym longer)
              (λ j u e. ⊎_elim (λ x. here j u x)
              (λ (is : sender_known v ≡ u).
              let new : u.number ≡ length views = ap (λ (y : Known T). y.number) (sym is) ∙ count in
              let his : get_elem? vs j ≡ some u → ⊥ = λ x. (let o = (here j u x).number in let b = within vs j u x in omega (arith, new, o, b, long)) in
              let last : j ≡ length vs = at_end vs (sender_known v) u j his e in
              subst (λ (y : Known T). FitsHistory h places (length views + 1) j y) is record {
                told = mine.told;
                number = omega (arith, count, last, long);
                saw = mine.saw;
                own = k.2 (v.senders + 1) (omega (arith, count));
                counts = λ z. absurd (omega (arith, z));
              })
              (at_snoc vs (sender_known v) u j e)),
          k.4,
        ),
      ))
