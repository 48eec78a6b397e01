-- Histories of a box: who made which note, and one more note.
use Rattle.std.proofs.Common.{cond, ◌≡◌, ◌≢◌, ◌==◌, ℕ, ◌+◌, Bool, true, false, eqb, eq-eqb, ne_eqb, List, [], ◌∷◌, ◌++◌, length, sym, refl, ap, ◌∙◌, subst, append_assoc, arith, length-append}
use Rattle.std.proofs.lemmas.Bool.{eqb-true}
use Rattle.std.proofs.lemmas.List.{append-nil, nil_from_length}
use Rattle.std.proofs.lemmas.List.Elements.{filter-append}
use Rattle.smx_box.specs.declared.letter.Letter.{Letter}
use Rattle.smx_box.specs.declared.letter.Note.{Note}
use Rattle.smx_box.specs.declared.letter.Deed.{Deed}
use Rattle.smx_box.specs.declared.letter.Deed.TheVariants.{Putting, Getting}
use Rattle.smx_box.specs.Letters.{of, is_open, Delivers}
use Rattle.smx_box.specs.Boxes.{deed_note, pass_notes, letters_put, letters_got, puts, gets, IsOwnDeed, AreOwnDeeds, BoxHistory}
use Rattle.smx_box.proofs.LetterLists.{of-append, of_yes, delivers_more, delivers_less}

-- numbers that are one more are equal where the numbers are
eqb-more : (b : Bool) (m p : ℕ) → eqb m p ≡ b → eqb (m + 1) (p + 1) ≡ b
eqb-more true m p e = let same = eqb-true m p e in eq-eqb (m + 1) (p + 1) (omega arith)
eqb-more false m p e = ne_eqb (m + 1) (p + 1) (λ f. not_both m p e (omega arith))
  where
    not_both : (m p : ℕ) → eqb m p ≡ false → m ≡ p → ⊥
    not_both m p e f = let t = eq-eqb m p f in cc

module _ {T : Type 0} where
  pub puts-append : (h k : List (Note T)) → puts (h ++ k) ≡ puts h ++ puts k
  puts-append [] k = refl
  puts-append (n ∷ h) k = ap (λ l. letters_put n.deed ++ l) (puts-append h k) ∙ sym (append_assoc (letters_put n.deed) (puts h) (puts k))

  pub gets-append : (h k : List (Note T)) → gets (h ++ k) ≡ gets h ++ gets k
  gets-append [] k = refl
  gets-append (n ∷ h) k = ap (λ l. letters_got n.deed ++ l) (gets-append h k) ∙ sym (append_assoc (letters_got n.deed) (gets h) (gets k))

  own_snoc : (h : List (Note T)) (k : ℕ) (d : Deed T) → AreOwnDeeds h → IsOwnDeed k d → AreOwnDeeds (h ++ deed_note k d ∷ [])
  own_snoc [] k d own mine = (mine, tt)
  own_snoc (n ∷ h) k d own mine = (own.0, own_snoc h k d own.1 mine)

  -- the letters of one sender in a note are those that its seat put
  own_put : (k : ℕ) (d : Deed T) (rest : List (Note T)) (p : ℕ) → IsOwnDeed k d → puts (cond (eqb k (p + 1)) (deed_note k d ∷ rest) rest) ≡ of p (letters_put d) ++ puts rest
  own_put k (Putting m) rest p own = pick (eqb m.sender p) (eqb k (p + 1)) (ap (λ j. eqb j (p + 1)) own ∙ eqb-more (eqb m.sender p) m.sender p refl)
    where
      pick : (a b : Bool) → b ≡ a → puts (cond b (deed_note k (Putting m) ∷ rest) rest) ≡ cond a (m ∷ []) [] ++ puts rest
      pick true b e = ap (λ c. puts (cond c (deed_note k (Putting m) ∷ rest) rest)) e
      pick false b e = ap (λ c. puts (cond c (deed_note k (Putting m) ∷ rest) rest)) e
  own_put k (Getting m) rest p own = ap (λ c. puts (cond c (deed_note k (Getting m) ∷ rest) rest)) (ne_eqb k (p + 1) (λ e. omega arith))

  pub own_puts : (h : List (Note T)) (p : ℕ) → AreOwnDeeds h → of p (puts h) ≡ puts (pass_notes (p + 1) h)
  own_puts [] p own = refl
  own_puts (n ∷ h) p own = of-append p (letters_put n.deed) (puts h) ∙ ap (λ l. of p (letters_put n.deed) ++ l) (own_puts h p own.1) ∙ sym (own_put n.by n.deed (pass_notes (p + 1) h) p own.0)

  own_got : (k : ℕ) (d : Deed T) (rest : List (Note T)) → IsOwnDeed k d → gets (cond (eqb k 0) (deed_note k d ∷ rest) rest) ≡ letters_got d ++ gets rest
  own_got k (Putting m) rest own = ap (λ c. gets (cond c (deed_note k (Putting m) ∷ rest) rest)) (ne_eqb k 0 (λ e. omega arith))
  own_got k (Getting m) rest own = ap (λ c. gets (cond c (deed_note k (Getting m) ∷ rest) rest)) (eq-eqb k 0 own)

  pub own_gets : (h : List (Note T)) → AreOwnDeeds h → gets h ≡ gets (pass_notes 0 h)
  own_gets [] own = refl
  own_gets (n ∷ h) own = ap (λ l. letters_got n.deed ++ l) (own_gets h own.1) ∙ sym (own_got n.by n.deed (pass_notes 0 h) own.0)

  -- a sender's next letter is put
  pub history_put : (h : List (Note T)) (items : List (Letter T)) (k : ℕ) (x : Letter T) → BoxHistory h items → k ≡ x.sender + 1 → x.number ≡ length (puts (pass_notes k h)) + 1 → is_open (puts (pass_notes k h)) ≡ true
      → BoxHistory (h ++ deed_note k (Putting x) ∷ []) (items ++ x ∷ [])
  history_put h items k x b pass number opened = let mine : puts (pass_notes k h) ≡ of x.sender (puts h) = ap (λ j. puts (pass_notes j h)) pass ∙ sym (own_puts h x.sender b.own) in record {
    delivers = subst (λ (l : List (Letter T) × List (Letter T)). Delivers (λ p. of p l.0) l.1 (items ++ x ∷ []))
        (λ i. (sym (puts-append h (deed_note k (Putting x) ∷ [])) i, sym (gets-append h (deed_note k (Putting x) ∷ []) ∙ append-nil (gets h)) i))
        (delivers_more (puts h) (gets h) items x b.delivers (let l : length (puts (pass_notes k h)) ≡ length (of x.sender (puts h)) = ap length mine in omega arith) (ap is_open (sym mine) ∙ opened));
    own = own_snoc h k (Putting x) b.own pass;
  }

  -- the oldest letter is got
  pub history_got : (h : List (Note T)) (items : List (Letter T)) (k : ℕ) (x : Letter T) → BoxHistory h (x ∷ items) → k ≡ 0 → BoxHistory (h ++ deed_note k (Getting x) ∷ []) items
  history_got h items k x b pass = record {
    delivers = subst (λ (l : List (Letter T) × List (Letter T)). Delivers (λ p. of p l.0) l.1 items)
        (λ i. (sym (puts-append h (deed_note k (Getting x) ∷ []) ∙ append-nil (puts h)) i, sym (gets-append h (deed_note k (Getting x) ∷ [])) i))
        (delivers_less (λ p. of p (puts h)) (gets h) items x b.delivers);
    own = own_snoc h k (Getting x) b.own pass;
  }

  -- one note more, by one pass
  pub notes_more : (j : ℕ) (h : List (Note T)) (k : ℕ) (d : Deed T) → pass_notes j (h ++ deed_note k d ∷ []) ≡ pass_notes j h ++ cond (eqb k j) (deed_note k d ∷ []) []
  notes_more j h k d = filter-append (λ (n : Note T). n.by == j) h (deed_note k d ∷ [])

  pub notes_here : (h : List (Note T)) (k : ℕ) (d : Deed T) → pass_notes k (h ++ deed_note k d ∷ []) ≡ pass_notes k h ++ deed_note k d ∷ []
  notes_here h k d = notes_more k h k d ∙ ap (λ b. pass_notes k h ++ cond b (deed_note k d ∷ []) []) (eq-eqb k k refl)

  pub notes_else : (j : ℕ) (h : List (Note T)) (k : ℕ) (d : Deed T) → k ≢ j → pass_notes j (h ++ deed_note k d ∷ []) ≡ pass_notes j h
  notes_else j h k d other = notes_more j h k d ∙ ap (λ b. pass_notes j h ++ cond b (deed_note k d ∷ []) []) (ne_eqb k j other) ∙ append-nil (pass_notes j h)

  own_end : (h k : List (Note T)) → AreOwnDeeds (h ++ k) → AreOwnDeeds k
  own_end [] k own = own
  own_end (n ∷ h) k own = own_end h k own.1

  no_deed : (d : Deed T) (k : List (Note T)) → letters_got d ++ gets k ≡ [] → ((p : ℕ) → length (of p (letters_put d ++ puts k)) ≡ 0) → ⊥
  no_deed (Putting m) k none nothing = let more : length (of m.sender (m ∷ puts k)) ≡ 1 + length (of m.sender (puts k)) =
      ap length (of-append m.sender (m ∷ []) (puts k) ∙ ap (λ l. l ++ of m.sender (puts k)) (of_yes m.sender m refl)) ∙ length-append (m ∷ []) (of m.sender (puts k)) in
      let zero_of : length (of m.sender (m ∷ puts k)) ≡ 0 = nothing m.sender in omega arith
  no_deed (Getting m) k none nothing = cc none

  no_notes : (k : List (Note T)) → gets k ≡ [] → ((p : ℕ) → length (of p (puts k)) ≡ 0) → k ≡ []
  no_notes [] none nothing = refl
  no_notes (n ∷ k) none nothing = absurd (no_deed n.deed k none nothing)

  -- where a history leaves nothing, and its end has no note of the receiver, that end is empty: what was put in it would be left
  pub none_since : (h k : List (Note T)) (items : List (Letter T)) → BoxHistory h items → BoxHistory (h ++ k) [] → pass_notes 0 (h ++ k) ≡ pass_notes 0 h → k ≡ []
  none_since h k items b all same =
      let count : length (pass_notes 0 h) + length (pass_notes 0 k) ≡ length (pass_notes 0 h) = sym (length-append (pass_notes 0 h) (pass_notes 0 k)) ∙ ap length (sym (filter-append (λ (n : Note T). n.by == 0) h k) ∙ same) in
      let none : pass_notes 0 k ≡ [] = nil_from_length (pass_notes 0 k) (omega (arith, count)) in
      let got : gets k ≡ [] = own_gets k (own_end h k all.own) ∙ ap gets none in
      let gots : gets (h ++ k) ≡ gets h = gets-append h k ∙ ap (λ l. gets h ++ l) got ∙ append-nil (gets h) in no_notes k got (λ p.
      let now : of p (gets h) ≡ of p (puts h) ++ of p (puts k) = ap (of p) (sym gots ∙ sym (append-nil (gets (h ++ k)))) ∙ (all.delivers p).0 ∙ ap (of p) (puts-append h k) ∙ of-append p (puts h) (puts k) in
      let then : of p (gets h) ++ of p items ≡ of p (puts h) = sym (of-append p (gets h) items) ∙ (b.delivers p).0 in
      let a : length (of p (gets h)) ≡ length (of p (puts h)) + length (of p (puts k)) = ap length now ∙ length-append (of p (puts h)) (of p (puts k)) in
      let c : length (of p (gets h)) + length (of p items) ≡ length (of p (puts h)) = sym (length-append (of p (gets h)) (of p items)) ∙ ap length then in omega (arith, a, c))
