-- Lists of letters: one more, and one less.
use Rattle.std.proofs.Common.{cond, ◌≡◌, ◌≢◌, ℕ, ◌+◌, Bool, true, false, true≢false, ◌==◌, eqb, eq-eqb, ne_eqb, List, [], ◌∷◌, ◌++◌, length, sym, refl, ap, ◌∙◌, subst, append_assoc, arith}
use Rattle.std.proofs.lemmas.Bool.{eqb-true}
use Rattle.std.proofs.lemmas.List.{append-nil}
use Rattle.std.proofs.lemmas.List.Elements.{filter-append}
use Rattle.smx_box.specs.declared.letter.Letter.{Letter}
use Rattle.smx_box.specs.Letters.{is_item, both, of, is_open, Numbered, Delivers}

split_both : (b r : Bool) → both b r ≡ true → (b ≡ true) × (r ≡ true)
split_both true r e = (refl, e)
split_both false r e = absurd (true≢false (sym e))

never_false : (b : Bool) → (b ≡ false → ⊥) → b ≡ true
never_false true n = refl
never_false false n = absurd (n refl)

module _ {T : Type 0} where
  pub of-append : (p : ℕ) (xs ys : List (Letter T)) → of p (xs ++ ys) ≡ of p xs ++ of p ys
  of-append p xs ys = filter-append (λ m. m.sender == p) xs ys

  pub of_yes : (p : ℕ) (x : Letter T) → x.sender ≡ p → of p (x ∷ []) ≡ x ∷ []
  of_yes p x e = ap (λ b. cond b (x ∷ []) []) (eq-eqb x.sender p e)

  pub of_no : (p : ℕ) (x : Letter T) → x.sender ≢ p → of p (x ∷ []) ≡ []
  of_no p x n = ap (λ b. cond b (x ∷ []) []) (ne_eqb x.sender p n)

  no_rest : (xs ys : List (Letter T)) → xs ++ ys ≡ [] → xs ≡ []
  no_rest [] ys e = refl
  no_rest (x ∷ xs) ys e = absurd (cc e)

  not_nil : (xs : List (Letter T)) (x : Letter T) (ys : List (Letter T)) → xs ++ x ∷ ys ≡ [] → ⊥
  not_nil [] x ys e = cc
  not_nil (m ∷ xs) x ys e = cc

  pub Numbered_front : (n : ℕ) (xs ys : List (Letter T)) → Numbered n (xs ++ ys) → Numbered n xs
  Numbered_front n [] ys h = tt
  Numbered_front n (m ∷ xs) ys h = (h.0, (λ e. no_rest xs ys (h.1 e)), Numbered_front (n + 1) xs ys h.2)

  -- a letter among numbered ones bears its place, and no closing mark stands before it
  pub Numbered_at : (n : ℕ) (xs : List (Letter T)) (x : Letter T) (ys : List (Letter T)) → Numbered n (xs ++ x ∷ ys) → (x.number ≡ n + length xs + 1) × (is_open xs ≡ true)
  Numbered_at n [] x ys h = ((let e = h.0 in omega arith), refl)
  Numbered_at n (m ∷ xs) x ys h = let r = Numbered_at (n + 1) xs x ys h.2 in ((let e = r.0 in omega arith), ap (λ b. both b (is_open xs)) (never_false (is_item m.content) (λ e. not_nil xs x ys (h.1 e))) ∙ r.1)

  pub open_snoc : (xs : List (Letter T)) (x : Letter T) → is_open xs ≡ true → is_item x.content ≡ true → is_open (xs ++ x ∷ []) ≡ true
  open_snoc [] x o e = ap (λ b. both b true) e
  open_snoc (m ∷ xs) x o e = let s = split_both (is_item m.content) (is_open xs) o in ap (λ b. both b (is_open (xs ++ x ∷ []))) s.0 ∙ open_snoc xs x s.1 e

  pub shut_snoc : (xs : List (Letter T)) (x : Letter T) → is_open xs ≡ true → is_item x.content ≡ false → is_open (xs ++ x ∷ []) ≡ false
  shut_snoc [] x o e = ap (λ b. both b true) e
  shut_snoc (m ∷ xs) x o e = let s = split_both (is_item m.content) (is_open xs) o in ap (λ b. both b (is_open (xs ++ x ∷ []))) s.0 ∙ shut_snoc xs x s.1 e

  pub Numbered_snoc : (n : ℕ) (xs : List (Letter T)) (x : Letter T) → Numbered n xs → is_open xs ≡ true → x.number ≡ n + length xs + 1 → Numbered n (xs ++ x ∷ [])
  Numbered_snoc n [] x h o e = ((omega arith), (λ _. refl), tt)
  Numbered_snoc n (m ∷ xs) x h o e = let s = split_both (is_item m.content) (is_open xs) o in
      (h.0, (λ f. absurd (true≢false (sym s.0 ∙ f))), Numbered_snoc (n + 1) xs x h.2 s.1 (omega arith))

  numbered_more : (b : Bool) (l : List (Letter T)) (x : Letter T) → Numbered 0 l → (b ≡ true → Numbered 0 (l ++ x ∷ [])) → Numbered 0 (l ++ cond b (x ∷ []) [])
  numbered_more true l x h may = may refl
  numbered_more false l x h may = subst (Numbered 0) (sym (append-nil l)) h

  -- a sender's next letter joins
  pub delivers_more : (all got items : List (Letter T)) (x : Letter T) → Delivers (λ p. of p all) got items → x.number ≡ length (of x.sender all) + 1 → is_open (of x.sender all) ≡ true → Delivers (λ p. of p (all ++ x ∷ [])) got (items ++ x ∷ [])
  delivers_more all got items x d number opened p = (
    ap (of p) (sym (append_assoc got items (x ∷ []))) ∙ of-append p (got ++ items) (x ∷ []) ∙ ap (λ l. l ++ of p (x ∷ [])) (d p).0 ∙ sym (of-append p all (x ∷ [])),
    subst (Numbered 0) (sym (of-append p all (x ∷ [])))
        (numbered_more (eqb x.sender p) (of p all) x (d p).1
        (λ e. let same = eqb-true x.sender p e in Numbered_snoc 0 (of p all) x (d p).1 (ap (λ q. is_open (of q all)) (sym same) ∙ opened)
        (let l : length (of x.sender all) ≡ length (of p all) = ap (λ q. length (of q all)) same in omega arith))),
  )

  -- the oldest letter is got
  pub delivers_less : (put : ℕ → List (Letter T)) (got items : List (Letter T)) (x : Letter T) → Delivers put got (x ∷ items) → Delivers put (got ++ x ∷ []) items
  delivers_less put got items x d p = (ap (of p) (append_assoc got (x ∷ []) items) ∙ (d p).0, (d p).1)

  -- the letter that is got is its sender's next
  pub next_got : (put : ℕ → List (Letter T)) (got items : List (Letter T)) (x : Letter T) → Delivers put got (x ∷ items) → (x.number ≡ length (of x.sender got) + 1) × (is_open (of x.sender got) ≡ true)
  next_got put got items x d = let p = x.sender in
      let whole : of p (got ++ x ∷ items) ≡ of p got ++ x ∷ of p items = of-append p got (x ∷ items) ∙ ap (λ l. of p got ++ l) (of-append p (x ∷ []) items ∙ ap (λ l. l ++ of p items) (of_yes p x refl)) in
      let r = Numbered_at 0 (of p got) x (of p items) (subst (Numbered 0) (sym (d p).0 ∙ whole) (d p).1) in
      ((let e = r.0 in omega arith), r.1)

  -- what was got of a sender is numbered
  pub numbered_got : (put : ℕ → List (Letter T)) (got items : List (Letter T)) → Delivers put got items → (p : ℕ) → Numbered 0 (of p got)
  numbered_got put got items d p = Numbered_front 0 (of p got) (of p items) (subst (Numbered 0) (sym (d p).0 ∙ of-append p got items) (d p).1)
