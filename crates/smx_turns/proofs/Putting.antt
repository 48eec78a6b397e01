-- One put and one get, as their own clauses say it and as the lists do.
use Rattle.std.proofs.Common.{◌≡◌, ◌<◌, ℕ, arith, Bool, List, [], ◌∷◌, ◌++◌, length, refl, sym, ap, ◌∙◌, subst, Some, Result, Ok, Err, IfOk, IfErr, IsOk, true≢false, slice_get, set, inl, inr}
use Rattle.std.proofs.lemmas.List.{append-nil, get_or-set_same, get_or-set_other, length-set}
use Rattle.std.proofs.lemmas.Bool.{cases_eq, cases_lt, eq-eqb, ne_eqb}
use Rattle.std.proofs.lemmas.Option.{slice_get-get_or, slice_get_within, slice_get_past}
use Rattle.std.specs.Prelude.{if◌then◌else◌}
use Rattle.smx_box.specs.declared.sender.PutFault.{PutFault}
use Rattle.smx_box.specs.declared.sender.PutFault.TheVariants.{Full, Spent}
use Rattle.smx_box.specs.declared.fault.Spent.{Spent as BoxSpent}
use Rattle.smx_box.specs.declared.receiver.Got.{Got}
use Rattle.smx_box.specs.declared.letter.Letter.{Letter}
use Rattle.smx_box.specs.Letters.{letter}
use Rattle.smx_box.specs.Boxes.{most_items, Sending, PutServes, FullPutServes, LookServes, Receiving, GetServes, Hands}
use Rattle.smx_turns.specs.Puts.{AtIndex, PutAnswers, contents, contents_in, put_on, LooksAt, Gets}

got_same : {X : Type 0} (xs : List X) (i : ℕ) (y : X) → i < length xs → slice_get (set xs i y) i ≡ Some y
got_same xs i y h = slice_get-get_or (set xs i y) i y (omega (arith, length-set xs i y)) ∙ ap Some (get_or-set_same xs i y y h)

module _ {T : Type 0} where
  -- a look behind a put
  pub looked_behind : (i : ℕ) (xs ys : List (Sending T)) (full : Bool) (P : Sending T → Sending T → Type 0) → AtIndex i xs ys P → LooksAt i ys full → AtIndex i xs ys (λ x y. P x y × LookServes y full)
  looked_behind i xs ys full P (x, y, at, now, p) (z, there, looks) =
      let same : Some y ≡ Some z = sym (ap (λ l. slice_get l i) now ∙ got_same xs i y (slice_get_within xs i x at)) ∙ there in
      let is : y ≡ z = cc in
      (x, y, at, now, (p, subst (λ s. LookServes s full) (sym is) looks))

  -- what the contract of a put says
  pub answers : (x y : Sending T) (item : T) (r : Result ℕ (T × PutFault)) → IfOk r (λ n. n ≡ length y.put) → IfOk r (λ n. y.put ≡ x.put ++ letter x.sender n (Some item) ∷ [])
      → IfErr r (λ e. (e.0 ≡ item) × (y.put ≡ x.put)) → IfOk r (λ n. PutServes x y.front (letter x.sender n (Some item)))
      → IfErr r (λ e. e.1 ≡ Full → FullPutServes x y.front) → IfErr r (λ e. e.1 ≡ Spent → (y.front ≡ x.front) × (length x.put ≡ most_items)) → PutAnswers item r x y
  answers x y item (Ok n) number ok err served full spent = record { number = number; put = ok; served = served }
  answers x y item (Err (back, Full)) number ok err served full spent = (err.0, record { put = err.1; served = full refl })
  answers x y item (Err (back, Spent)) number ok err served full spent = (err.0, record { put = err.1; spent = spent refl })

  contents_push : (ms : List (Letter T)) (m : Letter T) → contents (ms ++ m ∷ []) ≡ contents ms ++ m.content ∷ []
  contents_push [] m = refl
  contents_push (x ∷ ms) m = ap (λ l. x.content ∷ l) (contents_push ms m)

  put_here : (i : ℕ) (x y : Sending T) (item : T) (r : Result ℕ (T × PutFault)) → PutAnswers item r x y → contents y.put ≡ contents x.put ++ put_on i i item r
  put_here i x y item (Ok n) p =
      ap contents p.put ∙ contents_push x.put (letter x.sender n (Some item)) ∙ ap (λ b. contents x.put ++ (if b then Some item ∷ [] else [])) (sym (eq-eqb i i refl))
  put_here i x y item (Err (back, Full)) p = ap contents p.1.put ∙ sym (append-nil (contents x.put))
  put_here i x y item (Err (back, Spent)) p = ap contents p.1.put ∙ sym (append-nil (contents x.put))

  put_there : (k i : ℕ) (item : T) (r : Result ℕ (T × PutFault)) → (k ≡ i → ⊥) → put_on k i item r ≡ []
  put_there k i item (Ok n) apart = ap (λ b. if b then Some item ∷ [] else []) (ne_eqb k i apart)
  put_there k i item (Err e) apart = refl

  pub put_is : (xs ys : List (Sending T)) (i : ℕ) (item : T) (r : Result ℕ (T × PutFault)) (k : ℕ) → AtIndex i xs ys (PutAnswers item r)
      → contents_in (slice_get ys k) ≡ contents_in (slice_get xs k) ++ put_on k i item r
  put_is xs ys i item r k (x, y, at, now, p) = elim (cases_eq k i) [
    | inl here ↦ subst (λ j. contents_in (slice_get ys j) ≡ contents_in (slice_get xs j) ++ put_on j i item r) (sym here)
        (ap (λ l. contents_in (slice_get l i)) now ∙ ap contents_in (got_same xs i y (slice_get_within xs i x at)) ∙ put_here i x y item r p ∙ ap (λ o. contents_in o ++ put_on i i item r) (sym at))
    | inr apart ↦ ap (λ l. contents_in (slice_get l k)) now ∙ ap contents_in (got_other xs i k y apart) ∙ sym (append-nil (contents_in (slice_get xs k)))
        ∙ ap (λ l. contents_in (slice_get xs k) ++ l) (sym (put_there k i item r apart))
  ]
    where
      got_other : {X : Type 0} (xs : List X) (i k : ℕ) (y : X) → (k ≡ i → ⊥) → slice_get (set xs i y) k ≡ slice_get xs k
      got_other xs i k y apart = elim (cases_lt k (length xs)) [
        | inl within ↦ slice_get-get_or (set xs i y) k y (omega (arith, length-set xs i y)) ∙ ap Some (get_or-set_other xs i k y y apart) ∙ sym (slice_get-get_or xs k y within)
        | inr past ↦ slice_get_past (set xs i y) k (omega (arith, length-set xs i y)) ∙ sym (slice_get_past xs k past)
      ]

  -- what the contract of a get says
  pub gets_from : (a b : Receiving T) (r : Result (Got T) BoxSpent) → IfOk r (Hands a.got b.got) → IfOk r (GetServes a b.front) → IsOk r → Gets a b r
  gets_from a b (Ok found) h s e = (s, h)
  gets_from a b (Err fault) h s e = absurd (true≢false (sym e))
