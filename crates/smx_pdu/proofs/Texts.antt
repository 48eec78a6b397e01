-- A text that is read is the text that was written, and which fault stands where there is none.
use Rattle.std.specs.Prelude.{Contains, ◌↔◌, ◌⊎◌, is_some, not}
use Rattle.std.specs.List.{position_or_len}
use Rattle.std.proofs.Common.{◌≡◌, ℕ, suc, ◌+◌, ◌<◌, ◌≤◌, Bool, true, false, cond, ltb, List, [], ◌∷◌, ◌++◌, length, get_or, take, drop, position, ◌==◌, Option, Some, None, Result, Ok, Err, refl, sym, ap, subst, ◌∙◌, append_assoc, arith, inl, inr}
use Rattle.std.proofs.Math.Seq.{drop-cons, get_or-append_seam}
use Rattle.std.proofs.Math.ListN.{get_or-append}
use Rattle.std.proofs.lemmas.Bool.{eqb-true, ne_eqb, ltb-false, le-ltb, lt-ltb, ltb-true}
use Rattle.std.proofs.lemmas.List.{take-append-drop, length-take, length-append, get_or-take, take_at, drop_at}
use Rattle.std.proofs.lemmas.List.Sums.{position_or_len_is, fails_before_first}
use Rattle.std.proofs.lemmas.List.Quantifiers.{position-Some}
use Rattle.smx_pdu.specs.declared.body_fault.BodyFault.{BodyFault}
use Rattle.smx_pdu.specs.declared.body_fault.BodyFault.TheVariants.{Truncated, FieldTooLong}
use Rattle.smx_pdu.specs.Fields.{IsText, IsAtFault}
use Rattle.smx_pdu.specs.Fields.Field.{text}
use Rattle.smx_pdu.specs.Reading.{text_at, text_until}

abbrev ends : ℕ → Bool
ends octet = octet == 0

ends_is : (n : ℕ) → ends n ≡ true → n ≡ 0
ends_is n e = eqb-true n 0 e

not_end : (n : ℕ) → (n ≡ 0 → ⊥) → ends n ≡ false
not_end n h = ne_eqb n 0 h

-- ---- where the first 0 stands

place : (xs : List ℕ) (i : ℕ) → i < length xs → get_or xs i 0 ≡ 0 → ((k : ℕ) → k < i → get_or xs k 0 ≡ 0 → ⊥) → position ends xs ≡ Some i
place xs i here zero_here before =
    let at : position_or_len ends xs ≡ i = position_or_len_is ends xs i 0 (omega arith) (λ k h. not_end (get_or xs k 0) (before k h)) (λ _. ap ends zero_here) in
    ap (λ (n : ℕ). cond (ltb n (length xs)) (Some n) None) at ∙ ap (λ (b : Bool). cond b (Some i) None) (lt-ltb i (length xs) here)

nowhere : (xs : List ℕ) → (Contains xs 0 → ⊥) → position ends xs ≡ None
nowhere xs none =
    let at : position_or_len ends xs ≡ length xs = position_or_len_is ends xs (length xs) 0 (omega arith) (λ k h. not_end (get_or xs k 0) (λ e. none (k, h, e))) (λ h. absurd (omega arith)) in
    ap (λ (n : ℕ). cond (ltb n (length xs)) (Some n) None) at ∙ ap (λ (b : Bool). cond b (Some (length xs)) None) (le-ltb (length xs) (length xs) (omega arith))

cond_none : (b : Bool) (n : ℕ) → cond b (Some n) None ≡ None → b ≡ false
cond_none true n e = absurd cc
cond_none false n e = refl

pub none_there : (xs : List ℕ) → position ends xs ≡ None → Contains xs 0 → ⊥
none_there xs e has =
    let past : length xs ≤ position_or_len ends xs = ltb-false _ _ (cond_none _ _ e) in
    let within = has.1 in
    let fails = fails_before_first ends xs has.0 0 (omega arith) in
    let passes : ends (get_or xs has.0 0) ≡ true = ap ends has.2 in
    absurd cc

is_none_cases : (o : Option ℕ) (b : Bool) → is_some o ≡ not b → ((b ≡ true) × (o ≡ None)) ⊎ ((b ≡ false) × ((i : ℕ) × (o ≡ Some i)))
is_none_cases None true e = inl (refl, refl)
is_none_cases None false e = absurd cc
is_none_cases (Some i) true e = absurd cc
is_none_cases (Some i) false e = inr (refl, (i, refl))

-- a text of few octets is one that a field holds where no 0 is found in it
pub no_end_found : (limit : ℕ) (value : List ℕ) (o : Option ℕ) (b : Bool) → length value < limit → o ≡ position ends value → is_some o ≡ not b → (b ≡ true) ↔ IsText limit value
no_end_found limit value o b short at e =
    elim (is_none_cases o b e) [
      | inl none ↦ (λ _. record { short = short; plain = none_there value (sym at ∙ none.1) }, λ _. none.0)
      | inr found ↦
          let p = position-Some ends value found.1.0 0 (sym at ∙ found.1.1) in
          (λ yes. absurd (let no = found.0 in cc), λ h. absurd (h.plain (found.1.0, p.0, ends_is _ p.1)))
    ]

-- ---- a text

abbrev Found : ℕ → List ℕ → List ℕ → List ℕ → Type 0
Found limit octets value rest = IsText limit value × (octets ≡ (value ++ 0 ∷ []) ++ rest)

found_at : (limit : ℕ) (octets : List ℕ) (i : ℕ) → position ends (take limit octets) ≡ Some i → Found limit octets (take i octets) (drop (i + 1) octets)
found_at limit octets i e =
    let at = position-Some ends (take limit octets) i 0 e in
    let within = at.0 in
    let taken = length-take limit octets in
    let short : length (take i octets) < limit = omega (arith, length-take i octets) in
    let zero_here : get_or octets i 0 ≡ 0 = sym (get_or-take limit octets i 0 (omega arith)) ∙ ends_is _ at.1 in
    let no_zero : Contains (take i octets) 0 → ⊥ = λ has.
    let k = has.0 in
    let below = has.1 in
    let before : k < i = omega (arith, length-take i octets) in
    let zero_there : get_or (take limit octets) k 0 ≡ 0 = get_or-take limit octets k 0 (omega arith) ∙ sym (get_or-take i octets k 0 before) ∙ has.2 in
    let passes : ends (get_or (take limit octets) k 0) ≡ true = ap ends zero_there in
    let fails = at.2 k before in
    absurd cc
    in
    let next : suc i ≡ i + 1 = omega arith in
    let back : drop i octets ≡ 0 ∷ drop (i + 1) octets = drop-cons octets i 0 (omega arith) ∙ ap (λ (n : ℕ). n ∷ drop (suc i) octets) zero_here ∙ ap (λ (j : ℕ). 0 ∷ drop j octets) next in
    (record { short = short; plain = no_zero }, sym (take-append-drop i octets) ∙ ap (λ (xs : List ℕ). take i octets ++ xs) back ∙ sym (append_assoc (take i octets) (0 ∷ []) (drop (i + 1) octets)))

abbrev done : List ℕ × List ℕ → Result (List ℕ × List ℕ) BodyFault
done x = Ok x

abbrev fails : BodyFault → Result (List ℕ × List ℕ) BodyFault
fails e = Err e

cond_fault : (b : Bool) (x : List ℕ × List ℕ) → cond b (fails Truncated) (fails FieldTooLong) ≡ done x → ⊥
cond_fault true x e = absurd cc
cond_fault false x e = absurd cc

found_until : (limit : ℕ) (octets value rest : List ℕ) (r : Option ℕ) → position ends (take limit octets) ≡ r → text_until limit octets r ≡ done (value, rest) → Found limit octets value rest
found_until limit octets value rest None e t = absurd (cond_fault (ltb (length octets) limit) (value, rest) t)
found_until limit octets value rest (Some i) e t =
    let both : (take i octets, drop (i + 1) octets) ≡ (value, rest) = cc in
    subst (λ (x : List ℕ × List ℕ). Found limit octets x.0 x.1) both (found_at limit octets i e)

pub text_found : (limit : ℕ) (octets value rest : List ℕ) → text_at limit octets ≡ done (value, rest) → Found limit octets value rest
unfolding text_at
text_found limit octets value rest t = found_until limit octets value rest _ refl t

pub text_again : (limit : ℕ) (value rest : List ℕ) → IsText limit value → text_at limit ((value ++ 0 ∷ []) ++ rest) ≡ done (value, rest)
unfolding text_at
text_again limit value rest h =
    let octets : List ℕ = (value ++ 0 ∷ []) ++ rest in
    let parts : octets ≡ value ++ 0 ∷ rest = append_assoc value (0 ∷ []) rest in
    let short = h.short in
    let whole : length octets ≡ length value + (1 + length rest) = omega (arith, ap length parts, length-append value (0 ∷ rest)) in
    let here : length value < length (take limit octets) = omega (arith, length-take limit octets) in
    let zero_here : get_or (take limit octets) (length value) 0 ≡ 0 = get_or-take limit octets (length value) 0 (omega arith) ∙ ap (λ (xs : List ℕ). get_or xs (length value) 0) parts ∙ get_or-append_seam value 0 rest 0 in
    let before : (k : ℕ) → k < length value → get_or (take limit octets) k 0 ≡ 0 → ⊥ = λ k lt e.
    h.plain (k, lt, sym (get_or-append value (0 ∷ rest) 0 k lt) ∙ ap (λ (xs : List ℕ). get_or xs k 0) (sym parts) ∙ sym (get_or-take limit octets k 0 (omega arith)) ∙ e)
    in
    let at = place (take limit octets) (length value) here zero_here before in
    let front : take (length value) octets ≡ value = ap (take (length value)) parts ∙ take_at value (0 ∷ rest) (length value) refl in
    let back : drop (length value + 1) octets ≡ rest = drop_at (value ++ 0 ∷ []) rest (length value + 1) (length-append value (0 ∷ [])) in
    ap (text_until limit octets) at ∙ ap (λ (x : List ℕ). done (x, drop (length value + 1) octets)) front ∙ ap (λ (x : List ℕ). done (value, x)) back

-- ---- a text that has no end

fault_by : (limit : ℕ) (octets : List ℕ) (e : BodyFault) (b : Bool) → ltb (length octets) limit ≡ b → (Contains (take limit octets) 0 → ⊥) → cond b (fails Truncated) (fails FieldTooLong) ≡ fails e → IsAtFault (text limit) e octets
fault_by limit octets Truncated true l none t =
    let short : length octets < limit = ltb-true _ _ l in (
      short,
      λ has.
          let k = has.0 in
          let below = has.1 in
          none (k, omega (arith, length-take limit octets), get_or-take limit octets k 0 (omega arith) ∙ has.2),
    )
fault_by limit octets FieldTooLong true l none t = absurd cc
fault_by limit octets Truncated false l none t = absurd cc
fault_by limit octets FieldTooLong false l none t = (ltb-false _ _ l, none)

fault_until : (limit : ℕ) (octets : List ℕ) (e : BodyFault) (r : Option ℕ) → position ends (take limit octets) ≡ r → text_until limit octets r ≡ fails e → IsAtFault (text limit) e octets
fault_until limit octets e None at t = fault_by limit octets e _ refl (none_there (take limit octets) at) t
fault_until limit octets e (Some i) at t = absurd cc

pub text_fault : (limit : ℕ) (octets : List ℕ) (e : BodyFault) → text_at limit octets ≡ fails e → IsAtFault (text limit) e octets
unfolding text_at
text_fault limit octets e t = fault_until limit octets e _ refl t

pub text_fault_again : (limit : ℕ) (octets : List ℕ) (e : BodyFault) → IsAtFault (text limit) e octets → text_at limit octets ≡ fails e
unfolding text_at
text_fault_again limit octets Truncated h =
    let short = h.0 in
    let none : Contains (take limit octets) 0 → ⊥ = λ has.
    let k = has.0 in
    let below = has.1 in
    h.1 (k, omega (arith, length-take limit octets), sym (get_or-take limit octets k 0 (omega (arith, length-take limit octets))) ∙ has.2)
    in
    ap (text_until limit octets) (nowhere (take limit octets) none) ∙ ap (λ (b : Bool). cond b (fails Truncated) (fails FieldTooLong)) (lt-ltb _ _ short)
text_fault_again limit octets FieldTooLong h =
    ap (text_until limit octets) (nowhere (take limit octets) h.1) ∙ ap (λ (b : Bool). cond b (fails Truncated) (fails FieldTooLong)) (le-ltb _ _ h.0)
