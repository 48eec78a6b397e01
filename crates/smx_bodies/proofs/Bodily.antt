-- What the check of a body returns.
use Rattle.std.specs.Prelude.{◌↔◌, IsOk, IsErrOf, IfOk}
use Rattle.std.specs.Borrow.{Bor}
use Rattle.std.proofs.Common.{◌≡◌, ℕ, zero, suc, ◌+◌, ◌*◌, Bool, true, false, cond, List, [], ◌∷◌, ◌++◌, length, Result, Ok, Err, refl, ap, sym, subst, ◌∙◌, arith}
use Rattle.std.proofs.lemmas.Bool.{eqb-true}
use Rattle.std.proofs.lemmas.List.{drop_at, length-append}
use Rattle.smx_bodies.specs.declared.layout.Part.{Part}
use Rattle.smx_bodies.specs.declared.unreadable.Unreadable.{Unreadable}
use Rattle.smx_bodies.specs.declared.unreadable.Unreadable.TheVariants as why
use Rattle.smx_bodies.specs.Layouts.{parts_of, has_parameters}
use Rattle.smx_bodies.specs.Bodies.{AreParts, Parameter, SpellsAll, AreParameters, MayFollow, IsBody, IsMessageCut}
use Rattle.smx_bodies.specs.Reading.{Rest, Leaves, after_parts, parameters_after, is_end, result_at, read_body}
use Rattle.smx_bodies.proofs.Values.{value_passed}
use Rattle.smx_bodies.proofs.Grammar.{good, bad, parts_reads, parts_told, parts_cut}

-- ---- optional parameters

abbrev After : ℕ → List ℕ → Type 0
After n octets = (value : List ℕ) × ((rest : List ℕ) × ((length value ≡ n) × ((octets ≡ value ++ rest) × AreParameters rest)))

parameters_found : (n : ℕ) (octets : List ℕ) → parameters_after n octets ≡ true → After n octets
parameters_found (suc n) (o ∷ octets) e =
    let later = parameters_found n octets e in
    (o ∷ later.0, (later.1.0, (omega (arith, later.1.1.0), (ap (λ (xs : List ℕ). o ∷ xs) later.1.1.1.0, later.1.1.1.1))))
parameters_found (suc n) [] e = absurd cc
parameters_found zero (t ∷ u ∷ high ∷ low ∷ octets) e =
    let later = parameters_found (high * 256 + low) octets e in
    let first : Parameter = record { tag_high = t; tag_low = u; high = high; low = low; value = later.0 } in
    let others = later.1.1.1.1 in
    ([], (t ∷ u ∷ high ∷ low ∷ octets, (refl, (refl, (first ∷ others.0, (later.1.0, (later.1.1.0, (others.1, ap (λ (xs : List ℕ). t ∷ u ∷ high ∷ low ∷ xs) later.1.1.1.0))))))))
parameters_found zero (t ∷ u ∷ high ∷ []) e = absurd cc
parameters_found zero (t ∷ u ∷ []) e = absurd cc
parameters_found zero (t ∷ []) e = absurd cc
parameters_found zero [] e = ([], ([], (refl, (refl, ([], refl)))))

parameters_again : (ps : List Parameter) (octets : List ℕ) → SpellsAll ps octets → parameters_after 0 octets ≡ true
parameters_again [] octets h = ap (parameters_after 0) h
parameters_again (p ∷ ps) octets h =
    let rest = h.0 in
    let size = length-append p.value rest in
    ap (parameters_after 0) h.1.1.1
    ∙ ap (λ n. parameters_after n (p.value ++ rest)) (sym h.1.0)
    ∙ value_passed (length p.value) (p.value ++ rest) (omega (arith, size))
    ∙ ap (parameters_after 0) (drop_at p.value rest (length p.value) refl)
    ∙ parameters_again ps rest h.1.1.0

-- ---- what follows the fields

end_found : (b : Bool) (octets : List ℕ) → is_end b octets ≡ true → MayFollow b octets
end_found false [] e = refl
end_found false (o ∷ octets) e = absurd (let no = eqb-true (length (o ∷ octets)) 0 e in omega (arith, no))
end_found true octets e =
    let all = parameters_found 0 octets e in
    let none : all.0 ≡ [] = nothing_there all.0 all.1.1.0 in
    let same : octets ≡ all.1.0 = all.1.1.1.0 ∙ ap (λ (xs : List ℕ). xs ++ all.1.0) none in
    (all.1.1.1.1.0, subst_spelled all.1.1.1.1.0 all.1.0 octets (sym same) all.1.1.1.1.1)
  where
    nothing_there : (xs : List ℕ) → length xs ≡ 0 → xs ≡ []
    nothing_there [] h = refl
    nothing_there (x ∷ xs) h = absurd (omega (arith, h))

    subst_spelled : (ps : List Parameter) (xs ys : List ℕ) → xs ≡ ys → SpellsAll ps xs → SpellsAll ps ys
    subst_spelled ps xs ys same h = subst (SpellsAll ps) same h

end_again : (b : Bool) (octets : List ℕ) → MayFollow b octets → is_end b octets ≡ true
end_again false octets h = ap (is_end false) h
end_again true octets h = parameters_again h.0 octets h.1

-- ---- a whole body

abbrev done : Result (Unit {0}) Unreadable
done = Ok tt

abbrev fault : Unreadable → Result (Unit {0}) Unreadable
fault e = Err e

pick_ok : (x : Bool) → IsOk (cond x done (fault why.Fields)) → x ≡ true
pick_ok true h = refl
pick_ok false h = absurd (let no = h in cc)

ended_ok : (b : Bool) (r : Rest) → IsOk (result_at b r) → (rest : List ℕ) × ((r ≡ good rest) × (is_end b rest ≡ true))
ended_ok b (Ok rest) h = (rest, (refl, pick_ok (is_end b rest) h))
ended_ok b (Err e) h = absurd (let no = h in cc)

done_is : IsOk done
done_is = refl

pub body_is : (command : ℕ) (body : List ℕ) → IsOk (read_body command body) ↔ IsBody command body
unfolding read_body
body_is command body = (
  λ ok.
      let read = ended_ok (has_parameters command) (after_parts (parts_of command) body) ok in
      let parts = (parts_reads (parts_of command)).found body read.0 read.1.0 in
      record { first = parts.0; rest = read.0; is_first = parts.1.0; is_rest = end_found (has_parameters command) read.0 read.1.1; octets_are = parts.1.1 },
  λ h.
      let parts : after_parts (parts_of command) body ≡ good h.rest = ap (after_parts (parts_of command)) h.octets_are ∙ (parts_reads (parts_of command)).again h.first h.rest h.is_first in
      let end = end_again (has_parameters command) h.rest h.is_rest in
      subst (λ (r : Result (Unit {0}) Unreadable). IsOk r) (sym (ap (result_at (has_parameters command)) parts ∙ ap (λ (x : Bool). cond x done (fault why.Fields)) end)) done_is,
)

pick_cut : (x : Bool) → cond x done (fault why.Fields) ≡ fault why.ShortMessage → ⊥
pick_cut true e = absurd cc
pick_cut false e = absurd cc

ended_cut : (b : Bool) (r : Rest) → result_at b r ≡ fault why.ShortMessage → r ≡ bad why.ShortMessage
ended_cut b (Ok rest) e = absurd (pick_cut (is_end b rest) e)
ended_cut b (Err d) e = let same : d ≡ why.ShortMessage = cc in ap (λ (x : Unreadable). bad x) same

pub body_cut : (command : ℕ) (body : List ℕ) → (read_body command body ≡ fault why.ShortMessage) ↔ IsMessageCut (parts_of command) body
unfolding read_body
body_cut command body = (
  λ e. parts_told (parts_of command) body (ended_cut (has_parameters command) (after_parts (parts_of command) body) e),
  λ h. ap (result_at (has_parameters command)) (parts_cut (parts_of command) body h),
)

-- ---- the parts that a body begins with

pub rest_found : (ps : List Part) (octets : List ℕ) (r : Result (Bor (List ℕ)) Unreadable) → Leaves r (after_parts ps octets) → IfOk r (λ rest. (first : List ℕ) × (AreParts ps first × (octets ≡ first ++ rest.now)))
rest_found ps octets (Ok rest) read = (parts_reads ps).found octets rest.now read
rest_found ps octets (Err e) read = tt

pub rest_only : (ps : List Part) (octets : List ℕ) (r : Result (Bor (List ℕ)) Unreadable) → Leaves r (after_parts ps octets) → (first rest : List ℕ) → AreParts ps first → octets ≡ first ++ rest → Leaves r (good rest)
rest_only ps octets (Ok x) read first rest parts same = sym (ap (after_parts ps) same ∙ (parts_reads ps).again first rest parts) ∙ read
rest_only ps octets (Err e) read first rest parts same = sym (ap (after_parts ps) same ∙ (parts_reads ps).again first rest parts) ∙ read

pub rest_cut : (ps : List Part) (octets : List ℕ) (r : Result (Bor (List ℕ)) Unreadable) → Leaves r (after_parts ps octets) → IsErrOf r why.ShortMessage ↔ IsMessageCut ps octets
rest_cut ps octets (Ok x) read = (λ no. absurd (let wrong = no in cc), λ h. absurd (let wrong = sym read ∙ parts_cut ps octets h in cc))
rest_cut ps octets (Err e) read = (
  λ same. parts_told ps octets (read ∙ ap (λ (x : Unreadable). bad x) (let is : e ≡ why.ShortMessage = cc in is)),
  λ h. let both = sym read ∙ parts_cut ps octets h in cc,
)
