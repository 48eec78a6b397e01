-- Fields that are read are the fields that were written, and which fault stands where they aren't.
use Rattle.std.specs.Prelude.{◌⊎◌}
use Rattle.std.proofs.Common.{◌≡◌, ℕ, List, [], ◌∷◌, ◌++◌, Result, Ok, Err, refl, sym, ap, subst, ◌∙◌, append_assoc, inl, inr}
use Rattle.smx_pdu.specs.declared.body_fault.BodyFault.{BodyFault}
use Rattle.smx_pdu.specs.declared.body_fault.BodyFault.TheVariants.{Truncated, FieldTooLong}
use Rattle.smx_pdu.specs.Fields.{Field, Said, AllSaid, Fits, AllFit, field_octets, all_octets, IsAtFault, FirstFault, Holds}
use Rattle.smx_pdu.specs.Fields.Field.{text, octet}
use Rattle.smx_pdu.specs.Reading.{◌>>=◌, octet_at, field_at, fields_at}
use Rattle.smx_pdu.proofs.Texts.{text_found, text_again, text_fault, text_fault_again}

abbrev pub good : {A : Type 0} → A → Result A BodyFault
good x = Ok x

abbrev pub bad : {A : Type 0} → BodyFault → Result A BodyFault
bad e = Err e

-- the value of a step that did not fail
pub bind_ok : {A B : Type 0} (r : Result A BodyFault) (f : A → Result B BodyFault) (y : B) → (r >>= f) ≡ good y → (x : A) × ((r ≡ good x) × (f x ≡ good y))
bind_ok (Ok x) f y e = (x, (refl, e))
bind_ok (Err d) f y e = absurd cc

-- which step failed
pub bind_bad : {A B : Type 0} (r : Result A BodyFault) (f : A → Result B BodyFault) (e : BodyFault) → (r >>= f) ≡ bad {A = B} e → (r ≡ bad {A = A} e) ⊎ ((x : A) × ((r ≡ good x) × (f x ≡ bad {A = B} e)))
bind_bad (Ok x) f e h = inr (x, (refl, h))
bind_bad (Err d) f e h = inl cc

pub good_is : {A : Type 0} (x y : A) → good x ≡ good y → x ≡ y
good_is x y e = cc

-- ---- one octet

octet_found : (bs : List ℕ) (n : ℕ) (rest : List ℕ) → octet_at bs ≡ good (n, rest) → bs ≡ (n ∷ []) ++ rest
unfolding octet_at
octet_found [] n rest e = absurd cc
octet_found (b ∷ bs) n rest e =
    let both : (b, bs) ≡ (n, rest) = good_is (b, bs) (n, rest) e in
    ap (λ (x : ℕ × List ℕ). x.0 ∷ x.1) both

octet_again : (n : ℕ) (rest : List ℕ) → octet_at ((n ∷ []) ++ rest) ≡ good (n, rest)
unfolding octet_at
octet_again n rest = refl

octet_fault : (bs : List ℕ) (e : BodyFault) → octet_at bs ≡ bad {A = ℕ × List ℕ} e → IsAtFault octet e bs
unfolding octet_at
octet_fault [] Truncated h = refl
octet_fault [] FieldTooLong h = absurd cc
octet_fault (b ∷ bs) e h = absurd cc

octet_fault_again : (bs : List ℕ) (e : BodyFault) → IsAtFault octet e bs → octet_at bs ≡ bad {A = ℕ × List ℕ} e
unfolding octet_at
octet_fault_again [] Truncated h = refl
octet_fault_again (b ∷ bs) Truncated h = absurd cc
octet_fault_again bs FieldTooLong h = absurd h

-- ---- one field

field_found : (f : Field) (bs : List ℕ) (value : Said f) (rest : List ℕ) → field_at f bs ≡ good (value, rest) → Fits f value × (bs ≡ field_octets f value ++ rest)
field_found (text limit) bs value rest e = text_found limit bs value rest e
field_found octet bs value rest e = (tt, octet_found bs value rest e)

field_again : (f : Field) (value : Said f) (rest : List ℕ) → Fits f value → field_at f (field_octets f value ++ rest) ≡ good (value, rest)
field_again (text limit) value rest h = text_again limit value rest h
field_again octet value rest h = octet_again value rest

field_fault : (f : Field) (bs : List ℕ) (e : BodyFault) → field_at f bs ≡ bad {A = Said f × List ℕ} e → IsAtFault f e bs
field_fault (text limit) bs e h = text_fault limit bs e h
field_fault octet bs e h = octet_fault bs e h

field_fault_again : (f : Field) (bs : List ℕ) (e : BodyFault) → IsAtFault f e bs → field_at f bs ≡ bad {A = Said f × List ℕ} e
field_fault_again (text limit) bs e h = text_fault_again limit bs e h
field_fault_again octet bs e h = octet_fault_again bs e h

-- ---- fields, one after another

-- the fields after the first one
abbrev after : (f : Field) (fs : List Field) → Said f × List ℕ → Result (AllSaid (f ∷ fs)) BodyFault
after f fs first = fields_at fs first.1 >>= λ (others : AllSaid fs). Ok (first.0, others)

pub fields_found : (fs : List Field) (bs : List ℕ) (said : AllSaid fs) → fields_at fs bs ≡ good said → Holds fs said bs
fields_found [] bs said e = record { fit = tt; rest = bs; octets = refl }
fields_found (f ∷ fs) bs said e =
    let first = bind_ok (field_at f bs) (after f fs) said e in
    let value = first.0.0 in
    let rest = first.0.1 in
    let later = bind_ok (fields_at fs rest) (λ (others : AllSaid fs). Ok (value, others)) said first.1.1 in
    let here = field_found f bs value rest first.1.0 in
    let there = fields_found fs rest later.0 later.1.0 in
    let holds : Holds (f ∷ fs) (value, later.0) bs = record {
      fit = (here.0, there.fit);
      rest = there.rest;
      octets = here.1 ∙ ap (λ (xs : List ℕ). field_octets f value ++ xs) there.octets ∙ sym (append_assoc (field_octets f value) (all_octets fs later.0) there.rest);
    } in
    subst (λ (x : AllSaid (f ∷ fs)). Holds (f ∷ fs) x bs) (good_is (value, later.0) said later.1.1) holds

pub fields_again : (fs : List Field) (said : AllSaid fs) (rest : List ℕ) → AllFit fs said → fields_at fs (all_octets fs said ++ rest) ≡ good said
fields_again [] said rest h = refl
fields_again (f ∷ fs) said rest h =
    let more = all_octets fs said.1 ++ rest in
    let parts : all_octets (f ∷ fs) said ++ rest ≡ field_octets f said.0 ++ more = append_assoc (field_octets f said.0) (all_octets fs said.1) rest in
    ap (fields_at (f ∷ fs)) parts
    ∙ ap (λ (r : Result (Said f × List ℕ) BodyFault). r >>= after f fs) (field_again f said.0 more h.0)
    ∙ ap (λ (r : Result (AllSaid fs) BodyFault). r >>= λ (others : AllSaid fs). Ok (said.0, others)) (fields_again fs said.1 rest h.1)

pub fields_fault : (fs : List Field) (bs : List ℕ) (e : BodyFault) → fields_at fs bs ≡ bad {A = AllSaid fs} e → FirstFault fs e bs
fields_fault [] bs e h = absurd cc
fields_fault (f ∷ fs) bs e h =
    elim (bind_bad (field_at f bs) (after f fs) e h) [
      | inl here ↦ inl (field_fault f bs e here)
      | inr later ↦
          let value = later.0.0 in
          let rest = later.0.1 in
          let here = field_found f bs value rest later.1.0 in
          let fail : fields_at fs rest ≡ bad {A = AllSaid fs} e = elim (bind_bad (fields_at fs rest) (λ (others : AllSaid fs). good (value, others)) e later.1.1) [ inl there ↦ there | inr none ↦ absurd (let no = none.1.1 in cc) ] in
          inr (value, (rest, (here.0, (here.1, fields_fault fs rest e fail))))
    ]

pub fields_fault_again : (fs : List Field) (bs : List ℕ) (e : BodyFault) → FirstFault fs e bs → fields_at fs bs ≡ bad {A = AllSaid fs} e
fields_fault_again [] bs e h = absurd h
fields_fault_again (f ∷ fs) bs e h =
    elim h [
      | inl here ↦ ap (λ (r : Result (Said f × List ℕ) BodyFault). r >>= after f fs) (field_fault_again f bs e here)
      | inr later ↦
          let value = later.0 in
          let rest = later.1.0 in
          ap (fields_at (f ∷ fs)) later.1.1.1.0
          ∙ ap (λ (r : Result (Said f × List ℕ) BodyFault). r >>= after f fs) (field_again f value rest later.1.1.0)
          ∙ ap (λ (r : Result (AllSaid fs) BodyFault). r >>= λ (others : AllSaid fs). Ok (value, others)) (fields_fault_again fs rest e later.1.1.1.1)
    ]
