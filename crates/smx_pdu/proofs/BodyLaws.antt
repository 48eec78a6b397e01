-- What the readers of bodies return.
use Rattle.std.specs.Prelude.{IfOk, IfErr}
use Rattle.std.specs.Borrow.{Bor}
use Rattle.std.proofs.Common.{◌≡◌, ℕ, List, ◌++◌, Result, Ok, Err, refl, sym, ap, subst, ◌∙◌, inl, inr}
use Rattle.smx_pdu.specs.declared.body_fault.BodyFault.{BodyFault}
use Rattle.smx_pdu.specs.declared.bind.Bind.{Bind}
use Rattle.smx_pdu.specs.Fields.{Field, AllSaid, all_octets, FirstFault, Holds, bind_fields, message_fields}
use Rattle.smx_pdu.specs.Reading.{◌>>=◌, fields_at, Gives, BindFields, BindFits, said_by, in_order, by_name, bind_at, destination_in, destination_at}
use Rattle.smx_pdu.proofs.FieldLaws.{good, bad, bind_ok, bind_bad, good_is, fields_found, fields_again, fields_fault, fields_fault_again}

-- ---- a view of fields

abbrev seen_at : {B : Type 0} (fs : List Field) → (AllSaid fs → B) → List ℕ → Result B BodyFault
seen_at fs view body = fields_at fs body >>= λ said. Ok (view said)

seen_found : {B : Type 0} (fs : List Field) (view : AllSaid fs → B) (body : List ℕ) (b : B) → seen_at fs view body ≡ good b → (said : AllSaid fs) × (Holds fs said body × (view said ≡ b))
seen_found fs view body b e =
    let step = bind_ok (fields_at fs body) (λ (said : AllSaid fs). good (view said)) b e in
    (step.0, (fields_found fs body step.0 step.1.0, good_is (view step.0) b step.1.1))

seen_again : {B : Type 0} (fs : List Field) (view : AllSaid fs → B) (body : List ℕ) (said : AllSaid fs) → Holds fs said body → seen_at fs view body ≡ good (view said)
seen_again fs view body said h = ap (λ (r : Result (AllSaid fs) BodyFault). r >>= λ (s : AllSaid fs). good (view s)) (ap (fields_at fs) h.octets ∙ fields_again fs said h.rest h.fit)

seen_fault : {B : Type 0} (fs : List Field) (view : AllSaid fs → B) (body : List ℕ) (e : BodyFault) → seen_at fs view body ≡ bad {A = B} e → FirstFault fs e body
seen_fault fs view body e h =
    elim (bind_bad (fields_at fs body) (λ (said : AllSaid fs). good (view said)) e h) [
      | inl here ↦ fields_fault fs body e here
      | inr none ↦ absurd (let no = none.1.1 in cc)
    ]

seen_fault_again : {B : Type 0} (fs : List Field) (view : AllSaid fs → B) (body : List ℕ) (e : BodyFault) → FirstFault fs e body → seen_at fs view body ≡ bad {A = B} e
seen_fault_again fs view body e h = ap (λ (r : Result (AllSaid fs) BodyFault). r >>= λ (s : AllSaid fs). good (view s)) (fields_fault_again fs body e h)

-- ---- a result that is what reading gives

abbrev IsReading : {X B : Type 0} (fs : List Field) → (AllSaid fs → B) → (X → B) → Result X BodyFault → List ℕ → Type 0
IsReading fs view seen r body = Gives seen r (seen_at fs view body)

pub reading_only : {X B : Type 0} (fs : List Field) (view : AllSaid fs → B) (seen : X → B) (r : Result X BodyFault) (body : List ℕ) → IsReading fs view seen r body
    → (said : AllSaid fs) → Holds fs said body → Gives seen r (Ok (view said))
reading_only fs view seen (Ok x) body g said h = sym (seen_again fs view body said h) ∙ g
reading_only fs view seen (Err e) body g said h = sym (seen_again fs view body said h) ∙ g

pub reading_fault : {X B : Type 0} (fs : List Field) (view : AllSaid fs → B) (seen : X → B) (r : Result X BodyFault) (body : List ℕ) → IsReading fs view seen r body
    → IfErr r (λ e. FirstFault fs e body)
reading_fault fs view seen (Ok x) body g = tt
reading_fault fs view seen (Err e) body g = seen_fault fs view body e g

pub reading_first : {X B : Type 0} (fs : List Field) (view : AllSaid fs → B) (seen : X → B) (r : Result X BodyFault) (body : List ℕ) → IsReading fs view seen r body
    → (e : BodyFault) → FirstFault fs e body → r ≡ bad {A = X} e
reading_first fs view seen (Ok x) body g e h = absurd (let no = seen_fault_again fs view body e h in cc)
reading_first fs view seen (Err d) body g e h = let same = seen_fault_again fs view body e h in cc

-- ---- a bind

in_order_again : (said : AllSaid bind_fields) (b : BindFields) → by_name said ≡ b → said ≡ in_order b
in_order_again said b e = ap in_order e

pub bind_found : (r : Result Bind BodyFault) (body : List ℕ) → Gives said_by r (bind_at body) → IfOk r (λ b. Holds bind_fields (in_order (said_by b)) body)
unfolding bind_at
bind_found (Ok b) body g =
    let found = seen_found bind_fields by_name body (said_by b) g in
    subst (λ (said : AllSaid bind_fields). Holds bind_fields said body) (in_order_again found.0 (said_by b) found.1.1) found.1.0
bind_found (Err e) body g = tt

pub bind_only : (r : Result Bind BodyFault) (body : List ℕ) → Gives said_by r (bind_at body) → (b : BindFields) → Holds bind_fields (in_order b) body → Gives said_by r (Ok b)
unfolding bind_at
bind_only r body g b h = reading_only bind_fields by_name said_by r body g (in_order b) h

pub bind_fault : (r : Result Bind BodyFault) (body : List ℕ) → Gives said_by r (bind_at body) → IfErr r (λ e. FirstFault bind_fields e body)
unfolding bind_at
bind_fault r body g = reading_fault bind_fields by_name said_by r body g

pub bind_first : (r : Result Bind BodyFault) (body : List ℕ) → Gives said_by r (bind_at body) → (e : BodyFault) → FirstFault bind_fields e body → r ≡ bad {A = Bind} e
unfolding bind_at
bind_first r body g e h = reading_first bind_fields by_name said_by r body g e h

pub bind_again : (b : BindFields) (more : List ℕ) → BindFits b → bind_at (all_octets bind_fields (in_order b) ++ more) ≡ good b
unfolding bind_at
bind_again b more h = seen_again bind_fields by_name (all_octets bind_fields (in_order b) ++ more) (in_order b) (record { fit = h; rest = more; octets = refl })

-- ---- a destination

abbrev seen : Bor (List ℕ) → List ℕ
seen d = d.now

pub destination_found : (r : Result (Bor (List ℕ)) BodyFault) (body : List ℕ) → Gives seen r (destination_at body)
    → IfOk r (λ d. (said : AllSaid message_fields) × (Holds message_fields said body × (d.now ≡ destination_in said)))
unfolding destination_at
destination_found (Ok d) body g =
    let found = seen_found message_fields destination_in body d.now g in
    (found.0, (found.1.0, sym found.1.1))
destination_found (Err e) body g = tt

pub destination_only : (r : Result (Bor (List ℕ)) BodyFault) (body : List ℕ) → Gives seen r (destination_at body) → (said : AllSaid message_fields) → Holds message_fields said body → Gives seen r (Ok (destination_in said))
unfolding destination_at
destination_only r body g said h = reading_only message_fields destination_in seen r body g said h

pub destination_fault : (r : Result (Bor (List ℕ)) BodyFault) (body : List ℕ) → Gives seen r (destination_at body) → IfErr r (λ e. FirstFault message_fields e body)
unfolding destination_at
destination_fault r body g = reading_fault message_fields destination_in seen r body g

pub destination_first : (r : Result (Bor (List ℕ)) BodyFault) (body : List ℕ) → Gives seen r (destination_at body) → (e : BodyFault) → FirstFault message_fields e body → r ≡ bad {A = Bor (List ℕ)} e
unfolding destination_at
destination_first r body g e h = reading_first message_fields destination_in seen r body g e h
