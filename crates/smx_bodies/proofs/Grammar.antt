-- What is read is what the octets are, and a short message is told where it is cut.
use Rattle.std.specs.Prelude.{◌⊎◌}
use Rattle.std.proofs.Common.{◌≡◌, ℕ, zero, suc, ◌<◌, ◌≤◌, Bool, true, ◌&&◌, nat_le, ◌==◌, cond, List, [], ◌∷◌, ◌++◌, length, take, drop, Result, Ok, Err, refl, ap, sym, ◌∙◌, append_assoc, arith, inl, inr}
use Rattle.std.proofs.lemmas.Bool.Decides.{leb_tells, eqb_tells}
use Rattle.std.proofs.lemmas.List.{drop_at, length-append, length-take, take-append-drop}
use Rattle.smx_pdu.specs.Fields.{IsText}
use Rattle.smx_pdu.specs.Reading.{text_at}
use Rattle.smx_pdu.proofs.Texts.{text_found, text_again}
use Rattle.smx_pdu.specs.declared.body_fault.BodyFault.{BodyFault}
use Rattle.smx_bodies.specs.declared.layout.Part.{Part}
use Rattle.smx_bodies.specs.declared.layout.Part.TheVariants.{Text, Octet, Destinations, ShortMessage}
use Rattle.smx_bodies.specs.declared.unreadable.Unreadable.{Unreadable}
use Rattle.smx_bodies.specs.declared.unreadable.Unreadable.TheVariants as why
use Rattle.smx_bodies.specs.Bodies.{InTurn, IsDestination, AreDestinations, IsPart, AreParts, IsCut, IsMessageCut}
use Rattle.smx_bodies.specs.Bodies.IsDestination.{address, distribution_list}
use Rattle.smx_bodies.specs.Reading.{Rest, ◌>>=◌, text_rest, after_text, after_octet, after_message, after_destination, after_each, after_destinations, after_part, after_parts}

abbrev pub good : List ℕ → Rest
good rest = Ok rest

abbrev pub bad : Unreadable → Rest
bad e = Err e

-- a reader reads octets of a kind, whatever follows them, and nothing else
pub record Reads (after : List ℕ → Rest) (Is : List ℕ → Type 0) : Type 0 where
  pub found : (octets rest : List ℕ) → after octets ≡ good rest → (first : List ℕ) × (Is first × (octets ≡ first ++ rest))
  pub again : (first rest : List ℕ) → Is first → after (first ++ rest) ≡ good rest

-- ---- one after another

step_ok : (r : Rest) (f : List ℕ → Rest) (rest : List ℕ) → (r >>= f) ≡ good rest → (x : List ℕ) × ((r ≡ good x) × (f x ≡ good rest))
step_ok (Ok x) f rest e = (x, (refl, e))
step_ok (Err d) f rest e = absurd cc

step_bad : (r : Rest) (f : List ℕ → Rest) (e : Unreadable) → (r >>= f) ≡ bad e → (r ≡ bad e) ⊎ ((x : List ℕ) × ((r ≡ good x) × (f x ≡ bad e)))
step_bad (Ok x) f e h = inr (x, (refl, h))
step_bad (Err d) f e h = inl h

module _ (f g : List ℕ → Rest) (A B : List ℕ → Type 0) (a : Reads f A) (b : Reads g B) where
  turn_found : (octets rest : List ℕ) → (f octets >>= g) ≡ good rest → (first : List ℕ) × (InTurn A B first × (octets ≡ first ++ rest))
  turn_found octets rest e =
      let step = step_ok (f octets) g rest e in
      let here = a.found octets step.0 step.1.0 in
      let there = b.found step.0 rest step.1.1 in
      (here.0 ++ there.0, (record { first = here.0; rest = there.0; is_first = here.1.0; is_rest = there.1.0; octets_are = refl }, here.1.1 ∙ ap (λ (xs : List ℕ). here.0 ++ xs) there.1.1 ∙ sym (append_assoc here.0 there.0 rest)))

  turn_again : (octets rest : List ℕ) → InTurn A B octets → (f (octets ++ rest) >>= g) ≡ good rest
  turn_again octets rest h =
      let parts : octets ++ rest ≡ h.first ++ (h.rest ++ rest) = ap (λ (xs : List ℕ). xs ++ rest) h.octets_are ∙ append_assoc h.first h.rest rest in
      ap (λ (xs : List ℕ). f xs >>= g) parts ∙ ap (λ (r : Rest). r >>= g) (a.again h.first (h.rest ++ rest) h.is_first) ∙ b.again h.rest rest h.is_rest

  in_turn : Reads (λ octets. f octets >>= g) (InTurn A B)
  in_turn = record { found = turn_found; again = turn_again }

nothing : Reads (λ octets. good octets) (λ octets. octets ≡ [])
nothing = record {
  found = λ octets rest e. ([], (refl, let same : octets ≡ rest = cc in same));
  again = λ first rest e. ap (λ (xs : List ℕ). good (xs ++ rest)) e;
}

-- ---- fields

text_step : (r : Result (List ℕ × List ℕ) BodyFault) (rest : List ℕ) → text_rest r ≡ good rest → (value : List ℕ) × (r ≡ Ok (value, rest))
text_step (Ok x) rest e = let same : x.1 ≡ rest = cc in (x.0, ap (λ (xs : List ℕ). Ok (x.0, xs)) same)
text_step (Err e) rest h = absurd cc

text_reads : (limit : ℕ) → Reads (after_text limit) (IsPart (Text limit))
unfolding after_text
text_reads limit = record {
  found = λ octets rest e.
      let step = text_step (text_at limit octets) rest e in
      let is = text_found limit octets step.0 rest step.1 in
      (step.0 ++ 0 ∷ [], ((step.0, (is.0, refl)), is.1));
  again = λ first rest h. ap (λ (xs : List ℕ). text_rest (text_at limit (xs ++ rest))) h.1.1 ∙ ap text_rest (text_again limit h.0 rest h.1.0);
}

text_plain : (r : Result (List ℕ × List ℕ) BodyFault) → text_rest r ≡ bad why.ShortMessage → ⊥
text_plain (Ok x) e = absurd cc
text_plain (Err d) e = absurd cc

octet_found : (octets rest : List ℕ) → after_octet octets ≡ good rest → (first : List ℕ) × (IsPart Octet first × (octets ≡ first ++ rest))
unfolding after_octet
octet_found [] rest e = absurd cc
octet_found (n ∷ octets) rest e = let same : octets ≡ rest = cc in (n ∷ [], ((n, refl), ap (λ (xs : List ℕ). n ∷ xs) same))

octet_reads : Reads after_octet (IsPart Octet)
unfolding after_octet
octet_reads = record { found = octet_found; again = λ first rest h. ap (λ (xs : List ℕ). after_octet (xs ++ rest)) h.1 }

octet_plain : (octets : List ℕ) → after_octet octets ≡ bad why.ShortMessage → ⊥
unfolding after_octet
octet_plain [] e = absurd cc
octet_plain (n ∷ octets) e = absurd cc

-- ---- a short message

abbrev IsShort : ℕ → List ℕ → Type 0
IsShort n more = (n ≤ 254) × (n ≤ length more)

abbrev IsLong : ℕ → List ℕ → Type 0
IsLong n more = (254 < n) ⊎ (length more < n)

message_cases : (n : ℕ) (more : List ℕ) → (IsShort n more × (after_message (n ∷ more) ≡ good (drop n more))) ⊎ (IsLong n more × (after_message (n ∷ more) ≡ bad why.ShortMessage))
unfolding after_message
message_cases n more =
    elim (leb_tells n 254) [
      | inl a ↦ elim (leb_tells n (length more)) [
        | inl b ↦ inl ((a.1, b.1), ap (λ (x : Bool). cond (x && nat_le n (length more)) (good (drop n more)) (bad why.ShortMessage)) a.0 ∙ ap (λ (x : Bool). cond (true && x) (good (drop n more)) (bad why.ShortMessage)) b.0)
        | inr b ↦ inr (inr b.1, ap (λ (x : Bool). cond (x && nat_le n (length more)) (good (drop n more)) (bad why.ShortMessage)) a.0 ∙ ap (λ (x : Bool). cond (true && x) (good (drop n more)) (bad why.ShortMessage)) b.0)
      ]
      | inr a ↦ inr (inl a.1, ap (λ (x : Bool). cond (x && nat_le n (length more)) (good (drop n more)) (bad why.ShortMessage)) a.0)
    ]

message_none : after_message [] ≡ bad why.Fields
unfolding after_message
message_none = refl

message_found : (octets rest : List ℕ) → after_message octets ≡ good rest → (first : List ℕ) × (IsPart ShortMessage first × (octets ≡ first ++ rest))
message_found [] rest e = absurd (let no = sym message_none ∙ e in cc)
message_found (n ∷ more) rest e =
    elim (message_cases n more) [
      | inl short ↦
          let after : drop n more ≡ rest = let both = sym short.1 ∙ e in cc in
          let long : length (take n more) ≡ n = omega (arith, length-take n more, short.0.1) in
          let spelled : n ∷ take n more ≡ length (take n more) ∷ take n more = ap (λ k. k ∷ take n more) (sym long) in
          (n ∷ take n more, ((take n more, (omega (arith, long, short.0.0), spelled)), ap (λ (xs : List ℕ). n ∷ xs) (sym (take-append-drop n more) ∙ ap (λ (xs : List ℕ). take n more ++ xs) after)))
      | inr cut ↦ absurd (let no = sym cut.1 ∙ e in cc)
    ]

message_again : (first rest : List ℕ) → IsPart ShortMessage first → after_message (first ++ rest) ≡ good rest
message_again first rest h =
    let message = h.0 in
    let size = length-append message rest in
    ap (λ (xs : List ℕ). after_message (xs ++ rest)) h.1.1
    ∙ elim (message_cases (length message) (message ++ rest)) [
      | inl short ↦ short.1 ∙ ap (λ (xs : List ℕ). good xs) (drop_at message rest (length message) refl)
      | inr cut ↦ absurd (elim cut.0 [ inl a ↦ omega (arith, a, h.1.0) | inr b ↦ omega (arith, b, size) ])
    ]

message_reads : Reads after_message (IsPart ShortMessage)
message_reads = record { found = message_found; again = message_again }

message_told : (octets : List ℕ) → after_message octets ≡ bad why.ShortMessage → IsCut ShortMessage octets
message_told [] e = absurd (let no = sym message_none ∙ e in cc)
message_told (n ∷ more) e =
    elim (message_cases n more) [
      | inl short ↦ absurd (let no = sym short.1 ∙ e in cc)
      | inr cut ↦ (n, (more, (refl, cut.0)))
    ]

message_cut : (octets : List ℕ) → IsCut ShortMessage octets → after_message octets ≡ bad why.ShortMessage
message_cut octets h =
    let n = h.0 in
    let more = h.1.0 in
    ap after_message h.1.1.0
    ∙ elim (message_cases n more) [
      | inl short ↦ absurd (elim h.1.1.1 [ inl a ↦ omega (arith, a, short.0.0) | inr b ↦ omega (arith, b, short.0.1) ])
      | inr cut ↦ cut.1
    ]

-- ---- destinations

abbrev after_address : List ℕ → Rest
after_address octets = after_octet octets >>= after_octet >>= after_text 21

abbrev IsAddress : List ℕ → Type 0
IsAddress = InTurn (InTurn (IsPart Octet) (IsPart Octet)) (IsPart (Text 21))

address_reads : Reads after_address IsAddress
address_reads = in_turn (λ octets. after_octet octets >>= after_octet) (after_text 21) (InTurn (IsPart Octet) (IsPart Octet)) (IsPart (Text 21)) (in_turn after_octet after_octet (IsPart Octet) (IsPart Octet) octet_reads octet_reads) (text_reads 21)

flag_one : (octets : List ℕ) → after_destination (1 ∷ octets) ≡ after_address octets
unfolding after_destination
flag_one octets = refl

flag_two : (octets : List ℕ) → after_destination (2 ∷ octets) ≡ after_text 21 octets
unfolding after_destination
flag_two octets = refl

flag_cases : (flag : ℕ) (octets : List ℕ) → (flag ≡ 1) ⊎ ((flag ≡ 2) ⊎ (after_destination (flag ∷ octets) ≡ bad why.Fields))
unfolding after_destination
flag_cases flag octets =
    elim (eqb_tells flag 1) [
      | inl one ↦ inl one.1
      | inr other ↦ elim (eqb_tells flag 2) [
        | inl two ↦ inr (inl two.1)
        | inr none ↦ inr (inr (ap (λ (x : Bool). cond x (after_address octets) (cond (flag == 2) (after_text 21 octets) (bad why.Fields))) other.0 ∙ ap (λ (x : Bool). cond x (after_text 21 octets) (bad why.Fields)) none.0))
      ]
    ]

no_destination : after_destination [] ≡ bad why.Fields
unfolding after_destination
no_destination = refl

address_is : (octets : List ℕ) → IsAddress octets → IsDestination (1 ∷ octets)
address_is octets h =
    let ton = h.is_first.is_first in
    let npi = h.is_first.is_rest in
    let value = h.is_rest in
    let numbers : h.first ≡ ton.0 ∷ npi.0 ∷ [] = h.is_first.octets_are ∙ ap (λ (xs : List ℕ). xs ++ h.is_first.rest) ton.1 ∙ ap (λ (xs : List ℕ). ton.0 ∷ xs) npi.1 in
    address ton.0 npi.0 value.0 value.1.0 (ap (λ (xs : List ℕ). 1 ∷ xs) (h.octets_are ∙ ap (λ (xs : List ℕ). xs ++ h.rest) numbers ∙ ap (λ (xs : List ℕ). ton.0 ∷ npi.0 ∷ xs) value.1.1))

is_address : (ton npi : ℕ) (value : List ℕ) → IsText 21 value → IsAddress (ton ∷ npi ∷ (value ++ 0 ∷ []))
is_address ton npi value h = record {
  first = ton ∷ npi ∷ [];
  rest = value ++ 0 ∷ [];
  is_first = record { first = ton ∷ []; rest = npi ∷ []; is_first = (ton, refl); is_rest = (npi, refl); octets_are = refl };
  is_rest = (value, (h, refl));
  octets_are = refl;
}

destination_found : (octets rest : List ℕ) → after_destination octets ≡ good rest → (first : List ℕ) × (IsDestination first × (octets ≡ first ++ rest))
destination_found [] rest e = absurd (let no = sym no_destination ∙ e in cc)
destination_found (flag ∷ octets) rest e =
    elim (flag_cases flag octets) [
      | inl one ↦
          let read = address_reads.found octets rest (sym (ap (λ k. after_destination (k ∷ octets)) one ∙ flag_one octets) ∙ e) in
          (1 ∷ read.0, (address_is read.0 read.1.0, ap (λ k. k ∷ octets) one ∙ ap (λ (xs : List ℕ). 1 ∷ xs) read.1.1))
      | inr other ↦ elim other [
        | inl two ↦
            let read = (text_reads 21).found octets rest (sym (ap (λ k. after_destination (k ∷ octets)) two ∙ flag_two octets) ∙ e) in
            (2 ∷ read.0, (distribution_list read.1.0.0 read.1.0.1.0 (ap (λ (xs : List ℕ). 2 ∷ xs) read.1.0.1.1), ap (λ k. k ∷ octets) two ∙ ap (λ (xs : List ℕ). 2 ∷ xs) read.1.1))
        | inr none ↦ absurd (let no = sym none ∙ e in cc)
      ]
    ]

destination_again : (first rest : List ℕ) → IsDestination first → after_destination (first ++ rest) ≡ good rest
destination_again first rest (address ton npi value h e) =
    ap (λ (xs : List ℕ). after_destination (xs ++ rest)) e ∙ flag_one _ ∙ address_reads.again _ rest (is_address ton npi value h)
destination_again first rest (distribution_list value h e) =
    ap (λ (xs : List ℕ). after_destination (xs ++ rest)) e ∙ flag_two _ ∙ (text_reads 21).again (value ++ 0 ∷ []) rest (value, (h, refl))

destination_reads : Reads after_destination IsDestination
destination_reads = record { found = destination_found; again = destination_again }

each_reads : (n : ℕ) → Reads (after_each n) (AreDestinations n)
each_reads zero = nothing
each_reads (suc n) = in_turn after_destination (after_each n) IsDestination (AreDestinations n) destination_reads (each_reads n)

destinations_found : (octets rest : List ℕ) → after_destinations octets ≡ good rest → (first : List ℕ) × (IsPart Destinations first × (octets ≡ first ++ rest))
unfolding after_destinations
destinations_found [] rest e = absurd cc
destinations_found (n ∷ octets) rest e =
    let read = (each_reads n).found octets rest e in
    (n ∷ read.0, ((n, (read.0, (read.1.0, refl))), ap (λ (xs : List ℕ). n ∷ xs) read.1.1))

destinations_again : (first rest : List ℕ) → IsPart Destinations first → after_destinations (first ++ rest) ≡ good rest
unfolding after_destinations
destinations_again first rest h =
    ap (λ (xs : List ℕ). after_destinations (xs ++ rest)) h.1.1.1 ∙ (each_reads h.0).again h.1.0 rest h.1.1.0

destinations_reads : Reads after_destinations (IsPart Destinations)
destinations_reads = record { found = destinations_found; again = destinations_again }

-- no destination is a message that is cut
address_plain : (octets : List ℕ) → after_address octets ≡ bad why.ShortMessage → ⊥
unfolding after_text
address_plain octets e =
    elim (step_bad (after_octet octets >>= after_octet) (after_text 21) why.ShortMessage e) [
      | inl numbers ↦ elim (step_bad (after_octet octets) after_octet why.ShortMessage numbers) [
        | inl first ↦ octet_plain octets first
        | inr second ↦ octet_plain second.0 second.1.1
      ]
      | inr value ↦ text_plain (text_at 21 value.0) value.1.1
    ]

destination_plain : (octets : List ℕ) → after_destination octets ≡ bad why.ShortMessage → ⊥
unfolding after_text
destination_plain [] e = let no = sym no_destination ∙ e in absurd cc
destination_plain (flag ∷ octets) e =
    elim (flag_cases flag octets) [
      | inl one ↦ address_plain octets (sym (ap (λ k. after_destination (k ∷ octets)) one ∙ flag_one octets) ∙ e)
      | inr other ↦ elim other [
        | inl two ↦ text_plain (text_at 21 octets) (sym (ap (λ k. after_destination (k ∷ octets)) two ∙ flag_two octets) ∙ e)
        | inr none ↦ absurd (let no = sym none ∙ e in cc)
      ]
    ]

each_plain : (n : ℕ) (octets : List ℕ) → after_each n octets ≡ bad why.ShortMessage → ⊥
each_plain zero octets e = absurd cc
each_plain (suc n) octets e =
    elim (step_bad (after_destination octets) (after_each n) why.ShortMessage e) [
      | inl here ↦ destination_plain octets here
      | inr later ↦ each_plain n later.0 later.1.1
    ]

destinations_plain : (octets : List ℕ) → after_destinations octets ≡ bad why.ShortMessage → ⊥
unfolding after_destinations
destinations_plain [] e = absurd cc
destinations_plain (n ∷ octets) e = each_plain n octets e

-- ---- parts

part_reads : (p : Part) → Reads (after_part p) (IsPart p)
part_reads (Text limit) = text_reads limit
part_reads Octet = octet_reads
part_reads Destinations = destinations_reads
part_reads ShortMessage = message_reads

pub parts_reads : (ps : List Part) → Reads (after_parts ps) (AreParts ps)
parts_reads [] = nothing
parts_reads (p ∷ ps) = in_turn (after_part p) (after_parts ps) (IsPart p) (AreParts ps) (part_reads p) (parts_reads ps)

part_told : (p : Part) (octets : List ℕ) → after_part p octets ≡ bad why.ShortMessage → IsCut p octets
unfolding after_text
part_told (Text limit) octets e = absurd (text_plain (text_at limit octets) e)
part_told Octet octets e = absurd (octet_plain octets e)
part_told Destinations octets e = absurd (destinations_plain octets e)
part_told ShortMessage octets e = message_told octets e

part_cut : (p : Part) (octets : List ℕ) → IsCut p octets → after_part p octets ≡ bad why.ShortMessage
part_cut (Text limit) octets h = absurd h
part_cut Octet octets h = absurd h
part_cut Destinations octets h = absurd h
part_cut ShortMessage octets h = message_cut octets h

pub parts_told : (ps : List Part) (octets : List ℕ) → after_parts ps octets ≡ bad why.ShortMessage → IsMessageCut ps octets
parts_told [] octets e = absurd cc
parts_told (p ∷ ps) octets e =
    elim (step_bad (after_part p octets) (after_parts ps) why.ShortMessage e) [
      | inl here ↦ inl (part_told p octets here)
      | inr later ↦
          let read = (part_reads p).found octets later.0 later.1.0 in
          inr (record { first = read.0; rest = later.0; is_first = read.1.0; is_rest = parts_told ps later.0 later.1.1; octets_are = read.1.1 })
    ]

pub parts_cut : (ps : List Part) (octets : List ℕ) → IsMessageCut ps octets → after_parts ps octets ≡ bad why.ShortMessage
parts_cut [] octets h = absurd h
parts_cut (p ∷ ps) octets h =
    elim h [
      | inl here ↦ ap (λ (r : Rest). r >>= after_parts ps) (part_cut p octets here)
      | inr later ↦
          ap (λ (xs : List ℕ). after_part p xs >>= after_parts ps) later.octets_are
          ∙ ap (λ (r : Rest). r >>= after_parts ps) ((part_reads p).again later.first later.rest later.is_first)
          ∙ parts_cut ps later.rest later.is_rest
    ]
