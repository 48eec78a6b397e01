-- Reading a body from left to right: what follows each part, or the first fault that is met.
use Rattle.std.specs.Prelude.{◌≡◌, ℕ, zero, suc, ◌+◌, ◌*◌, List, [], ◌∷◌, length, drop, Bool, true, false, ◌&&◌, nat_le, ◌==◌, Option, Some, None, Result, Ok, Err, if◌then◌else◌}
use Rattle.std.specs.Borrow.{Bor}
use Rattle.smx_pdu.specs.declared.body_fault.BodyFault.{BodyFault}
use Rattle.smx_pdu.specs.declared.status.TheConstants.{ESME_RINVMSGLEN, ESME_RINVCMDLEN}
use Rattle.smx_pdu.specs.Reading.{text_at}
use Rattle.smx_bodies.specs.declared.layout.Part.{Part}
use Rattle.smx_bodies.specs.declared.layout.Part.TheVariants.{Text, Octet, Destinations, ShortMessage}
use Rattle.smx_bodies.specs.declared.unreadable.Unreadable.{Unreadable}
use Rattle.smx_bodies.specs.declared.unreadable.Unreadable.TheVariants as why
use Rattle.smx_bodies.specs.Layouts.{parts_of, has_parameters}

-- the octets after what was read
abbrev pub Rest : Type 0
Rest = Result (List ℕ) Unreadable

infixl 10 ◌>>=◌
abbrev pub ◌>>=◌ : Rest → (List ℕ → Rest) → Rest
(Ok rest) >>= f = f rest
(Err e) >>= f = Err e

-- what a reader returned is that rest
abbrev pub Leaves : Result (Bor (List ℕ)) Unreadable → Rest → Type 0
Leaves (Ok rest) read = read ≡ Ok rest.now
Leaves (Err e) read = read ≡ Err e

abbrev pub text_rest : Result (List ℕ × List ℕ) BodyFault → Rest
text_rest (Ok x) = Ok x.1
text_rest (Err e) = Err why.Fields

-- a C-Octet String, and a number of one octet (3.1)
unfoldable pub after_text : ℕ → List ℕ → Rest
after_text limit octets = text_rest (text_at limit octets)

unfoldable pub after_octet : List ℕ → Rest
after_octet [] = Err why.Fields
after_octet (n ∷ rest) = Ok rest

-- sm_length, at most 254, and so many octets (5.2.21 and 5.2.22)
unfoldable pub after_message : List ℕ → Rest
after_message [] = Err why.Fields
after_message (n ∷ rest) = if nat_le n 254 && nat_le n (length rest) then Ok (drop n rest) else Err why.ShortMessage

-- dest_flag, and an SME's address or the name of a distribution list (4.5.1.1, 4.5.1.2, 5.2.25)
abbrev pub after_flag : ℕ → List ℕ → Rest
after_flag flag octets =
    if flag == 1 then after_octet octets >>= after_octet >>= after_text 21
    else if flag == 2 then after_text 21 octets
    else Err why.Fields

unfoldable pub after_destination : List ℕ → Rest
after_destination [] = Err why.Fields
after_destination (flag ∷ octets) = after_flag flag octets

abbrev pub after_each : ℕ → List ℕ → Rest
after_each zero octets = Ok octets
after_each (suc n) octets = after_destination octets >>= after_each n

-- number_of_dests, and so many of them
unfoldable pub after_destinations : List ℕ → Rest
after_destinations [] = Err why.Fields
after_destinations (n ∷ octets) = after_each n octets

abbrev pub after_part : Part → List ℕ → Rest
after_part (Text limit) octets = after_text limit octets
after_part Octet octets = after_octet octets
after_part Destinations octets = after_destinations octets
after_part ShortMessage octets = after_message octets

abbrev pub after_parts : List Part → List ℕ → Rest
after_parts [] octets = Ok octets
after_parts (p ∷ ps) octets = after_part p octets >>= after_parts ps

-- whether so many octets of a value stand there, and then optional parameters up to the end: a tag of
-- two octets, a length of two, the more significant one first, and so many octets (5.3.2)
abbrev pub parameters_after : ℕ → List ℕ → Bool
parameters_after (suc n) (o ∷ octets) = parameters_after n octets
parameters_after (suc n) [] = false
parameters_after zero (t ∷ u ∷ high ∷ low ∷ octets) = parameters_after (high * 256 + low) octets
parameters_after zero (t ∷ u ∷ high ∷ []) = false
parameters_after zero (t ∷ u ∷ []) = false
parameters_after zero (t ∷ []) = false
parameters_after zero [] = true

-- what may follow the fields
abbrev pub is_end : Bool → List ℕ → Bool
is_end false octets = length octets == 0
is_end true octets = parameters_after 0 octets

abbrev pub result_at : Bool → Rest → Result (Unit {0}) Unreadable
result_at optional (Ok rest) = if is_end optional rest then Ok tt else Err why.Fields
result_at optional (Err e) = Err e

-- whether a command's body can be read, or why not
unfoldable pub read_body : ℕ → List ℕ → Result (Unit {0}) Unreadable
read_body command body = result_at (has_parameters command) (after_parts (parts_of command) body)

-- the status that answers a request whose body can't be read (5.1.3)
abbrev pub status_of : Unreadable → ℕ
status_of why.ShortMessage = ESME_RINVMSGLEN
status_of why.Fields = ESME_RINVCMDLEN

abbrev pub fault_status : Result (Unit {0}) Unreadable → Option ℕ
fault_status (Ok x) = None
fault_status (Err e) = Some (status_of e)

abbrev pub body_status : ℕ → List ℕ → Option ℕ
body_status command body = fault_status (read_body command body)
