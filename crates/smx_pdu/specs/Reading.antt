-- Reading a body's fields from left to right, with the first fault that is met.
use Rattle.std.specs.Prelude.{◌≡◌, ℕ, ◌+◌, List, [], ◌∷◌, length, take, drop, position, Option, Some, None, Result, Ok, Err, nat_lt, ◌==◌, if◌then◌else◌}
use Rattle.smx_pdu.specs.declared.body_fault.BodyFault.{BodyFault}
use Rattle.smx_pdu.specs.declared.body_fault.BodyFault.TheVariants.{Truncated, FieldTooLong}
use Rattle.smx_pdu.specs.declared.bind.Bind.{Bind}
use Rattle.smx_pdu.specs.Fields.{Field, Said, AllSaid, AllFit, bind_fields, message_fields}
use Rattle.smx_pdu.specs.Fields.Field.{text, octet}

infixl 10 ◌>>=◌
abbrev pub ◌>>=◌ : {A B : Type 0} → Result A BodyFault → (A → Result B BodyFault) → Result B BodyFault
(Ok x) >>= f = f x
(Err e) >>= f = Err e

-- what a reader returned, seen by view, is what reading gives
abbrev pub Gives : {X Y : Type 0} → (X → Y) → Result X BodyFault → Result Y BodyFault → Type 0
Gives view (Ok x) read = read ≡ Ok (view x)
Gives view (Err e) read = read ≡ Err e

abbrev pub text_until : ℕ → List ℕ → Option ℕ → Result (List ℕ × List ℕ) BodyFault
text_until limit octets (Some end) = Ok (take end octets, drop (end + 1) octets)
text_until limit octets None = if nat_lt (length octets) limit then Err Truncated else Err FieldTooLong

-- the text up to the first 0 among the first octets, and the octets after that 0
unfoldable pub text_at : ℕ → List ℕ → Result (List ℕ × List ℕ) BodyFault
text_at limit octets = text_until limit octets (position (λ octet. octet == 0) (take limit octets))

unfoldable pub octet_at : List ℕ → Result (ℕ × List ℕ) BodyFault
octet_at [] = Err Truncated
octet_at (n ∷ rest) = Ok (n, rest)

-- a field's value, and the octets after it
abbrev pub field_at : (f : Field) → List ℕ → Result (Said f × List ℕ) BodyFault
field_at (text limit) octets = text_at limit octets
field_at octet octets = octet_at octets

abbrev pub fields_at : (fs : List Field) → List ℕ → Result (AllSaid fs) BodyFault
fields_at [] body = Ok tt
fields_at (f ∷ fs) body = do
  first ← field_at f body
  others ← fields_at fs first.1
  Ok (first.0, others)

-- what a bind says, each text without its ending 0
pub record BindFields : Type 0 where
  pub system_id : List ℕ
  pub password : List ℕ
  pub system_type : List ℕ
  pub interface_version : ℕ
  pub addr_ton : ℕ
  pub addr_npi : ℕ
  pub address_range : List ℕ

-- the same in the order of the fields
abbrev pub in_order : BindFields → AllSaid bind_fields
in_order b = (b.system_id, (b.password, (b.system_type, (b.interface_version, (b.addr_ton, (b.addr_npi, (b.address_range, tt)))))))

abbrev pub by_name : AllSaid bind_fields → BindFields
by_name said = record {
  system_id = said.0;
  password = said.1.0;
  system_type = said.1.1.0;
  interface_version = said.1.1.1.0;
  addr_ton = said.1.1.1.1.0;
  addr_npi = said.1.1.1.1.1.0;
  address_range = said.1.1.1.1.1.1.0;
}

-- what can be written as a bind
abbrev pub BindFits : BindFields → Type 0
BindFits b = AllFit bind_fields (in_order b)

-- a bind without where its texts lie
abbrev pub said_by : Bind → BindFields
said_by b = record {
  system_id = b.system_id.now;
  password = b.password.now;
  system_type = b.system_type.now;
  interface_version = b.interface_version;
  addr_ton = b.addr_ton;
  addr_npi = b.addr_npi;
  address_range = b.address_range.now;
}

-- the bind that a body begins with
unfoldable pub bind_at : List ℕ → Result BindFields BodyFault
bind_at body = do
  said ← fields_at bind_fields body
  Ok (by_name said)

-- the last of a message's fields up to its destination
abbrev pub destination_in : AllSaid message_fields → List ℕ
destination_in said = said.1.1.1.1.1.1.0

-- the destination of the message that a body begins with
unfoldable pub destination_at : List ℕ → Result (List ℕ) BodyFault
destination_at body = do
  said ← fields_at message_fields body
  Ok (destination_in said)
