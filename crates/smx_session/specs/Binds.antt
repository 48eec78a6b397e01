-- Binds: the checks of a client's, its answer, and the proxy's own (SMPP 3.4, section 4.1).
use Rattle.std.specs.Prelude.{ℕ, List, [], ◌∷◌, ◌++◌, codes, position, nat_le, slice_get, Option, Some, None, Result, Ok, Err, if◌then◌else◌}
use Rattle.std.specs.Str.{bytes_eq}
use Rattle.smx_pdu.specs.declared.body_fault.BodyFault.{BodyFault}
use Rattle.smx_pdu.specs.declared.command.TheConstants.{BIND_RECEIVER, BIND_TRANSMITTER, BIND_TRANSCEIVER}
use Rattle.smx_pdu.specs.declared.status.TheConstants.{ESME_RINVCMDLEN, ESME_RINVSYSID, ESME_RINVPASWD}
use Rattle.smx_pdu.specs.Reading.{BindFields, bind_at}
use Rattle.smx_bodies.specs.declared.layout.Part.{Part}
use Rattle.smx_bodies.specs.declared.layout.Part.TheVariants.{Text, Octet}
use Rattle.smx_bodies.specs.Reading.{Rest, after_parts}
use Rattle.smx_session.specs.Login.{Login, OwnBind}
use Rattle.smx_session.specs.declared.kind.Kind.{Kind}
use Rattle.smx_session.specs.declared.kind.Kind.TheVariants.{Tx, Rx, Trx}
use Rattle.smx_session.specs.declared.bind_check.Checked.{Checked}
use Rattle.smx_session.specs.declared.bind_check.Checked.TheVariants.{Refused, Granted}

-- the first account with exactly this system_id
abbrev pub account_of : List Login → List ℕ → Option ℕ
account_of accounts system_id = position (λ a. bytes_eq a.system_id system_id) accounts

-- third, the account's password is exactly the bind's (ESME_RINVPASWD, 5.1.3)
abbrev pub check_password : Option Login → ℕ → BindFields → Checked
check_password None i b = Refused ESME_RINVSYSID
check_password (Some a) i b = if bytes_eq a.password b.password then Granted i b.interface_version else Refused ESME_RINVPASWD

-- second, there is an account (ESME_RINVSYSID)
abbrev pub check_account : List Login → BindFields → Option ℕ → Checked
check_account accounts b None = Refused ESME_RINVSYSID
check_account accounts b (Some i) = check_password (slice_get accounts i) i b

-- a bind's fields, but for the limits of its system_id and password: a body has at most 65,520 octets
abbrev pub wide_bind : List Part
wide_bind = Text 65521 ∷ Text 65521 ∷ Text 13 ∷ Octet ∷ Octet ∷ Octet ∷ Text 41 ∷ []

abbrev pub too_long : Rest → Checked
too_long (Err e) = Refused ESME_RINVSYSID
too_long (Ok rest) = Refused ESME_RINVPASWD

-- what isn't read is refused by its length (ESME_RINVCMDLEN), but for a bind whose system_id, or else
-- whose password, is too long alone (ESME_RINVSYSID, ESME_RINVPASWD)
abbrev pub check_lengths : List ℕ → Rest → Checked
check_lengths body (Err e) = Refused ESME_RINVCMDLEN
check_lengths body (Ok rest) = too_long (after_parts (Text 16 ∷ []) body)

-- first, the body is read
abbrev pub check_fields : List Login → List ℕ → Result BindFields BodyFault → Checked
check_fields accounts body (Err e) = check_lengths body (after_parts wide_bind body)
check_fields accounts body (Ok b) = check_account accounts b (account_of accounts b.system_id)

abbrev pub check_bind : List Login → List ℕ → Checked
check_bind accounts body = check_fields accounts body (bind_at body)

-- the body of a bind's response: the system_id, and to a client of SMPP 3.4 or later the optional
-- parameter sc_interface_version (4.1.2 and 5.3.2.25): its tag, its length 1 and 0x34
abbrev pub bind_answer : ℕ → List ℕ
bind_answer version = codes "smx" ++ 0 ∷ (if nat_le 0x34 version then 0x02 ∷ 0x10 ∷ 0x00 ∷ 0x01 ∷ 0x34 ∷ [] else [])

-- the proxy's own bind: its fields, and its command (4.1.1, 4.1.3 and 4.1.5)
abbrev pub own_bind : OwnBind → BindFields
own_bind b = record {
  system_id = b.system_id;
  password = b.password;
  system_type = b.system_type;
  interface_version = b.interface_version;
  addr_ton = 0;
  addr_npi = 0;
  address_range = b.address_range;
}

abbrev pub bind_command : Kind → ℕ
bind_command Tx = BIND_TRANSMITTER
bind_command Rx = BIND_RECEIVER
bind_command Trx = BIND_TRANSCEIVER

-- one of SMPP 3.4 that says nothing of itself but its name and password
abbrev pub transceiver_bind : List ℕ → List ℕ → OwnBind
transceiver_bind system_id password = record {
  kind = Trx;
  system_id = system_id;
  password = password;
  system_type = [];
  interface_version = 0x34;
  address_range = [];
}
