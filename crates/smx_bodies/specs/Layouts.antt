-- The mandatory fields of the requests that a client sends to the centre (SMPP 3.4).
use Rattle.std.specs.Prelude.{ℕ, Bool, List, [], ◌∷◌, ◌==◌, if◌then◌else◌}
use Rattle.std.specs.List.{list_any}
use Rattle.smx_pdu.specs.declared.command.TheConstants.{QUERY_SM, SUBMIT_SM, REPLACE_SM, CANCEL_SM, SUBMIT_MULTI, DATA_SM}
use Rattle.smx_bodies.specs.declared.layout.Part.{Part}
use Rattle.smx_bodies.specs.declared.layout.Part.TheVariants.{Text, Octet, Destinations, ShortMessage}

-- 4.4.1: service_type, the source's type, plan and address, the destination's, esm_class, protocol_id,
-- priority_flag, schedule_delivery_time, validity_period, registered_delivery, replace_if_present_flag,
-- data_coding, sm_default_msg_id, sm_length and short_message
abbrev pub submit_sm_parts : List Part
submit_sm_parts = Text 6 ∷ Octet ∷ Octet ∷ Text 21 ∷ Octet ∷ Octet ∷ Text 21 ∷ Octet ∷ Octet ∷ Octet ∷ Text 17 ∷ Text 17 ∷ Octet ∷ Octet ∷ Octet ∷ Octet ∷ ShortMessage ∷ []

-- 4.5.1: the same, but for number_of_dests and its dest_address in place of the destination
abbrev pub submit_multi_parts : List Part
submit_multi_parts = Text 6 ∷ Octet ∷ Octet ∷ Text 21 ∷ Destinations ∷ Octet ∷ Octet ∷ Octet ∷ Text 17 ∷ Text 17 ∷ Octet ∷ Octet ∷ Octet ∷ Octet ∷ ShortMessage ∷ []

-- 4.7.1: service_type, the source, the destination, esm_class, registered_delivery, data_coding
abbrev pub data_sm_parts : List Part
data_sm_parts = Text 6 ∷ Octet ∷ Octet ∷ Text 65 ∷ Octet ∷ Octet ∷ Text 65 ∷ Octet ∷ Octet ∷ Octet ∷ []

-- 4.8.1: message_id and the source
abbrev pub query_sm_parts : List Part
query_sm_parts = Text 65 ∷ Octet ∷ Octet ∷ Text 21 ∷ []

-- 4.9.1: service_type, message_id, the source and the destination
abbrev pub cancel_sm_parts : List Part
cancel_sm_parts = Text 6 ∷ Text 65 ∷ Octet ∷ Octet ∷ Text 21 ∷ Octet ∷ Octet ∷ Text 21 ∷ []

-- 4.10.1: message_id, the source, schedule_delivery_time, validity_period, registered_delivery,
-- sm_default_msg_id, sm_length and short_message
abbrev pub replace_sm_parts : List Part
replace_sm_parts = Text 65 ∷ Octet ∷ Octet ∷ Text 21 ∷ Text 17 ∷ Text 17 ∷ Octet ∷ Octet ∷ ShortMessage ∷ []

-- any other command is read as one without fields
abbrev pub parts_of : ℕ → List Part
parts_of command =
    if command == SUBMIT_SM then submit_sm_parts
    else if command == SUBMIT_MULTI then submit_multi_parts
    else if command == DATA_SM then data_sm_parts
    else if command == QUERY_SM then query_sm_parts
    else if command == CANCEL_SM then cancel_sm_parts
    else if command == REPLACE_SM then replace_sm_parts
    else []

-- which of them have optional parameters (4.4.1, 4.5.1 and 4.7.1)
abbrev pub has_parameters : ℕ → Bool
has_parameters command = list_any (λ id. id == command) (SUBMIT_SM ∷ SUBMIT_MULTI ∷ DATA_SM ∷ [])
