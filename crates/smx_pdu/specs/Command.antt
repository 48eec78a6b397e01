-- Which commands have a response, and which a gateway passes on (SMPP 3.4, sections 4 and 5.1.2.1).
-- The ids are the code's own constants: a test compares them with the numbers of table 5-1.
use Rattle.std.specs.Prelude.{ℕ, Bool, List, [], ◌∷◌, ◌+◌, ◌||◌, Option, Some, None, ◌==◌, if◌then◌else◌}
use Rattle.std.specs.List.{list_any}
use Rattle.smx_pdu.specs.declared.command.TheConstants.{BIND_RECEIVER, BIND_TRANSMITTER, QUERY_SM, SUBMIT_SM, DELIVER_SM, UNBIND, REPLACE_SM, CANCEL_SM, BIND_TRANSCEIVER, ENQUIRE_LINK, SUBMIT_MULTI, DATA_SM, RESPONSE, GENERIC_NACK}

-- the requests that have a response
abbrev pub requests_with_response : List ℕ
requests_with_response = BIND_RECEIVER ∷ BIND_TRANSMITTER ∷ QUERY_SM ∷ SUBMIT_SM ∷ DELIVER_SM ∷ UNBIND ∷ REPLACE_SM ∷ CANCEL_SM ∷ BIND_TRANSCEIVER ∷ ENQUIRE_LINK ∷ SUBMIT_MULTI ∷ DATA_SM ∷ []

-- the requests of a client that go to the centre
abbrev pub forwarded_requests : List ℕ
forwarded_requests = SUBMIT_SM ∷ SUBMIT_MULTI ∷ QUERY_SM ∷ CANCEL_SM ∷ REPLACE_SM ∷ DATA_SM ∷ []

-- the request's id with the top bit (5.1.2.1)
abbrev pub response_of : ℕ → Option ℕ
response_of command = if list_any (λ id. id == command) requests_with_response then Some (RESPONSE + command) else None

abbrev pub is_forwarded : ℕ → Bool
is_forwarded command = list_any (λ id. id == command) forwarded_requests

-- a response bears the id of its request with the top bit, or is generic_nack (4.3)
abbrev pub is_response_to : ℕ → ℕ → Bool
is_response_to request command = (command == RESPONSE + request) || (command == GENERIC_NACK)
