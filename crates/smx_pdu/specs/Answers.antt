-- PDUs that answer others, and those that are a header alone.
use Rattle.std.specs.Prelude.{ℕ, ◌+◌, List, [], unwrap_or}
use Rattle.smx_pdu.specs.declared.pdu.Pdu.{Pdu}
use Rattle.smx_pdu.specs.declared.command.TheConstants.{GENERIC_NACK, RESPONSE}
use Rattle.smx_pdu.specs.declared.status.TheConstants.{ESME_RINVCMDLEN, ESME_RINVCMDID}
use Rattle.smx_pdu.specs.Command.{response_of}

abbrev pub header_only : ℕ → ℕ → ℕ → Pdu
header_only command status number = record { command = command; status = status; number = number; body = [] }

-- the response to a request: its command with the top bit, and its sequence_number (3.2 and 5.1.2.1)
abbrev pub response : Pdu → ℕ → List ℕ → Pdu
response request status body = record {
  command = RESPONSE + request.command;
  status = status;
  number = request.number;
  body = body;
}

-- what refuses a request: its response, or generic_nack where it has none (4.3)
abbrev pub refusal : ℕ → ℕ → ℕ → Pdu
refusal command status number = header_only (unwrap_or (response_of command) GENERIC_NACK) status number

-- generic_nack of a PDU whose command is unknown, with its number (4.3)
abbrev pub unknown : ℕ → Pdu
unknown number = header_only GENERIC_NACK ESME_RINVCMDID number

-- generic_nack of what can't be decoded, with the number 0 (4.3.1)
abbrev pub nack_of_undecoded : Pdu
nack_of_undecoded = header_only GENERIC_NACK ESME_RINVCMDLEN 0
