-- What tells a client that a request of its own failed, since it was taken and the link was lost before it was answered,
-- or that no lane accepted it.
use Rattle.std.specs.Prelude.{ℕ, ◌+◌, List, [], ◌∷◌, ◌==◌, if◌then◌else◌}
use Rattle.std.specs.List.{list_any}
use Rattle.smx_pdu.specs.declared.pdu.Pdu.{Pdu}
use Rattle.smx_pdu.specs.declared.command.TheConstants.{SUBMIT_SM, SUBMIT_MULTI, DATA_SM, RESPONSE, GENERIC_NACK}
use Rattle.smx_pdu.specs.declared.status.TheConstants.{ESME_RSYSERR, ESME_RSUBMITFAIL, ESME_RMSGQFUL}
use Rattle.smx_pdu.specs.Answers.{header_only, refusal}
use Rattle.smx_history.specs.declared.telling.Unaccepted.{Unaccepted}
use Rattle.smx_history.specs.declared.telling.Unaccepted.TheVariants.{AllFull, UsedUp}

-- the requests whose response may be a header alone (SMPP 3.4, sections 4.4.2, 4.5.2 and 4.7.2)
abbrev pub submissions : List ℕ
submissions = SUBMIT_SM ∷ SUBMIT_MULTI ∷ DATA_SM ∷ []

-- their response, and generic_nack for the others (4.3)
abbrev pub failure_command : ℕ → ℕ
failure_command request = if list_any (λ id. id == request) submissions then RESPONSE + request else GENERIC_NACK

-- a response says that the message was not submitted, and generic_nack that the system failed (5.1.3)
abbrev pub failure_status : ℕ → ℕ
failure_status command = if command == GENERIC_NACK then ESME_RSYSERR else ESME_RSUBMITFAIL

-- with that command and sequence_number
abbrev pub failure : ℕ → ℕ → Pdu
failure command number = header_only command (failure_status command) number

-- what refuses a request says that its queue is full, or that the system failed (5.1.3)
abbrev pub refusal_status : Unaccepted → ℕ
refusal_status AllFull = ESME_RMSGQFUL
refusal_status UsedUp = ESME_RSYSERR

-- the answer to a request with that command and sequence_number that no lane accepts
abbrev pub refusal_of : Unaccepted → ℕ → ℕ → Pdu
refusal_of why command number = refusal command (refusal_status why) number
