-- What a client's session does with each PDU in each state (SMPP 3.4, sections 2.2, 2.3 and 4).
use Rattle.std.specs.Prelude.{ℕ, ◌+◌, Bool, true, false, List, [], ◌∷◌, nat_le, ◌==◌, Option, Some, None, if◌then◌else◌}
use Rattle.std.specs.List.{list_any}
use Rattle.smx_pdu.specs.declared.pdu.Pdu.{Pdu}
use Rattle.smx_pdu.specs.declared.command.TheConstants.{BIND_RECEIVER, BIND_TRANSMITTER, BIND_TRANSCEIVER, QUERY_SM, SUBMIT_SM, DELIVER_SM, UNBIND, REPLACE_SM, CANCEL_SM, OUTBIND, ENQUIRE_LINK, SUBMIT_MULTI, ALERT_NOTIFICATION, DATA_SM, GENERIC_NACK, RESPONSE}
use Rattle.smx_pdu.specs.declared.status.TheConstants.{ESME_ROK, ESME_RINVBNDSTS, ESME_RALYBND, ESME_RMSGQFUL}
use Rattle.smx_session.specs.Login.{Login}
use Rattle.smx_session.specs.declared.kind.Kind.{Kind}
use Rattle.smx_session.specs.declared.kind.Kind.TheVariants as kind
use Rattle.smx_session.specs.declared.client_state.ClientState.{ClientState}
use Rattle.smx_session.specs.declared.client_state.ClientState.TheVariants.{Opened, BoundTx, BoundRx, BoundTrx, Unbinding, Ended}
use Rattle.smx_session.specs.declared.client_row.ClientRow.{ClientRow}
use Rattle.smx_session.specs.declared.client_row.ClientRow.TheVariants as row
use Rattle.smx_session.specs.declared.act.Act.{Act}
use Rattle.smx_session.specs.declared.act.Act.TheVariants as act
use Rattle.smx_pdu.specs.Answers.{response, unknown}
use Rattle.smx_session.specs.declared.bind_check.Checked.{Checked}
use Rattle.smx_session.specs.declared.bind_check.Checked.TheVariants.{Refused, Granted}
use Rattle.smx_session.specs.Binds.{check_bind, bind_answer}
use Rattle.smx_session.specs.Rules.{rules_of, ruled_out}

abbrev pub is_among : List ℕ → ℕ → Bool
is_among commands command = list_any (λ id. id == command) commands

-- the rows of the table
abbrev pub client_row : ℕ → ClientRow
client_row command =
    if command == BIND_TRANSMITTER then row.Bind kind.Tx
    else if command == BIND_RECEIVER then row.Bind kind.Rx
    else if command == BIND_TRANSCEIVER then row.Bind kind.Trx
    else if is_among (SUBMIT_SM ∷ SUBMIT_MULTI ∷ QUERY_SM ∷ CANCEL_SM ∷ REPLACE_SM ∷ DATA_SM ∷ []) command then row.Forwarded
    else if command == DELIVER_SM then row.DeliverSm
    else if command == ENQUIRE_LINK then row.EnquireLink
    else if command == UNBIND then row.Unbind
    else if is_among ((RESPONSE + DELIVER_SM) ∷ (RESPONSE + DATA_SM) ∷ GENERIC_NACK ∷ []) command then row.MessageAnswer
    else if command == RESPONSE + UNBIND then row.UnbindAnswer
    else if nat_le RESPONSE command then row.OtherResponse
    else if is_among (OUTBIND ∷ ALERT_NOTIFICATION ∷ []) command then row.Unanswered
    else row.Unknown

-- what a cell of the table says
pub data ClientCell : Type 0 where
  -- the checks of a bind of this kind
  checks : Kind → ClientCell
  -- a response with a header alone
  answer : ℕ → ClientCell
  -- generic_nack of an unknown command
  nack : ClientCell
  -- to a lane, where the rules of the account let it
  forward : ClientCell
  message_answer : ClientCell
  -- the response to unbind, and then Ended
  leave : ClientCell
  -- Closed and Ended
  closed : ClientCell
  ignore : ClientCell

-- the table, a row after another, each by its states
abbrev pub client_cell : ClientRow → ClientState → ClientCell
-- binds (4.1): one at most for a session
client_cell (row.Bind k) Opened = checks k
client_cell (row.Bind k) BoundTx = answer ESME_RALYBND
client_cell (row.Bind k) BoundRx = answer ESME_RALYBND
client_cell (row.Bind k) BoundTrx = answer ESME_RALYBND
client_cell (row.Bind k) Unbinding = answer ESME_RALYBND
client_cell (row.Bind k) Ended = answer ESME_RINVBNDSTS
-- messages to the centre, and about them (4.4, 4.5, 4.7 to 4.10; table 2-1): from a transmitter or
-- a transceiver. This project's choice: data_sm and replace_sm exactly where submit_sm; one that was
-- sent unbind may send them to another instance
client_cell row.Forwarded Opened = answer ESME_RINVBNDSTS
client_cell row.Forwarded BoundTx = forward
client_cell row.Forwarded BoundRx = answer ESME_RINVBNDSTS
client_cell row.Forwarded BoundTrx = forward
client_cell row.Forwarded Unbinding = answer ESME_RMSGQFUL
client_cell row.Forwarded Ended = answer ESME_RINVBNDSTS
-- deliver_sm (4.6) comes from a centre only
client_cell row.DeliverSm Opened = answer ESME_RINVBNDSTS
client_cell row.DeliverSm BoundTx = answer ESME_RINVBNDSTS
client_cell row.DeliverSm BoundRx = answer ESME_RINVBNDSTS
client_cell row.DeliverSm BoundTrx = answer ESME_RINVBNDSTS
client_cell row.DeliverSm Unbinding = answer ESME_RINVBNDSTS
client_cell row.DeliverSm Ended = answer ESME_RINVBNDSTS
-- enquire_link (4.11). This project's choice: before a bind too
client_cell row.EnquireLink Opened = answer ESME_ROK
client_cell row.EnquireLink BoundTx = answer ESME_ROK
client_cell row.EnquireLink BoundRx = answer ESME_ROK
client_cell row.EnquireLink BoundTrx = answer ESME_ROK
client_cell row.EnquireLink Unbinding = answer ESME_ROK
client_cell row.EnquireLink Ended = answer ESME_RINVBNDSTS
-- unbind (4.2)
client_cell row.Unbind Opened = answer ESME_RINVBNDSTS
client_cell row.Unbind BoundTx = leave
client_cell row.Unbind BoundRx = leave
client_cell row.Unbind BoundTrx = leave
client_cell row.Unbind Unbinding = leave
client_cell row.Unbind Ended = answer ESME_RINVBNDSTS
-- what answers a message (4.3, 4.6.2, 4.7.2): from a receiver or a transceiver
client_cell row.MessageAnswer Opened = ignore
client_cell row.MessageAnswer BoundTx = ignore
client_cell row.MessageAnswer BoundRx = message_answer
client_cell row.MessageAnswer BoundTrx = message_answer
client_cell row.MessageAnswer Unbinding = message_answer
client_cell row.MessageAnswer Ended = ignore
-- the answer to the proxy's unbind (4.2.2)
client_cell row.UnbindAnswer Opened = ignore
client_cell row.UnbindAnswer BoundTx = ignore
client_cell row.UnbindAnswer BoundRx = ignore
client_cell row.UnbindAnswer BoundTrx = ignore
client_cell row.UnbindAnswer Unbinding = closed
client_cell row.UnbindAnswer Ended = ignore
-- any other response: only a request has a response (2.8)
client_cell row.OtherResponse Opened = ignore
client_cell row.OtherResponse BoundTx = ignore
client_cell row.OtherResponse BoundRx = ignore
client_cell row.OtherResponse BoundTrx = ignore
client_cell row.OtherResponse Unbinding = ignore
client_cell row.OtherResponse Ended = ignore
-- outbind and alert_notification (4.1.7, 4.12) have no response
client_cell row.Unanswered Opened = ignore
client_cell row.Unanswered BoundTx = ignore
client_cell row.Unanswered BoundRx = ignore
client_cell row.Unanswered BoundTrx = ignore
client_cell row.Unanswered Unbinding = ignore
client_cell row.Unanswered Ended = ignore
-- any other command (4.3)
client_cell row.Unknown Opened = nack
client_cell row.Unknown BoundTx = nack
client_cell row.Unknown BoundRx = nack
client_cell row.Unknown BoundTrx = nack
client_cell row.Unknown Unbinding = nack
client_cell row.Unknown Ended = nack

-- the number of the proxy's own enquire_link to a client, and that of its own unbind, which no message to it bears
abbrev pub client_enquiry_number : ℕ
client_enquiry_number = 0x7FFF_FFFF

abbrev pub client_unbind_number : ℕ
client_unbind_number = 0x7FFF_FFFF

-- whether a silent client is sent enquire_link (4.11, 7.2): once it is bound
abbrev pub is_enquired : ClientState → Bool
is_enquired Opened = false
is_enquired BoundTx = true
is_enquired BoundRx = true
is_enquired BoundTrx = true
is_enquired Unbinding = false
is_enquired Ended = false

-- the state of a session that is bound so
abbrev pub bound_state : Kind → ClientState
bound_state kind.Tx = BoundTx
bound_state kind.Rx = BoundRx
bound_state kind.Trx = BoundTrx

-- an act, and the state after it
abbrev pub bind_decision : Kind → Checked → ClientState → Pdu → Act × ClientState
bind_decision k (Refused status) s p = (act.Refuse (response p status []), s)
bind_decision k (Granted i version) s p = (act.Bind k i (response p ESME_ROK (bind_answer version)), bound_state k)

-- a request that the account's rules bar is answered by a response with a header alone
abbrev pub request_decision : Option ℕ → ClientState → Pdu → Act × ClientState
request_decision None s p = (act.Forward, s)
request_decision (Some status) s p = (act.Answer (response p status []), s)

-- by the account that the session is bound by, if it is by one
abbrev pub client_decision : ClientCell → List Login → Option ℕ → ClientState → Pdu → Act × ClientState
client_decision (checks k) accounts account s p = bind_decision k (check_bind accounts p.body) s p
client_decision (answer status) accounts account s p = (act.Answer (response p status []), s)
client_decision nack accounts account s p = (act.Answer (unknown p.number), s)
client_decision forward accounts account s p = request_decision (ruled_out (rules_of accounts account) p) s p
client_decision message_answer accounts account s p = (act.MoAnswer p.number, s)
client_decision leave accounts account s p = (act.Leave (response p ESME_ROK []), Ended)
client_decision closed accounts account s p = (act.Closed, Ended)
client_decision ignore accounts account s p = (act.Ignore, s)

-- what a session in a state does with a PDU
abbrev pub client_decides : List Login → Option ℕ → ClientState → Pdu → Act × ClientState
client_decides accounts account s p = client_decision (client_cell (client_row p.command) s) accounts account s p

-- the account that a session is bound by after an act: a bind's alone changes it
abbrev pub account_after : Act → Option ℕ → Option ℕ
account_after (act.Bind k i p) account = Some i
account_after (act.Answer p) account = account
account_after (act.Refuse p) account = account
account_after act.Forward account = account
account_after (act.MoAnswer number) account = account
account_after (act.Leave p) account = account
account_after (act.Hangup p) account = account
account_after act.Closed account = account
account_after act.Ignore account = account

-- a bind that succeeds, whose answer is all that takes memory
abbrev pub IsGranted : Checked → Type 0
IsGranted (Refused status) = ⊥
IsGranted (Granted i version) = Unit {0}

abbrev pub Binds : ClientCell → List Login → List ℕ → Type 0
Binds (checks k) accounts body = IsGranted (check_bind accounts body)
Binds (answer status) accounts body = ⊥
Binds nack accounts body = ⊥
Binds forward accounts body = ⊥
Binds message_answer accounts body = ⊥
Binds leave accounts body = ⊥
Binds closed accounts body = ⊥
Binds ignore accounts body = ⊥
