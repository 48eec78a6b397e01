-- What the session with a centre does with each PDU in each state (SMPP 3.4, sections 2.2, 2.3
-- and 4).
use Rattle.std.specs.Prelude.{ℕ, ◌+◌, [], ◌∷◌, ◌&&◌, nat_le, ◌==◌, if◌then◌else◌}
use Rattle.smx_pdu.specs.declared.pdu.Pdu.{Pdu}
use Rattle.smx_pdu.specs.declared.command.TheConstants.{BIND_RECEIVER, BIND_TRANSMITTER, BIND_TRANSCEIVER, QUERY_SM, SUBMIT_SM, DELIVER_SM, UNBIND, REPLACE_SM, CANCEL_SM, OUTBIND, ENQUIRE_LINK, SUBMIT_MULTI, ALERT_NOTIFICATION, DATA_SM, GENERIC_NACK, RESPONSE}
use Rattle.smx_pdu.specs.declared.status.TheConstants.{ESME_ROK, ESME_RINVBNDSTS}
use Rattle.smx_session.specs.declared.upstream_state.UpstreamState.{UpstreamState}
use Rattle.smx_session.specs.declared.upstream_state.UpstreamState.TheVariants.{Binding, Bound, Unbinding, Ended}
use Rattle.smx_session.specs.declared.upstream_row.UpstreamRow.{UpstreamRow}
use Rattle.smx_session.specs.declared.upstream_row.UpstreamRow.TheVariants as row
use Rattle.smx_session.specs.declared.up_act.UpAct.{UpAct}
use Rattle.smx_session.specs.declared.up_act.UpAct.TheVariants as act
use Rattle.smx_pdu.specs.Answers.{response, unknown}
use Rattle.smx_pdu.specs.Fields.{bind_fields, all_octets}
use Rattle.smx_pdu.specs.Reading.{in_order}
use Rattle.smx_session.specs.declared.kind.Kind.{Kind}
use Rattle.smx_session.specs.declared.kind.Kind.TheVariants.{Tx, Rx, Trx}
use Rattle.smx_session.specs.Login.{OwnBind}
use Rattle.smx_session.specs.Binds.{own_bind, bind_command}
use Rattle.smx_session.specs.ClientTable.{is_among}

-- the numbers of the proxy's own bind, enquire_link and unbind
abbrev pub bind_number : ℕ
bind_number = 0x7FFF_FFFD

abbrev pub enquiry_number : ℕ
enquiry_number = 0x7FFF_FFFE

abbrev pub unbind_number : ℕ
unbind_number = 0x7FFF_FFFF

-- the proxy's own bind
abbrev pub own_bind_pdu : OwnBind → Pdu
own_bind_pdu b = record {
  command = bind_command b.kind;
  status = ESME_ROK;
  number = bind_number;
  body = all_octets bind_fields (in_order (own_bind b));
}

-- a message from the centre: over a transmitter's bind there is none (2.1.1, 4.6)
abbrev pub message_row : Kind → UpstreamRow
message_row Tx = row.MessageToTransmitter
message_row Rx = row.Message
message_row Trx = row.Message

-- the rows of the table, by the kind of the proxy's bind, a command and a number
abbrev pub upstream_row : Kind → ℕ → ℕ → UpstreamRow
upstream_row kind command number =
    if (command == RESPONSE + bind_command kind) && (number == bind_number) then row.BindAnswer
    else if (command == GENERIC_NACK) && (number == bind_number) then row.BindNack
    else if (command == GENERIC_NACK) && (number == enquiry_number) then row.EnquiryAnswer
    else if command == RESPONSE + ENQUIRE_LINK then row.EnquiryAnswer
    else if (command == GENERIC_NACK) && (number == unbind_number) then row.UnbindAnswer
    else if command == RESPONSE + UNBIND then row.UnbindAnswer
    else if is_among ((RESPONSE + BIND_RECEIVER) ∷ (RESPONSE + BIND_TRANSMITTER) ∷ (RESPONSE + BIND_TRANSCEIVER) ∷ []) command then row.OtherBindAnswer
    else if nat_le RESPONSE command then row.OtherResponse
    else if is_among (DELIVER_SM ∷ DATA_SM ∷ []) command then message_row kind
    else if command == ENQUIRE_LINK then row.EnquireLink
    else if command == UNBIND then row.Unbind
    else if is_among (BIND_RECEIVER ∷ BIND_TRANSMITTER ∷ BIND_TRANSCEIVER ∷ QUERY_SM ∷ SUBMIT_SM ∷ REPLACE_SM ∷ CANCEL_SM ∷ SUBMIT_MULTI ∷ []) command then row.OtherRequest
    else if is_among (OUTBIND ∷ ALERT_NOTIFICATION ∷ []) command then row.Unanswered
    else row.Unknown

-- what a cell of the table says
pub data UpstreamCell : Type 0 where
  -- Up and Bound where the status is 0, else Failed and Ended
  bind_answer : UpstreamCell
  -- Failed and Ended
  failed : UpstreamCell
  -- ignored, and the enquiry is answered
  answered : UpstreamCell
  -- Closed and Ended
  closed : UpstreamCell
  to_lane : UpstreamCell
  mo : UpstreamCell
  -- a response with a header alone
  answer : ℕ → UpstreamCell
  -- the response to unbind, and then Ended
  leave : UpstreamCell
  -- generic_nack of an unknown command
  nack : UpstreamCell
  ignore : UpstreamCell

-- the table, a row after another, each by its states
abbrev pub upstream_cell : UpstreamRow → UpstreamState → UpstreamCell
-- the answer to the proxy's bind (4.1.6)
upstream_cell row.BindAnswer Binding = bind_answer
upstream_cell row.BindAnswer Bound = ignore
upstream_cell row.BindAnswer Unbinding = ignore
upstream_cell row.BindAnswer Ended = ignore
-- its refusal (4.3)
upstream_cell row.BindNack Binding = failed
upstream_cell row.BindNack Bound = ignore
upstream_cell row.BindNack Unbinding = ignore
upstream_cell row.BindNack Ended = ignore
-- the answer to the proxy's enquire_link (4.11.2, 4.3)
upstream_cell row.EnquiryAnswer Binding = ignore
upstream_cell row.EnquiryAnswer Bound = answered
upstream_cell row.EnquiryAnswer Unbinding = ignore
upstream_cell row.EnquiryAnswer Ended = ignore
-- the answer to the proxy's unbind (4.2.2, 4.3)
upstream_cell row.UnbindAnswer Binding = ignore
upstream_cell row.UnbindAnswer Bound = ignore
upstream_cell row.UnbindAnswer Unbinding = closed
upstream_cell row.UnbindAnswer Ended = ignore
-- answers to binds that the proxy didn't send
upstream_cell row.OtherBindAnswer Binding = ignore
upstream_cell row.OtherBindAnswer Bound = ignore
upstream_cell row.OtherBindAnswer Unbinding = ignore
upstream_cell row.OtherBindAnswer Ended = ignore
-- any other response goes to the lane that sent the request, which it names by its number (5.1.4)
upstream_cell row.OtherResponse Binding = ignore
upstream_cell row.OtherResponse Bound = to_lane
upstream_cell row.OtherResponse Unbinding = to_lane
upstream_cell row.OtherResponse Ended = ignore
-- messages from the centre (4.6, 4.7)
upstream_cell row.Message Binding = answer ESME_RINVBNDSTS
upstream_cell row.Message Bound = mo
upstream_cell row.Message Unbinding = answer ESME_RINVBNDSTS
upstream_cell row.Message Ended = answer ESME_RINVBNDSTS
-- the same over a transmitter's bind
upstream_cell row.MessageToTransmitter Binding = answer ESME_RINVBNDSTS
upstream_cell row.MessageToTransmitter Bound = answer ESME_RINVBNDSTS
upstream_cell row.MessageToTransmitter Unbinding = answer ESME_RINVBNDSTS
upstream_cell row.MessageToTransmitter Ended = answer ESME_RINVBNDSTS
-- enquire_link (4.11)
upstream_cell row.EnquireLink Binding = answer ESME_ROK
upstream_cell row.EnquireLink Bound = answer ESME_ROK
upstream_cell row.EnquireLink Unbinding = answer ESME_ROK
upstream_cell row.EnquireLink Ended = answer ESME_RINVBNDSTS
-- unbind (4.2). This project's choice: before the bind is answered too
upstream_cell row.Unbind Binding = leave
upstream_cell row.Unbind Bound = leave
upstream_cell row.Unbind Unbinding = leave
upstream_cell row.Unbind Ended = answer ESME_RINVBNDSTS
-- requests that go from an ESME to a centre only (4.1, 4.4, 4.5, 4.8 to 4.10)
upstream_cell row.OtherRequest Binding = answer ESME_RINVBNDSTS
upstream_cell row.OtherRequest Bound = answer ESME_RINVBNDSTS
upstream_cell row.OtherRequest Unbinding = answer ESME_RINVBNDSTS
upstream_cell row.OtherRequest Ended = answer ESME_RINVBNDSTS
-- outbind and alert_notification (4.1.7, 4.12) have no response
upstream_cell row.Unanswered Binding = ignore
upstream_cell row.Unanswered Bound = ignore
upstream_cell row.Unanswered Unbinding = ignore
upstream_cell row.Unanswered Ended = ignore
-- any other command (4.3)
upstream_cell row.Unknown Binding = nack
upstream_cell row.Unknown Bound = nack
upstream_cell row.Unknown Unbinding = nack
upstream_cell row.Unknown Ended = nack

-- an act, and the state after it
abbrev pub upstream_decision : UpstreamCell → UpstreamState → Pdu → UpAct × UpstreamState
upstream_decision bind_answer s p = if p.status == ESME_ROK then (act.Up, Bound) else (act.Failed p.status, Ended)
upstream_decision failed s p = (act.Failed p.status, Ended)
upstream_decision answered s p = (act.Ignore, s)
upstream_decision closed s p = (act.Closed, Ended)
upstream_decision to_lane s p = (act.ToLane, s)
upstream_decision mo s p = (act.Mo, s)
upstream_decision (answer status) s p = (act.Answer (response p status []), s)
upstream_decision leave s p = (act.Leave (response p ESME_ROK []), Ended)
upstream_decision nack s p = (act.Answer (unknown p.number), s)
upstream_decision ignore s p = (act.Ignore, s)
