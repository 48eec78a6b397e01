-- Messages of the centre: to which client they go, and how they are answered.
use Rattle.std.specs.Prelude.{ℕ, ◌++◌, Bool, true, false, List, [], codes, Option, Some, None, Result, Ok, Err}
use Rattle.std.specs.List.{flat_map}
use Rattle.std.specs.Fmt.{decimal}
use Rattle.smx_pdu.specs.declared.pdu.Pdu.{Pdu}
use Rattle.smx_pdu.specs.declared.body_fault.BodyFault.{BodyFault}
use Rattle.smx_pdu.specs.declared.status.TheConstants.{ESME_RINVCMDLEN, ESME_RMSGQFUL, ESME_RX_T_APPN}
use Rattle.smx_pdu.specs.Reading.{destination_at}
use Rattle.smx_routes.specs.declared.mo_window.Waiting.{Waiting}
use Rattle.smx_routes.specs.Window.{message_for}
use Rattle.smx_routes.specs.Routing.{client_for}
use Rattle.smx_mailbox.specs.declared.message.Unanswered.{Unanswered}
use Rattle.smx_mailbox.specs.Mailbox.{with_message, is_full, pdus_sent, after_sent, after_settling, unanswered_messages, empty_mailbox}
use Rattle.smx_lines.specs.Texts.{text_line, pdu_line, to_client, up_lane}
use Rattle.smx_pdu.specs.Answers.{refusal}
use Rattle.smx_lines.specs.Links.{ClientLink}
use Rattle.smx_lines.specs.Relay.{Relay, client_at, with_link, leave_lanes}

-- a message that no client gets is answered with a status (SMPP 3.4, section 4.6.2)
abbrev pub refuse : Relay → ℕ → Pdu → ℕ → List ℕ × Relay
refuse s i p status = (pdu_line (up_lane i) (refusal p.command status p.number), s)

-- it waits in the client's mailbox, unless that is full
abbrev pub put_with : Relay → ℕ → Pdu → ℕ → ClientLink → Bool → List ℕ × Relay
put_with s i p c k true = refuse s i p ESME_RMSGQFUL
put_with s i p c k false = (text_line (codes "mo " ++ decimal c), with_link s c (record k { mailbox = with_message (record { lane = i; pdu = p }) k.mailbox }))

unfoldable pub put_to : Relay → ℕ → Pdu → Option ℕ → List ℕ × Relay
put_to s i p None = refuse s i p ESME_RX_T_APPN
put_to s i p (Some c) = put_with s i p c (client_at s c).link (is_full (client_at s c).link.mailbox)

abbrev pub message_to : Relay → ℕ → Pdu → Result (List ℕ) BodyFault → List ℕ × Relay
message_to s i p (Ok address) = put_to s i p (client_for s.routes address)
message_to s i p (Err e) = refuse s i p ESME_RINVCMDLEN

-- a message of the centre goes to the client to which its destination is routed
unfoldable pub message_turn : ℕ → Pdu → Relay → List ℕ × Relay
message_turn i p s = message_to s i p (destination_at p.body)

abbrev pub answer_with : Relay → ℕ → Pdu → ClientLink → Option Waiting → List ℕ × Relay
answer_with s c p k None = ([], s)
answer_with s c p k (Some w) = (pdu_line (up_lane w.lane) (record p { number = w.number }), with_link s c (record k { mailbox = after_settling p.number k.mailbox }))

abbrev pub answer_on : Relay → ℕ → Pdu → ClientLink → List ℕ × Relay
answer_on s c p k = answer_with s c p k (message_for p.number p.command k.mailbox.window.waiting)

-- a client's answer to a message that waits for it goes to the message's lane, under the centre's number
unfoldable pub answer_turn : ℕ → Pdu → Relay → List ℕ × Relay
answer_turn c p s = answer_on s c p (client_at s c).link

-- the client has left
abbrev pub left_line : Unanswered → List ℕ
left_line u = pdu_line (up_lane u.lane) (refusal u.command ESME_RX_T_APPN u.number)

abbrev pub empty_on : ℕ → ClientLink → Relay → List ℕ × Relay
empty_on c k s = (flat_map left_line (unanswered_messages k.mailbox), with_link s c (record k { mailbox = empty_mailbox k.mailbox }))

-- a client leaves each lane, and each of its messages is answered
unfoldable pub leave_turn : ℕ → Relay → List ℕ × Relay
leave_turn c s = empty_on c (client_at s c).link (leave_lanes c s)

abbrev pub send_on : ℕ → ClientLink → Relay → List ℕ × Relay
send_on c k s = (flat_map (pdu_line (to_client c)) (pdus_sent k.mailbox.window k.mailbox.waiting), with_link s c (record k { mailbox = after_sent k.mailbox.window k.mailbox.waiting }))

-- the client is sent the messages that its window has places for
unfoldable pub send_turn : ℕ → Relay → List ℕ × Relay
send_turn c s = send_on c (client_at s c).link s
