-- Octets of a client: what its session decides of each PDU, and what comes of that.
use Rattle.std.specs.Prelude.{◌≡◌, ℕ, ◌++◌, Bool, true, false, List, [], ◌∷◌, ◌+◌, Option, Some, None}
use Rattle.smx_pdu.specs.declared.pdu.Pdu.{Pdu}
use Rattle.smx_frame.specs.Stream.{Stream}
use Rattle.smx_session.specs.Login.{Login}
use Rattle.smx_session.specs.declared.act.Act.{Act}
use Rattle.smx_session.specs.declared.act.Act.TheVariants.{Answer, Bind, Refuse, Forward, MoAnswer, Leave, Hangup, Closed, Ignore}
use Rattle.smx_session.specs.declared.client_state.ClientState.{ClientState}
use Rattle.smx_pdu.specs.Answers.{nack_of_undecoded}
use Rattle.smx_session.specs.ClientTable.{client_decides, account_after}
use Rattle.smx_history.specs.declared.request.Request.{Request}
use Rattle.smx_lines.specs.Texts.{pdu_line, to_client, closed_line}
use Rattle.smx_lines.specs.Links.{ClientLink, Session, at_end, Receives, has_failed}
use Rattle.smx_lines.specs.declared.state.LinkedClient.{LinkedClient}
use Rattle.smx_lines.specs.Relay.{Relay, client_of, client_at, lane_for, in_turn_at, request_of, with_link}
use Rattle.smx_lines.specs.Messages.{answer_turn, leave_turn}

-- one turn, and then another
abbrev pub followed_by : List ℕ × Relay → (Relay → List ℕ × Relay) → List ℕ × Relay
followed_by x turn = (x.0 ++ (turn x.1).0, (turn x.1).1)

-- a turn for each PDU, in their order
abbrev pub each_pdu : (Pdu → Relay → List ℕ × Relay) → Relay → List Pdu → List ℕ × Relay
each_pdu turn s [] = ([], s)
each_pdu turn s (p ∷ ps) = followed_by (turn p s) (λ t. each_pdu turn t ps)

abbrev pub offer_at : Relay → ℕ → ℕ → Option Request → List ℕ × Relay
offer_at s c last None = ([], s)
offer_at s c last (Some r) = in_turn_at s r (lane_for s c last)

-- a client's request goes to the first lane that accepts it
unfoldable pub forward : ℕ → Pdu → Relay → List ℕ × Relay
forward c p s = offer_at s c (client_at s c).last (request_of c ((client_at s c).last + 1) p)

abbrev pub answer_client : ℕ → Pdu → Relay → List ℕ × Relay
answer_client c answer s = (pdu_line (to_client c) answer, s)

-- a client that is hung up leaves
abbrev pub hang_up : ℕ → Pdu → Relay → List ℕ × Relay
hang_up c answer s = followed_by (pdu_line (to_client c) answer ++ closed_line c, s) (leave_turn c)

-- what comes of a session's act
unfoldable pub client_act : ℕ → Pdu → Act → Relay → List ℕ × Relay
client_act c p (Answer answer) s = answer_client c answer s
client_act c p (Bind kind account answer) s = answer_client c answer s
client_act c p (Refuse answer) s = answer_client c answer s
client_act c p Forward s = forward c p s
client_act c p (MoAnswer number) s = answer_turn c p s
client_act c p (Leave answer) s = followed_by (answer_client c answer s) (leave_turn c)
client_act c p (Hangup answer) s = hang_up c answer s
client_act c p Closed s = leave_turn c s
client_act c p Ignore s = ([], s)

-- what a session makes of a PDU
abbrev pub session_decision : Session → Act × ClientState → Act × Session
session_decision session x = (x.0, record { state = x.1; account = account_after x.0 session.account })

unfoldable pub decides : List Login → Session → Pdu → Act × Session
decides accounts session p = session_decision session (client_decides accounts session.account session.state p)

abbrev pub client_pdu_on : ℕ → Pdu → ClientLink → Relay → List ℕ × Relay
client_pdu_on c p k s = client_act c p (decides s.accounts k.session p).0 (with_link s c (record k { session = (decides s.accounts k.session p).1 }))

-- a PDU of a client
unfoldable pub client_pdu : ℕ → Pdu → Relay → List ℕ × Relay
client_pdu c p s = client_pdu_on c p (client_at s c).link s

-- at a bad length the client is hung up
unfoldable pub client_end : ℕ → Bool → Relay → List ℕ × Relay
client_end c false s = ([], s)
client_end c true s = hang_up c nack_of_undecoded (with_link s c (at_end (client_at s c).link))

-- each PDU that the octets complete is decided
abbrev pub OnOpen : Relay → ℕ → List ℕ → ClientLink → Option (List ℕ × Relay) → Type 0
OnOpen s c octets k x =
    (ps : List Pdu) × (stream : Stream) × Receives k.stream octets ps stream
    × (x ≡ Some (followed_by (each_pdu (client_pdu c) (with_link s c (record k { stream = stream })) ps) (client_end c (has_failed stream))))

-- a client that was hung up is closed
abbrev pub OnStream : Relay → ℕ → List ℕ → ClientLink → Bool → Option (List ℕ × Relay) → Type 0
OnStream s c octets k true x = x ≡ Some (closed_line c, s)
OnStream s c octets k false x = OnOpen s c octets k x

-- whether there is such a client
abbrev pub OnClient : Relay → ℕ → List ℕ → Option LinkedClient → Option (List ℕ × Relay) → Type 0
OnClient s c octets None x = x ≡ None
OnClient s c octets (Some k) x = OnStream s c octets k.link (has_failed k.link.stream) x

-- octets of a client
unfoldable pub InTurn : Relay → ℕ → List ℕ → Option (List ℕ × Relay) → Type 0
InTurn s c octets x = OnClient s c octets (client_of s.clients c) x
