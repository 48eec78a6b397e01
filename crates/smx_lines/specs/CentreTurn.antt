-- Octets of the centre on a lane: what the lane's session decides of each PDU, and what comes of that.
use Rattle.std.specs.Prelude.{◌≡◌, ℕ, ◌++◌, Bool, true, false, List, [], Option, Some, None, if◌then◌else◌}
use Rattle.smx_pdu.specs.declared.pdu.Pdu.{Pdu}
use Rattle.smx_frame.specs.Stream.{Stream}
use Rattle.smx_session.specs.declared.up_act.UpAct.{UpAct}
use Rattle.smx_session.specs.declared.up_act.UpAct.TheVariants.{Up, Failed, ToLane, Mo, Answer, Leave, Closed, Ignore}
use Rattle.smx_pdu.specs.Answers.{nack_of_undecoded}
use Rattle.smx_session.specs.Moments.{Upstream, act_on, after_pdu}
use Rattle.smx_lines.specs.Texts.{pdu_line, up_lane, down_line}
use Rattle.smx_lines.specs.Links.{CentreLink, Receives, has_failed, has_left}
use Rattle.smx_lines.specs.Relay.{Relay, going_on, has_lane, lane_at, lane_turn, back_on}
use Rattle.smx_lines.specs.LaneLinks.{with_centre, is_up_at, lower_lane, GivesUpLane}
use Rattle.smx_lines.specs.Messages.{message_turn}
use Rattle.smx_lines.specs.ClientTurn.{followed_by, each_pdu}

-- what a session makes of a PDU, and the session after it
unfoldable pub act_of : Upstream → Pdu → UpAct
act_of u p = act_on u p

unfoldable pub session_after : Upstream → Pdu → Upstream
session_after u p = after_pdu u p 0

abbrev pub answer_centre : ℕ → Pdu → List ℕ
answer_centre i answer = pdu_line (up_lane i) answer

-- a response goes to the lane
abbrev pub to_lane : ℕ → Pdu → Relay → List ℕ × Relay
to_lane i p s = lane_turn s i (back_on p)

-- the session has ended, and so the link is lost
abbrev pub lose_lane : ℕ → List ℕ → Relay → List ℕ × Relay
lose_lane i said s = (said ++ down_line i, going_on s i lower_lane)

-- what comes of a session's act: a response goes to the lane, and a message to a client
unfoldable pub centre_act : ℕ → Pdu → UpAct → Relay → List ℕ × Relay
centre_act i p Up s = ([], s)
centre_act i p (Failed status) s = lose_lane i [] s
centre_act i p ToLane s = to_lane i p s
centre_act i p Mo s = message_turn i p s
centre_act i p (Answer answer) s = (answer_centre i answer, s)
centre_act i p (Leave answer) s = lose_lane i (answer_centre i answer) s
centre_act i p Closed s = lose_lane i [] s
centre_act i p Ignore s = ([], s)

-- a PDU on this link
abbrev pub link_pdu : ℕ → Pdu → CentreLink → Relay → List ℕ × Relay
link_pdu i p k s = centre_act i p (act_of k.session p) (with_centre s i (record k { session = session_after k.session p }))

-- a PDU of the centre; what comes after its unbind is dropped
unfoldable pub centre_pdu : ℕ → Pdu → Relay → List ℕ × Relay
centre_pdu i p s = if has_left (lane_at s i).link then ([], s) else link_pdu i p (lane_at s i).link s

-- at a bad length the link is lost, unless the centre has unbound
unfoldable pub centre_end : ℕ → Bool → Relay → List ℕ × Relay
centre_end i false s = ([], s)
centre_end i true s = if has_left (lane_at s i).link then ([], s) else lose_lane i (answer_centre i nack_of_undecoded) s

-- each PDU that the octets complete is decided
abbrev pub OnUp : Relay → ℕ → List ℕ → CentreLink → Option (List ℕ × Relay) → Type 0
OnUp s i octets k x =
    (ps : List Pdu) × (stream : Stream) × Receives k.stream octets ps stream
    × GivesUpLane i (followed_by (each_pdu (centre_pdu i) (with_centre s i (record k { stream = stream })) ps) (centre_end i (has_failed stream))) x

-- where the lane is up
abbrev pub OnCentre : Relay → ℕ → List ℕ → Bool → Option (List ℕ × Relay) → Type 0
OnCentre s i octets false x = x ≡ Some (down_line i, s)
OnCentre s i octets true x = OnUp s i octets (lane_at s i).link x

-- whether there is such a lane
abbrev pub OnIndex : Relay → ℕ → List ℕ → Bool → Option (List ℕ × Relay) → Type 0
OnIndex s i octets false x = x ≡ None
OnIndex s i octets true x = OnCentre s i octets (is_up_at s i) x

-- octets of the centre
unfoldable pub BackTurn : Relay → ℕ → List ℕ → Option (List ℕ × Relay) → Type 0
BackTurn s i octets x = OnIndex s i octets (has_lane s i) x
