-- Octets of the centre, by where their turn ends.
use Rattle.std.proofs.Common.{◌≡◌, ◌++◌, ℕ, Bool, true, false, List, Some, None, refl, sym, ap, subst}
use Rattle.std.specs.Global.{Vec}
use Rattle.smx_pdu.specs.declared.pdu.Pdu.{Pdu}
use Rattle.smx_frame.specs.Stream.{Stream}
use Rattle.smx_lines.specs.declared.state.State.{State}
use Rattle.smx_lines.specs.Texts.{down_line}
use Rattle.smx_lines.specs.Links.{CentreLink, Receives, has_failed}
use Rattle.smx_lines.specs.LaneLinks.{with_centre, give_up_lane, is_up_at}
use Rattle.smx_lines.proofs.LinkTurns.{GaveUp}
use Rattle.smx_lines.specs.declared.state.LinkedLane.{LinkedLane}
use Rattle.smx_lines.specs.Relay.{Relay, going_on, has_lane, lane_at}
use Rattle.smx_lines.specs.ClientTurn.{each_pdu, followed_by}
use Rattle.smx_lines.specs.CentreTurn.{BackTurn, OnUp, centre_end, centre_pdu}
use Rattle.smx_lines.specs.States.{StandsFor, MayPrint, TurnLeaves}
use Rattle.smx_lines.proofs.Turning.{turned_then}
use Rattle.smx_lines.proofs.Links.{IsCentre, centred}

pub back_nowhere : (s : Relay) (i : ℕ) (octets : List ℕ) (new : State) → has_lane s i ≡ false → MayPrint (BackTurn s i octets) new None
unfolding BackTurn
back_nowhere s i octets new none = (None, rw none refl, tt)

pub back_down : (s : Relay) (i : ℕ) (octets : List ℕ) (state : State) (text : Vec ℕ) → has_lane s i ≡ true → is_up_at s i ≡ false → StandsFor state s → text.items ≡ down_line i → MayPrint (BackTurn s i octets) state (Some text)
unfolding BackTurn
back_down s i octets state text at down a e = (Some (down_line i, s), rw (at, down) refl, record { text = e; left = a })

-- what was decided and printed before what was taken fails
abbrev pub decided : Relay → ℕ → CentreLink → List Pdu → Stream → List ℕ × Relay
decided s i k ps stream = followed_by (each_pdu (centre_pdu i) (with_centre s i (record k { stream = stream })) ps) (centre_end i (has_failed stream))

back_given_up : (s : Relay) (i : ℕ) (octets : List ℕ) (k : CentreLink) (ps : List Pdu) (stream : Stream) (mid new : State) (text : List ℕ) → Receives k.stream octets ps stream → TurnLeaves (decided s i k ps stream) mid text → ((t : Relay) → StandsFor mid t → GaveUp new t i)
    → (x : List ℕ × Relay) × OnUp s i octets k (Some x) × TurnLeaves x new text
back_given_up s i octets k ps stream mid new text received turned gives =
    let y = decided s i k ps stream in
    let gave = gives y.1 turned.left in
    ((y.0, going_on y.1 i (give_up_lane gave.0)), (ps, stream, received, (gave.0, gave.1, refl)), record { text = turned.text; left = gave.2 })

pub back_up : (s : Relay) (i : ℕ) (octets : List ℕ) (k : CentreLink) (ps : List Pdu) (stream : Stream) (mid new : State) (text : Vec ℕ) → has_lane s i ≡ true → is_up_at s i ≡ true → k ≡ (lane_at s i).link → Receives k.stream octets ps stream
    → TurnLeaves (decided s i k ps stream) mid text.items → ((t : Relay) → StandsFor mid t → GaveUp new t i) → MayPrint (BackTurn s i octets) new (Some text)
unfolding BackTurn
back_up s i octets k ps stream mid new text at up link received turned gives =
    let x = back_given_up s i octets k ps stream mid new text.items received turned gives in
    (Some x.0, rw (at, up, ← link) x.1, x.2)

-- the link's stream went on
pub streamed_up : (old mid : State) (s : Relay) (i : ℕ) (k : LinkedLane) (after : CentreLink) → StandsFor old s → IsCentre old mid i k after → after.session ≡ k.link.session → StandsFor mid (with_centre s i (record k.link { stream = after.stream }))
streamed_up old mid s i k after a is same =
    let whole : after ≡ record k.link { stream = after.stream } = ap (λ x. record { session = x; stream = after.stream }) same in
    subst (λ (l : CentreLink). StandsFor mid (with_centre s i l)) whole (centred old mid s i k after a is)

-- each PDU's turn, and then the end's
pub back_turns : (s : Relay) (i : ℕ) (ps : List Pdu) (b failed : Bool) (mid last new : State) (text more all : List ℕ) → StandsFor mid s → ((t : Relay) → StandsFor mid t → TurnLeaves (each_pdu (centre_pdu i) t ps) last text) → ((t : Relay) → StandsFor last t → TurnLeaves (centre_end i b t) new more) → b ≡ failed → all ≡ text ++ more
    → TurnLeaves (followed_by (each_pdu (centre_pdu i) s ps) (centre_end i failed)) new all
back_turns s i ps b failed mid last new text more all a turns ends is e =
    subst (λ (t : List ℕ). TurnLeaves (followed_by (each_pdu (centre_pdu i) s ps) (centre_end i failed)) new t) (sym e)
    (subst (λ (f : Bool). TurnLeaves (followed_by (each_pdu (centre_pdu i) s ps) (centre_end i f)) new (text ++ more)) is (turned_then (each_pdu (centre_pdu i) s ps) (centre_end i b) last new text more (turns s a) ends))
