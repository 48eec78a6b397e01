-- Octets of a client, by where their turn ends.
use Rattle.std.proofs.Common.{◌≡◌, ◌++◌, ℕ, Bool, true, false, List, Option, Some, None, refl, sym, ap, ◌∙◌, subst}
use Rattle.std.specs.Global.{Vec}
use Rattle.smx_pdu.specs.declared.pdu.Pdu.{Pdu}
use Rattle.smx_frame.specs.Stream.{Stream}
use Rattle.smx_lines.specs.declared.state.LinkedClient.{LinkedClient}
use Rattle.smx_lines.specs.declared.state.State.{State}
use Rattle.smx_lines.specs.Texts.{closed_line}
use Rattle.smx_lines.specs.Links.{ClientLink, Receives, has_failed}
use Rattle.smx_lines.specs.Relay.{Relay, client_of, with_link}
use Rattle.smx_lines.specs.ClientTurn.{InTurn, OnClient, OnStream, client_end, client_pdu, each_pdu, followed_by}
use Rattle.smx_lines.specs.States.{StandsFor, MayPrint, TurnLeaves}
use Rattle.smx_lines.proofs.Turning.{turned_then}
use Rattle.smx_lines.proofs.Links.{IsLinked, linked}

pub in_unknown : (s : Relay) (c : ℕ) (octets : List ℕ) (new : State) → client_of s.clients c ≡ None → MayPrint (InTurn s c octets) new None
unfolding InTurn
in_unknown s c octets new none = (None, rw none refl, tt)

pub in_closed : (s : Relay) (c : ℕ) (octets : List ℕ) (k : LinkedClient) (state : State) (text : Vec ℕ) → client_of s.clients c ≡ Some k → has_failed k.link.stream ≡ true → StandsFor state s → text.items ≡ closed_line c → MayPrint (InTurn s c octets) state (Some text)
unfolding InTurn
in_closed s c octets k state text known failed a e = (Some (closed_line c, s), rw (known, failed) refl, record { text = e; left = a })

pub in_open : (s : Relay) (c : ℕ) (octets : List ℕ) (k : LinkedClient) (ps : List Pdu) (stream : Stream) (state : State) (text : Vec ℕ) → client_of s.clients c ≡ Some k → has_failed k.link.stream ≡ false → Receives k.link.stream octets ps stream
    → TurnLeaves (followed_by (each_pdu (client_pdu c) (with_link s c (record k.link { stream = stream })) ps) (client_end c (has_failed stream))) state text.items → MayPrint (InTurn s c octets) state (Some text)
unfolding InTurn
in_open s c octets k ps stream state text known sound received turned =
    let y = followed_by (each_pdu (client_pdu c) (with_link s c (record k.link { stream = stream })) ps) (client_end c (has_failed stream)) in
    let here : OnStream s c octets k.link (has_failed k.link.stream) (Some y) = subst (λ b. OnStream s c octets k.link b (Some y)) (sym sound) (ps, stream, received, refl) in
    (Some y, subst (λ (o : Option LinkedClient). OnClient s c octets o (Some y)) (sym known) here, turned)

-- the link's stream went on
pub streamed : (old mid : State) (s : Relay) (c : ℕ) (k : LinkedClient) (after : ClientLink) → StandsFor old s → IsLinked old mid c k after → (after.session ≡ k.link.session) × (after.mailbox ≡ k.link.mailbox) → StandsFor mid (with_link s c (record k.link { stream = after.stream }))
streamed old mid s c k after a is same =
    let whole : after ≡ record k.link { stream = after.stream } = ap (λ x. record { session = x; stream = after.stream; mailbox = after.mailbox }) same.0 ∙ ap (λ x. record { session = k.link.session; stream = after.stream; mailbox = x }) same.1 in
    subst (λ (l : ClientLink). StandsFor mid (with_link s c l)) whole (linked old mid s c k after a is)

-- each PDU's turn, and then the end's
pub in_turns : (s : Relay) (c : ℕ) (ps : List Pdu) (b failed : Bool) (mid last new : State) (text more all : List ℕ) → StandsFor mid s → ((t : Relay) → StandsFor mid t → TurnLeaves (each_pdu (client_pdu c) t ps) last text) → ((t : Relay) → StandsFor last t → TurnLeaves (client_end c b t) new more) → b ≡ failed → all ≡ text ++ more
    → TurnLeaves (followed_by (each_pdu (client_pdu c) s ps) (client_end c failed)) new all
in_turns s c ps b failed mid last new text more all a turns ends is e =
    subst (λ (t : List ℕ). TurnLeaves (followed_by (each_pdu (client_pdu c) s ps) (client_end c failed)) new t) (sym e)
    (subst (λ (f : Bool). TurnLeaves (followed_by (each_pdu (client_pdu c) s ps) (client_end c f)) new (text ++ more)) is (turned_then (each_pdu (client_pdu c) s ps) (client_end c b) last new text more (turns s a) ends))
