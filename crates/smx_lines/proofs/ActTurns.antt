-- What comes of a session's act, by its kind.
use Rattle.std.proofs.Common.{◌≡◌, ◌++◌, ℕ, List, [], sym, subst}
use Rattle.smx_pdu.specs.declared.pdu.Pdu.{Pdu}
use Rattle.smx_session.specs.declared.kind.Kind.{Kind}
use Rattle.smx_session.specs.declared.act.Act.{Act}
use Rattle.smx_session.specs.declared.act.Act.TheVariants as act
use Rattle.smx_session.specs.declared.up_act.UpAct.{UpAct}
use Rattle.smx_session.specs.declared.up_act.UpAct.TheVariants as up
use Rattle.smx_lines.specs.declared.state.State.{State}
use Rattle.smx_lines.specs.Texts.{pdu_line, to_client, down_line, up_lane}
use Rattle.smx_lines.specs.Relay.{Relay, going_on}
use Rattle.smx_lines.specs.Messages.{answer_turn, leave_turn, message_turn}
use Rattle.smx_lines.specs.ClientTurn.{client_act, followed_by, forward, hang_up}
use Rattle.smx_lines.specs.LaneLinks.{lower_lane}
use Rattle.smx_lines.specs.CentreTurn.{centre_act, to_lane}
use Rattle.smx_lines.specs.States.{StandsFor, TurnLeaves}

-- ---- clients

client_by : (c : ℕ) (p : Pdu) (a x : Act) (s : Relay) (state : State) (text : List ℕ) → a ≡ x → TurnLeaves (client_act c p x s) state text → TurnLeaves (client_act c p a s) state text
client_by c p a x s state text is turned = subst (λ (y : Act). TurnLeaves (client_act c p y s) state text) (sym is) turned

pub client_answers : (c : ℕ) (p : Pdu) (a : Act) (answer : Pdu) (s : Relay) (state : State) (text : List ℕ) → a ≡ act.Answer answer → StandsFor state s → text ≡ pdu_line (to_client c) answer → TurnLeaves (client_act c p a s) state text
unfolding client_act
client_answers c p a answer s state text is agrees e = client_by c p a (act.Answer answer) s state text is (record { text = e; left = agrees })

pub client_binds : (c : ℕ) (p : Pdu) (a : Act) (kind : Kind) (account : ℕ) (answer : Pdu) (s : Relay) (state : State) (text : List ℕ) → a ≡ act.Bind kind account answer → StandsFor state s → text ≡ pdu_line (to_client c) answer → TurnLeaves (client_act c p a s) state text
unfolding client_act
client_binds c p a kind account answer s state text is agrees e = client_by c p a (act.Bind kind account answer) s state text is (record { text = e; left = agrees })

pub client_refuses : (c : ℕ) (p : Pdu) (a : Act) (answer : Pdu) (s : Relay) (state : State) (text : List ℕ) → a ≡ act.Refuse answer → StandsFor state s → text ≡ pdu_line (to_client c) answer → TurnLeaves (client_act c p a s) state text
unfolding client_act
client_refuses c p a answer s state text is agrees e = client_by c p a (act.Refuse answer) s state text is (record { text = e; left = agrees })

pub client_forwards : (c : ℕ) (p : Pdu) (a : Act) (s : Relay) (state : State) (text : List ℕ) → a ≡ act.Forward → TurnLeaves (forward c p s) state text → TurnLeaves (client_act c p a s) state text
unfolding client_act
client_forwards c p a s state text is turned = client_by c p a act.Forward s state text is turned

pub client_leaves : (c : ℕ) (p : Pdu) (a : Act) (answer : Pdu) (s : Relay) (state : State) (text : List ℕ) → a ≡ act.Leave answer → TurnLeaves (followed_by (pdu_line (to_client c) answer, s) (leave_turn c)) state text → TurnLeaves (client_act c p a s) state text
unfolding client_act
client_leaves c p a answer s state text is turned = client_by c p a (act.Leave answer) s state text is turned

pub client_hung_up : (c : ℕ) (p : Pdu) (a : Act) (answer : Pdu) (s : Relay) (state : State) (text : List ℕ) → a ≡ act.Hangup answer → TurnLeaves (hang_up c answer s) state text → TurnLeaves (client_act c p a s) state text
unfolding client_act
client_hung_up c p a answer s state text is turned = client_by c p a (act.Hangup answer) s state text is turned

pub client_answers_message : (c : ℕ) (p : Pdu) (a : Act) (number : ℕ) (s : Relay) (state : State) (text : List ℕ) → a ≡ act.MoAnswer number → TurnLeaves (answer_turn c p s) state text → TurnLeaves (client_act c p a s) state text
unfolding client_act
client_answers_message c p a number s state text is turned = client_by c p a (act.MoAnswer number) s state text is turned

pub client_closed : (c : ℕ) (p : Pdu) (a : Act) (s : Relay) (state : State) (text : List ℕ) → a ≡ act.Closed → TurnLeaves (leave_turn c s) state text → TurnLeaves (client_act c p a s) state text
unfolding client_act
client_closed c p a s state text is turned = client_by c p a act.Closed s state text is turned

pub client_ignored : (c : ℕ) (p : Pdu) (a : Act) (s : Relay) (state : State) (text : List ℕ) → a ≡ act.Ignore → StandsFor state s → text ≡ [] → TurnLeaves (client_act c p a s) state text
unfolding client_act
client_ignored c p a s state text is agrees e = client_by c p a act.Ignore s state text is (record { text = e; left = agrees })

-- ---- the centre

centre_by : (i : ℕ) (p : Pdu) (a x : UpAct) (s : Relay) (state : State) (text : List ℕ) → a ≡ x → TurnLeaves (centre_act i p x s) state text → TurnLeaves (centre_act i p a s) state text
centre_by i p a x s state text is turned = subst (λ (y : UpAct). TurnLeaves (centre_act i p y s) state text) (sym is) turned

pub centre_answers : (i : ℕ) (p : Pdu) (a : UpAct) (answer : Pdu) (s : Relay) (state : State) (text : List ℕ) → a ≡ up.Answer answer → StandsFor state s → text ≡ pdu_line (up_lane i) answer → TurnLeaves (centre_act i p a s) state text
unfolding centre_act
centre_answers i p a answer s state text is agrees e = centre_by i p a (up.Answer answer) s state text is (record { text = e; left = agrees })

pub centre_leaves : (i : ℕ) (p : Pdu) (a : UpAct) (answer : Pdu) (s : Relay) (state : State) (text : List ℕ) → a ≡ up.Leave answer → StandsFor state (going_on s i lower_lane) → text ≡ pdu_line (up_lane i) answer ++ down_line i → TurnLeaves (centre_act i p a s) state text
unfolding centre_act
centre_leaves i p a answer s state text is agrees e = centre_by i p a (up.Leave answer) s state text is (record { text = e; left = agrees })

pub centre_messages : (i : ℕ) (p : Pdu) (a : UpAct) (s : Relay) (state : State) (text : List ℕ) → a ≡ up.Mo → TurnLeaves (message_turn i p s) state text → TurnLeaves (centre_act i p a s) state text
unfolding centre_act
centre_messages i p a s state text is turned = centre_by i p a up.Mo s state text is turned

pub centre_up : (i : ℕ) (p : Pdu) (a : UpAct) (s : Relay) (state : State) (text : List ℕ) → a ≡ up.Up → StandsFor state s → text ≡ [] → TurnLeaves (centre_act i p a s) state text
unfolding centre_act
centre_up i p a s state text is agrees e = centre_by i p a up.Up s state text is (record { text = e; left = agrees })

pub centre_failed : (i : ℕ) (p : Pdu) (a : UpAct) (status : ℕ) (s : Relay) (state : State) (text : List ℕ) → a ≡ up.Failed status → StandsFor state (going_on s i lower_lane) → text ≡ down_line i → TurnLeaves (centre_act i p a s) state text
unfolding centre_act
centre_failed i p a status s state text is agrees e = centre_by i p a (up.Failed status) s state text is (record { text = e; left = agrees })

pub centre_closed : (i : ℕ) (p : Pdu) (a : UpAct) (s : Relay) (state : State) (text : List ℕ) → a ≡ up.Closed → StandsFor state (going_on s i lower_lane) → text ≡ down_line i → TurnLeaves (centre_act i p a s) state text
unfolding centre_act
centre_closed i p a s state text is agrees e = centre_by i p a up.Closed s state text is (record { text = e; left = agrees })

pub centre_ignored : (i : ℕ) (p : Pdu) (a : UpAct) (s : Relay) (state : State) (text : List ℕ) → a ≡ up.Ignore → StandsFor state s → text ≡ [] → TurnLeaves (centre_act i p a s) state text
unfolding centre_act
centre_ignored i p a s state text is agrees e = centre_by i p a up.Ignore s state text is (record { text = e; left = agrees })

pub centre_to_lane : (i : ℕ) (p : Pdu) (a : UpAct) (s : Relay) (state : State) (text : List ℕ) → a ≡ up.ToLane → TurnLeaves (to_lane i p s) state text → TurnLeaves (centre_act i p a s) state text
unfolding centre_act
centre_to_lane i p a s state text is turned = centre_by i p a up.ToLane s state text is turned
