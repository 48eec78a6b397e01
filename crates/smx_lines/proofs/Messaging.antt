-- Turns of messages, as turns of the whole state.
use Rattle.std.proofs.Common.{◌≡◌, ◌++◌, ℕ, Bool, true, false, List, [], sym, ◌∙◌, ap, subst, codes, Option, Some, None, Ok, Err}
use Rattle.std.specs.Prelude.{Contains}
use Rattle.std.proofs.lemmas.List.Elements.{All-contains}
use Rattle.std.specs.List.{flat_map}
use Rattle.std.specs.Fmt.{decimal}
use Rattle.smx_pdu.specs.declared.pdu.Pdu.{Pdu}
use Rattle.smx_pdu.specs.declared.body_fault.BodyFault.{BodyFault}
use Rattle.smx_pdu.specs.declared.status.TheConstants.{ESME_RINVCMDLEN, ESME_RMSGQFUL, ESME_RX_T_APPN}
use Rattle.smx_pdu.specs.Answers.{refusal}
use Rattle.smx_pdu.specs.Reading.{destination_at}
use Rattle.smx_routes.specs.declared.mo_window.Waiting.{Waiting}
use Rattle.smx_routes.specs.Window.{message_for}
use Rattle.smx_routes.specs.Routing.{Route, IsRouted, client_for}
use Rattle.smx_routes.proofs.Routed.{routed_is}
use Rattle.smx_mailbox.specs.declared.message.Unanswered.{Unanswered}
use Rattle.smx_mailbox.specs.Mailbox.{with_message, is_full, pdus_sent, after_sent, after_settling, unanswered_messages, empty_mailbox}
use Rattle.smx_lines.specs.declared.state.LinkedClient.{LinkedClient}
use Rattle.smx_lines.specs.declared.state.State.{State}
use Rattle.smx_lines.specs.Links.{ClientLink}
use Rattle.smx_lines.specs.Texts.{text_line, pdu_line, to_client, up_lane}
use Rattle.smx_lines.specs.Relay.{Relay, client_at, client_of, leave_lanes, with_link}
use Rattle.smx_lines.specs.Messages.{answer_on, answer_turn, answer_with, empty_on, leave_turn, left_line, message_turn, put_to, put_with, send_on, send_turn}
use Rattle.smx_lines.specs.States.{StandsFor, TurnLeaves, IsKnown}
use Rattle.smx_lines.proofs.Links.{IsLinked, link_is, linked, link_untouched}

-- the client's link is this from now on
gone_on : (old new : State) (s : Relay) (c : ℕ) (k : LinkedClient) (after x : ClientLink) → StandsFor old s → IsLinked old new c k after → after ≡ x → StandsFor new (with_link s c x)
gone_on old new s c k after x a is same = subst (λ (l : ClientLink). StandsFor new (with_link s c l)) same (linked old new s c k after a is)

-- the client's link stayed
link_same : (old new : State) (s : Relay) (c : ℕ) (k : LinkedClient) (after : ClientLink) → StandsFor old s → IsLinked old new c k after → after ≡ k.link → StandsFor new s
link_same old new s c k after a is same = link_untouched old new s c k a (subst (IsLinked old new c k) same is)

-- ---- a message comes

pub put_refused : (s : Relay) (i : ℕ) (p : Pdu) (state : State) (text : List ℕ) → StandsFor state s → text ≡ pdu_line (up_lane i) (refusal p.command ESME_RX_T_APPN p.number) → TurnLeaves (put_to s i p None) state text
unfolding put_to
put_refused s i p state text a e = record { text = e; left = a }

-- by the client's link, and whether its mailbox is full
put_by : (s : Relay) (i : ℕ) (p : Pdu) (c : ℕ) (k : ClientLink) (b : Bool) (state : State) (text : List ℕ) → (client_at s c).link ≡ k → is_full k.mailbox ≡ b → TurnLeaves (put_with s i p c k b) state text → TurnLeaves (put_to s i p (Some c)) state text
unfolding put_to
put_by s i p c k b state text at full turned =
    let here : TurnLeaves (put_with s i p c k (is_full k.mailbox)) state text = subst (λ x. TurnLeaves (put_with s i p c k x) state text) (sym full) turned in
    subst (λ (l : ClientLink). TurnLeaves (put_with s i p c l (is_full l.mailbox)) state text) (sym at) here

pub put_there : (old new : State) (s : Relay) (i : ℕ) (p : Pdu) (c : ℕ) (k : LinkedClient) (after : ClientLink) (text : List ℕ) → StandsFor old s → is_full k.link.mailbox ≡ false → IsLinked old new c k after
    → after ≡ record k.link { mailbox = with_message (record { lane = i; pdu = p }) k.link.mailbox } → text ≡ text_line (codes "mo " ++ decimal c) → TurnLeaves (put_to s i p (Some c)) new text
put_there old new s i p c k after text a room is same e =
    put_by s i p c k.link false new text (link_is old s c k a is.here) room (record { text = e; left = gone_on old new s c k after (record k.link { mailbox = with_message (record { lane = i; pdu = p }) k.link.mailbox }) a is same })

pub put_full : (old new : State) (s : Relay) (i : ℕ) (p : Pdu) (c : ℕ) (k : LinkedClient) (after : ClientLink) (text : List ℕ) → StandsFor old s → is_full k.link.mailbox ≡ true → IsLinked old new c k after → after ≡ k.link → text ≡ pdu_line (up_lane i) (refusal p.command ESME_RMSGQFUL p.number)
    → TurnLeaves (put_to s i p (Some c)) new text
put_full old new s i p c k after text a full is same e = put_by s i p c k.link true new text (link_is old s c k a is.here) full (record { text = e; left = link_same old new s c k after a is same })

-- the client of a route is there
pub routed_known : (state : State) (s : Relay) (address : List ℕ) (c : ℕ) → StandsFor state s → IsRouted state.routes address (Some c) → IsKnown state.clients.list.items c
routed_known state s address c a routed =
    let r = routed.0 in
    let there : Contains s.routes r = subst (λ (rs : List Route). Contains rs r) a.routes.routes_are routed.1.there in
    let known : IsKnown s.clients r.client = All-contains (λ (x : Route). IsKnown s.clients x.client) s.routes r a.routes.known there in
    subst (λ (cs : List (Option LinkedClient)). IsKnown cs c) (sym a.clients) (subst (IsKnown s.clients) routed.2 known)

pub message_unread : (s : Relay) (i : ℕ) (p : Pdu) (fault : BodyFault) (state : State) (text : List ℕ) → destination_at p.body ≡ Err fault → StandsFor state s → text ≡ pdu_line (up_lane i) (refusal p.command ESME_RINVCMDLEN p.number) → TurnLeaves (message_turn i p s) state text
unfolding message_turn
message_unread s i p fault state text at a e = rw at (record { text = e; left = a })

pub message_read : (s : Relay) (i : ℕ) (p : Pdu) (address : List ℕ) (rs : List Route) (o : Option ℕ) (state : State) (text : List ℕ) → destination_at p.body ≡ Ok address → IsRouted rs address o → rs ≡ s.routes → TurnLeaves (put_to s i p o) state text → TurnLeaves (message_turn i p s) state text
unfolding message_turn
message_read s i p address rs o state text at is same turned =
    let goes : o ≡ client_for s.routes address = routed_is rs address o is ∙ ap (λ (xs : List Route). client_for xs address) same in
    rw at (subst (λ (x : Option ℕ). TurnLeaves (put_to s i p x) state text) goes turned)

-- ---- a client answers

-- by the client's link, and the message that waits
answer_by : (s : Relay) (c : ℕ) (p : Pdu) (k : ClientLink) (o : Option Waiting) (state : State) (text : List ℕ) → (client_at s c).link ≡ k → message_for p.number p.command k.mailbox.window.waiting ≡ o → TurnLeaves (answer_with s c p k o) state text → TurnLeaves (answer_turn c p s) state text
unfolding answer_turn
answer_by s c p k o state text at found turned =
    let here : TurnLeaves (answer_on s c p k) state text = subst (λ (x : Option Waiting). TurnLeaves (answer_with s c p k x) state text) (sym found) turned in
    subst (λ (l : ClientLink). TurnLeaves (answer_on s c p l) state text) (sym at) here

pub answer_dropped : (old new : State) (s : Relay) (c : ℕ) (p : Pdu) (k : LinkedClient) (after : ClientLink) (text : List ℕ) → StandsFor old s → message_for p.number p.command k.link.mailbox.window.waiting ≡ None → IsLinked old new c k after → after ≡ k.link → text ≡ [] → TurnLeaves (answer_turn c p s) new text
answer_dropped old new s c p k after text a none is same e = answer_by s c p k.link None new text (link_is old s c k a is.here) none (record { text = e; left = link_same old new s c k after a is same })

pub answer_passed : (old new : State) (s : Relay) (c : ℕ) (p : Pdu) (k : LinkedClient) (after : ClientLink) (w : Waiting) (lane number : ℕ) (text : List ℕ) → StandsFor old s → message_for p.number p.command k.link.mailbox.window.waiting ≡ Some w → IsLinked old new c k after
    → after ≡ record k.link { mailbox = after_settling p.number k.link.mailbox } → lane ≡ w.lane → number ≡ w.number → text ≡ pdu_line (up_lane lane) (record p { number = number }) → TurnLeaves (answer_turn c p s) new text
answer_passed old new s c p k after w lane number text a some is same from under e = answer_by s c p k.link (Some w) new text (link_is old s c k a is.here) some (record {
  text = e ∙ ap (λ l. pdu_line (up_lane l) (record p { number = number })) from ∙ ap (λ n. pdu_line (up_lane w.lane) (record p { number = n })) under;
  left = gone_on old new s c k after (record k.link { mailbox = after_settling p.number k.link.mailbox }) a is same;
})

-- ---- a client leaves

pub leave_emptied : (old mid new : State) (s : Relay) (c : ℕ) (k : LinkedClient) (after : ClientLink) (messages : List Unanswered) (text : List ℕ) → StandsFor old s → StandsFor mid (leave_lanes c s) → mid.clients.list.items ≡ old.clients.list.items → IsLinked mid new c k after → after ≡ record k.link { mailbox = empty_mailbox k.link.mailbox }
    → messages ≡ unanswered_messages k.link.mailbox → text ≡ flat_map left_line messages → TurnLeaves (leave_turn c s) new text
unfolding leave_turn
leave_emptied old mid new s c k after messages text b a kept is same all e =
    let at : (client_at s c).link ≡ k.link = link_is old s c k b (ap (λ (cs : List (Option LinkedClient)). client_of cs c) (sym kept) ∙ is.here) in
    let here : TurnLeaves (empty_on c k.link (leave_lanes c s)) new text = record {
      text = e ∙ ap (flat_map left_line) all;
      left = gone_on mid new (leave_lanes c s) c k after (record k.link { mailbox = empty_mailbox k.link.mailbox }) a is same;
    } in
    subst (λ (l : ClientLink). TurnLeaves (empty_on c l (leave_lanes c s)) new text) (sym at) here

-- ---- a client collects

pub send_some : (old new : State) (s : Relay) (c : ℕ) (k : LinkedClient) (after : ClientLink) (pdus : List Pdu) (text : List ℕ) → StandsFor old s → IsLinked old new c k after → after ≡ record k.link { mailbox = after_sent k.link.mailbox.window k.link.mailbox.waiting }
    → pdus ≡ pdus_sent k.link.mailbox.window k.link.mailbox.waiting → text ≡ flat_map (pdu_line (to_client c)) pdus → TurnLeaves (send_turn c s) new text
unfolding send_turn
send_some old new s c k after pdus text a is same all e =
    let here : TurnLeaves (send_on c k.link s) new text = record {
      text = e ∙ ap (flat_map (pdu_line (to_client c))) all;
      left = gone_on old new s c k after (record k.link { mailbox = after_sent k.link.mailbox.window k.link.mailbox.waiting }) a is same;
    } in
    subst (λ (l : ClientLink). TurnLeaves (send_on c l s) new text) (sym (link_is old s c k a is.here)) here
