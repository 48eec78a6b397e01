-- The list of clients: who is known there, and their last ordinals.
use Rattle.std.proofs.Common.{◌≡◌, ◌<◌, ℕ, ◌+◌, zero, suc, List, [], ◌∷◌, ◌++◌, length, set, get_or, arith, ap, sym, ◌∙◌, refl, subst, true, false, Option, Some, None}
use Rattle.std.specs.Borrow.{Bor}
use Rattle.std.specs.Prelude.{IfNone, IfSome, is_none, unwrap_or}
use Rattle.std.proofs.Math.Seq.{map-set_same}
use Rattle.std.proofs.lemmas.List.{get_or_default}
use Rattle.std.proofs.lemmas.Option.{get_or_from_slice_get}
use Rattle.std.proofs.lemmas.List.Elements.{All-weaker}
use Rattle.smx_pdu.specs.declared.pdu.Pdu.{Pdu}
use Rattle.smx_history.specs.declared.request.Request.{Request}
use Rattle.smx_routes.specs.declared.mo_window.Waiting.{Waiting}
use Rattle.smx_routes.specs.Window.{message_for}
use Rattle.smx_session.specs.declared.act.Act.{Act}
use Rattle.smx_session.specs.declared.act.Act.TheVariants.{Answer, Bind, Refuse, Forward, MoAnswer, Leave, Hangup, Closed, Ignore}
use Rattle.smx_session.specs.Login.{Login}
use Rattle.smx_routes.specs.Routing.{Route}
use Rattle.smx_lines.specs.declared.state.State.{State}
use Rattle.smx_lines.specs.declared.state.LinkedClient.{LinkedClient}
use Rattle.smx_lines.specs.Links.{ClientLink}
use Rattle.smx_mailbox.specs.Mailbox.{after_settling, empty_mailbox}
use Rattle.smx_lines.specs.Relay.{Relay, client_at, client_of, in_turn_at, lane_for, leave_lanes, new_client, request_of, with_link}
use Rattle.smx_lines.specs.Messages.{answer_turn, answer_with, leave_turn}
use Rattle.smx_lines.specs.ClientTurn.{client_act, client_pdu, decides, each_pdu, forward, offer_at}
use Rattle.smx_lines.specs.Lanes.{last_in, last_of, lasts}
use Rattle.smx_lines.specs.States.{StandsFor, HasRoutes, TurnLeaves, IsKnown}

-- a client that there is
pub client_there : (s : Relay) (c : ℕ) (k : LinkedClient) → client_of s.clients c ≡ Some k → client_at s c ≡ k
client_there s c k known = ap (λ (o : Option LinkedClient). unwrap_or o (new_client s.places None)) known

-- a client is known where it is found
pub known_from : (clients : List (Option LinkedClient)) (c : ℕ) (k : LinkedClient) → client_of clients c ≡ Some k → IsKnown clients c
known_from [] c k found = absurd (let z : None ≡ Some k = found in cc)
known_from (o ∷ clients) zero k found = (k, ap (λ (x : Option LinkedClient). Some x) found)
known_from (o ∷ clients) (suc c) k found = known_from clients c k found

pub known_at : (clients : List (Option LinkedClient)) (c : ℕ) (known : IsKnown clients c) → client_of clients c ≡ Some known.0
known_at clients c known = get_or_from_slice_get clients c (Some known.0) None known.1

-- what a search for a client found
pub none_found : (r : Option (Bor LinkedClient)) (clients : List (Option LinkedClient)) (c : ℕ) → is_none r ≡ true → IfNone r (client_of clients c ≡ None) → client_of clients c ≡ None
none_found None clients c none is = is
none_found (Some k) clients c none is = absurd (let z : false ≡ true = none in cc)

pub some_found : (r : Option (Bor LinkedClient)) (clients : List (Option LinkedClient)) (c : ℕ) → is_none r ≡ false → IfSome r (λ k. client_of clients c ≡ Some k.now) → IsKnown clients c
some_found None clients c some is = absurd (let z : true ≡ false = some in cc)
some_found (Some k) clients c some is = known_from clients c k.now is

-- two that are found are one
pub one_client : (o : Option LinkedClient) (x y : LinkedClient) → o ≡ Some x → o ≡ Some y → x ≡ y
one_client o x y one other = let e : Some x ≡ Some y = sym one ∙ other in cc

pub known_within : (clients : List (Option LinkedClient)) (c : ℕ) → IsKnown clients c → c < length clients
known_within [] c known = absurd (let z : None ≡ Some (Some known.0) = known.1 in cc)
known_within (o ∷ clients) zero known = omega arith
known_within (o ∷ clients) (suc c) known = let w = known_within clients c known in omega (arith, w)

-- what was read at its number
pub client_read : (clients : List (Option LinkedClient)) (c : ℕ) (o : Option LinkedClient) → c < length clients → o ≡ get_or clients c o → client_of clients c ≡ o
client_read clients c o within here = get_or_default clients c None o within ∙ sym here

pub known_set : (clients : List (Option LinkedClient)) (d c : ℕ) (k : LinkedClient) → IsKnown clients d → IsKnown (set clients c (Some k)) d
known_set [] d c k known = known
known_set (o ∷ clients) zero zero k known = (k, refl)
known_set (o ∷ clients) (suc d) zero k known = known
known_set (o ∷ clients) zero (suc c) k known = known
known_set (o ∷ clients) (suc d) (suc c) k known = known_set clients d c k known

pub known_push : (clients : List (Option LinkedClient)) (o : Option LinkedClient) (d : ℕ) → IsKnown clients d → IsKnown (clients ++ o ∷ []) d
known_push [] o d known = absurd (let z : None ≡ Some (Some known.0) = known.1 in cc)
known_push (x ∷ clients) o zero known = known
known_push (x ∷ clients) o (suc d) known = known_push clients o d known

pub routes_set : (state : State) (clients : List (Option LinkedClient)) (c : ℕ) (k : LinkedClient) (accounts : List Login) (places : ℕ) (routes : List Route) → HasRoutes state clients accounts places routes → HasRoutes state (set clients c (Some k)) accounts places routes
routes_set state clients c k accounts places routes has = record {
  accounts_are = has.accounts_are;
  places_are = has.places_are;
  routes_are = has.routes_are;
  known = All-weaker (λ (r : Route). IsKnown clients r.client) (λ (r : Route). IsKnown (set clients c (Some k)) r.client) (λ (r : Route) known. known_set clients r.client c k known) routes has.known;
}

-- ---- last ordinals

pub last_at : (clients : List (Option LinkedClient)) (c : ℕ) (k : LinkedClient) → client_of clients c ≡ Some k → last_of (lasts clients) c ≡ Some k.last
last_at [] c k known = absurd (let z : None ≡ Some k = known in cc)
last_at (o ∷ clients) zero k known = ap last_in known
last_at (o ∷ clients) (suc c) k known = last_at clients c k known

-- another link leaves the last ordinals
pub lasts_linked : (clients : List (Option LinkedClient)) (c : ℕ) (k : LinkedClient) (link : ClientLink) → client_of clients c ≡ Some k → lasts (set clients c (Some (record k { link = link }))) ≡ lasts clients
lasts_linked clients c k link known = map-set_same last_in clients c (Some (record k { link = link })) None (sym (ap last_in known))

-- ---- who is known stays so

linked_known : (s : Relay) (c d : ℕ) (link : ClientLink) → IsKnown s.clients d → IsKnown (with_link s c link).clients d
linked_known s c d link known = known_set s.clients d c (record (client_at s c) { link = link }) known

in_turn_known : (s : Relay) (r : Request) (o : Option ℕ) (d : ℕ) → IsKnown s.clients d → IsKnown (in_turn_at s r o).1.clients d
in_turn_known s r None d known = known
in_turn_known s r (Some i) d known = known_set s.clients d r.client (record (client_at s r.client) { last = r.ordinal }) known

offer_known : (s : Relay) (c last : ℕ) (o : Option Request) (d : ℕ) → IsKnown s.clients d → IsKnown (offer_at s c last o).1.clients d
offer_known s c last None d known = known
offer_known s c last (Some r) d known = in_turn_known s r (lane_for s c last) d known

forward_known : (s : Relay) (c : ℕ) (p : Pdu) (d : ℕ) → IsKnown s.clients d → IsKnown (forward c p s).1.clients d
unfolding forward
forward_known s c p d known = offer_known s c (client_at s c).last (request_of c ((client_at s c).last + 1) p) d known

answer_with_known : (s : Relay) (c : ℕ) (p : Pdu) (k : ClientLink) (o : Option Waiting) (d : ℕ) → IsKnown s.clients d → IsKnown (answer_with s c p k o).1.clients d
answer_with_known s c p k None d known = known
answer_with_known s c p k (Some w) d known = linked_known s c d (record k { mailbox = after_settling p.number k.mailbox }) known

answer_known : (s : Relay) (c : ℕ) (p : Pdu) (d : ℕ) → IsKnown s.clients d → IsKnown (answer_turn c p s).1.clients d
unfolding answer_turn
answer_known s c p d known = answer_with_known s c p (client_at s c).link (message_for p.number p.command (client_at s c).link.mailbox.window.waiting) d known

leave_known : (s : Relay) (c d : ℕ) → IsKnown s.clients d → IsKnown (leave_turn c s).1.clients d
unfolding leave_turn
leave_known s c d known =
    let k = (client_at s c).link in
    linked_known (leave_lanes c s) c d (record k { mailbox = empty_mailbox k.mailbox }) known

act_known : (c : ℕ) (p : Pdu) (a : Act) (s : Relay) (d : ℕ) → IsKnown s.clients d → IsKnown (client_act c p a s).1.clients d
unfolding client_act
act_known c p (Answer answer) s d known = known
act_known c p (Bind kind account answer) s d known = known
act_known c p (Refuse answer) s d known = known
act_known c p Forward s d known = forward_known s c p d known
act_known c p (MoAnswer number) s d known = answer_known s c p d known
act_known c p (Leave answer) s d known = leave_known s c d known
act_known c p (Hangup answer) s d known = leave_known s c d known
act_known c p Closed s d known = leave_known s c d known
act_known c p Ignore s d known = known

pdu_known : (c : ℕ) (p : Pdu) (s : Relay) (d : ℕ) → IsKnown s.clients d → IsKnown (client_pdu c p s).1.clients d
unfolding client_pdu
pdu_known c p s d known =
    let k = (client_at s c).link in
    let x = decides s.accounts k.session p in
    let after : ClientLink = record k { session = x.1 } in
    act_known c p x.0 (with_link s c after) d (linked_known s c d after known)

-- each PDU of a client leaves the clients that there are
pub each_pdu_known : (c : ℕ) (ps : List Pdu) (s : Relay) (d : ℕ) → IsKnown s.clients d → IsKnown (each_pdu (client_pdu c) s ps).1.clients d
each_pdu_known c [] s d known = known
each_pdu_known c (p ∷ ps) s d known = each_pdu_known c ps (client_pdu c p s).1 d (pdu_known c p s d known)

-- so does a turn of the state
pub still_known : (c : ℕ) (ps : List Pdu) (mid new : State) (s : Relay) (text : List ℕ) (d : ℕ) → StandsFor mid s → TurnLeaves (each_pdu (client_pdu c) s ps) new text → IsKnown mid.clients.list.items d → IsKnown new.clients.list.items d
still_known c ps mid new s text d a turned known =
    let before : IsKnown s.clients d = subst (λ (cs : List (Option LinkedClient)). IsKnown cs d) a.clients known in
    subst (λ (cs : List (Option LinkedClient)). IsKnown cs d) (sym turned.left.clients) (each_pdu_known c ps s d before)
