-- Turns of one link, as turns of the whole state.
use Rattle.std.proofs.Common.{◌≡◌, ◌<◌, ◌++◌, ℕ, Bool, true, false, List, [], length, map, filter, not, ◌==◌, set, get_or, refl, sym, ◌∙◌, ap, subst, Option, Some, None}
use Rattle.std.specs.List.{AllZip}
use Rattle.std.proofs.lemmas.List.{set-get_or}
use Rattle.std.proofs.lemmas.List.Elements.{All-filter}
use Rattle.smx_pdu.specs.declared.pdu.Pdu.{Pdu}
use Rattle.smx_session.specs.declared.act.Act.{Act}
use Rattle.smx_session.specs.declared.up_act.UpAct.{UpAct}
use Rattle.smx_pdu.specs.Answers.{nack_of_undecoded}
use Rattle.smx_lines.specs.declared.state.LinkedClient.{LinkedClient}
use Rattle.smx_lines.specs.declared.state.State.{State}
use Rattle.smx_lines.specs.Links.{ClientLink, CentreLink, has_left, at_end}
use Rattle.smx_lines.specs.Texts.{pdu_line, up_lane, down_line}
use Rattle.smx_routes.specs.Routing.{Route}
use Rattle.smx_lines.specs.declared.state.LinkedLane.{LinkedLane}
use Rattle.smx_lines.specs.Relay.{Relay, RelayLane, client_at, client_of, leave_lanes, going_on, lane_after, lane_at, leave_lane, with_client, with_link}
use Rattle.smx_lines.specs.ClientTurn.{hang_up, client_act, client_pdu, client_pdu_on, client_end, decides}
use Rattle.smx_lines.specs.LaneLinks.{with_centre, lower_lane}
use Rattle.smx_lines.specs.CentreTurn.{centre_act, centre_pdu, centre_end, link_pdu, act_of, session_after}
use Rattle.smx_lines.specs.Lanes.{IsLane, lasts}
use Rattle.smx_lines.specs.States.{StandsFor, AreOn, IsReached, TurnLeaves, IsKnown}
use Rattle.smx_lines.specs.Private.Lanes.{HasLeftLanes, AreReached}
use Rattle.smx_lines.proofs.Lanes.{link_goes, written_back, zip-set}
use Rattle.smx_lines.proofs.Keeping.{KeepsSettings, kept_routes}
use Rattle.smx_lines.proofs.KnownClients.{client_there, known_set, lasts_linked, routes_set}
use Rattle.smx_lines.proofs.StateTurns.{lane_is}

-- ---- clients

-- the link of a client went on
pub record IsLinked (old new : State) (c : ℕ) (k : LinkedClient) (after : ClientLink) : Type 0 where
  pub here : client_of old.clients.list.items c ≡ Some k
  pub clients : new.clients.list.items ≡ set old.clients.list.items c (Some (record k { link = after }))
  pub lanes : new.lanes.items ≡ old.lanes.items
  pub keeps : KeepsSettings old new

-- the client that there is
pub client_is : (old : State) (s : Relay) (c : ℕ) (k : LinkedClient) → StandsFor old s → client_of old.clients.list.items c ≡ Some k → client_at s c ≡ k
client_is old s c k a here = client_there s c k (ap (λ (cs : List (Option LinkedClient)). client_of cs c) (sym a.clients) ∙ here)

pub link_is : (old : State) (s : Relay) (c : ℕ) (k : LinkedClient) → StandsFor old s → client_of old.clients.list.items c ≡ Some k → (client_at s c).link ≡ k.link
link_is old s c k a here = ap (λ (x : LinkedClient). x.link) (client_is old s c k a here)

pub linked : (old new : State) (s : Relay) (c : ℕ) (k : LinkedClient) (after : ClientLink) → StandsFor old s → IsLinked old new c k after → StandsFor new (with_link s c after)
linked old new s c k after a is =
    let known : client_of s.clients c ≡ Some k = ap (λ (cs : List (Option LinkedClient)). client_of cs c) (sym a.clients) ∙ is.here in
    let after_it : LinkedClient = record k { link = after } in
    let now = set s.clients c (Some after_it) in
    let same : lasts now ≡ lasts s.clients = lasts_linked s.clients c k after known in
    let lanes : AreOn s.limits (lasts s.clients) s.lanes new.lanes.items = rw is.lanes a.lanes in
    let left : StandsFor new (with_client s c after_it) = record {
      limits = is.keeps.limits ∙ a.limits;
      count = is.keeps.count ∙ a.count;
      started = is.keeps.started ∙ a.started;
      moment = is.keeps.moment ∙ a.moment;
      clients = is.clients ∙ ap (λ (cs : List (Option LinkedClient)). set cs c (Some after_it)) a.clients;
      lanes = subst (λ xs. AreOn s.limits xs s.lanes new.lanes.items) (sym same) lanes;
      none_yet = a.none_yet;
      routes = kept_routes old new now s.accounts s.places s.routes is.keeps (routes_set old s.clients c after_it s.accounts s.places s.routes a.routes);
    } in
    subst (λ (x : LinkedClient). StandsFor new (with_client s c (record x { link = after }))) (sym (client_there s c k known)) left

pub still_linked : (old new : State) (c : ℕ) (k : LinkedClient) (after : ClientLink) → IsReached old → IsLinked old new c k after → IsReached new
still_linked old new c k after reached is = (with_link reached.0 c after, linked old new reached.0 c k after reached.1 is)

-- who is known stays so
pub known_linked : (old new : State) (c d : ℕ) (k : LinkedClient) (after : ClientLink) → IsLinked old new c k after → IsKnown old.clients.list.items d → IsKnown new.clients.list.items d
known_linked old new c d k after is known = subst (λ (cs : List (Option LinkedClient)). IsKnown cs d) (sym is.clients) (known_set old.clients.list.items d c (record k { link = after }) known)

-- a link that was read only
pub link_untouched : (old new : State) (s : Relay) (c : ℕ) (k : LinkedClient) → StandsFor old s → IsLinked old new c k k.link → StandsFor new s
link_untouched old new s c k a is =
    let known : client_of s.clients c ≡ Some k = ap (λ (cs : List (Option LinkedClient)). client_of cs c) (sym a.clients) ∙ is.here in
    let same : set s.clients c (Some k) ≡ s.clients = ap (λ (o : Option LinkedClient). set s.clients c o) (sym known) ∙ set-get_or s.clients c None in
    let there : with_link s c k.link ≡ s =
    ap (λ (x : LinkedClient). with_client s c (record x { link = k.link })) (client_there s c k known) ∙ ap (λ (cs : List (Option LinkedClient)). record s { clients = cs }) same in
    subst (StandsFor new) there (linked old new s c k k.link a is)

pub client_pdu_some : (s : Relay) (c : ℕ) (p : Pdu) (k after : ClientLink) (act : Act) → (client_at s c).link ≡ k → act ≡ (decides s.accounts k.session p).0 → after ≡ record k { session = (decides s.accounts k.session p).1 }
    → client_act c p act (with_link s c after) ≡ client_pdu c p s
unfolding client_pdu
client_pdu_some s c p k after act at is link =
    ap (λ (x : Act). client_act c p x (with_link s c after)) is ∙ ap (λ (l : ClientLink). client_act c p (decides s.accounts k.session p).0 (with_link s c l)) link
    ∙ sym (ap (λ (l : ClientLink). client_pdu_on c p l s) at)

-- a client left the lanes, and its prefixes are gone
pub left_by_all : (old new : State) (s : Relay) (c : ℕ) → StandsFor old s → HasLeftLanes c old.lanes.items new.lanes.items → KeepsSettings old (record new { routes = old.routes }) → new.clients.list.items ≡ old.clients.list.items
    → new.routes ≡ filter (λ r. not (r.client == c)) old.routes → StandsFor new (leave_lanes c s)
left_by_all old new s c a leaves keeps clients routes = record {
  limits = keeps.limits ∙ a.limits;
  count = keeps.count ∙ a.count;
  started = keeps.started ∙ a.started;
  moment = keeps.moment ∙ a.moment;
  clients = clients ∙ a.clients;
  lanes = leaves s.limits (lasts s.clients) s.lanes a.lanes;
  none_yet = λ off. ap (map (lane_after (leave_lane c))) (a.none_yet off);
  routes = record {
    accounts_are = keeps.accounts ∙ a.routes.accounts_are;
    places_are = keeps.places ∙ a.routes.places_are;
    routes_are = routes ∙ ap (λ (rs : List Route). filter (λ r. not (r.client == c)) rs) a.routes.routes_are;
    known = All-filter (λ (r : Route). not (r.client == c)) (λ (r : Route). IsKnown s.clients r.client) s.routes a.routes.known;
  };
}

-- a client was hung up
pub client_ended : (new : State) (s : Relay) (c : ℕ) (k after : ClientLink) (answer : Pdu) (text : List ℕ) → (client_at s c).link ≡ k → after ≡ at_end k → answer ≡ nack_of_undecoded → TurnLeaves (hang_up c answer (with_link s c after)) new text → TurnLeaves (client_end c true s) new text
unfolding client_end
client_ended new s c k after answer text at link said turned =
    let named : TurnLeaves (hang_up c nack_of_undecoded (with_link s c after)) new text = subst (λ (p : Pdu). TurnLeaves (hang_up c p (with_link s c after)) new text) said turned in
    let ended : TurnLeaves (hang_up c nack_of_undecoded (with_link s c (at_end k))) new text = subst (λ (l : ClientLink). TurnLeaves (hang_up c nack_of_undecoded (with_link s c l)) new text) link named in
    subst (λ (l : ClientLink). TurnLeaves (hang_up c nack_of_undecoded (with_link s c (at_end l))) new text) (sym at) ended

pub lanes_reached : (old : State) → IsReached old → AreReached old.lanes.items
lanes_reached old reached = (reached.0.limits, lasts reached.0.clients, reached.0.lanes, reached.1.lanes)

-- ---- lanes

-- the link of the lane at the index went on
pub record IsCentre (old new : State) (i : ℕ) (k : LinkedLane) (after : CentreLink) : Type 0 where
  pub within : i < length old.lanes.items
  pub here : k ≡ get_or old.lanes.items i k
  pub lanes : new.lanes.items ≡ set old.lanes.items i (record k { link = after })
  pub clients : new.clients.list.items ≡ old.clients.list.items
  pub keeps : KeepsSettings old new

pub centred : (old new : State) (s : Relay) (i : ℕ) (k : LinkedLane) (after : CentreLink) → StandsFor old s → IsCentre old new i k after → StandsFor new (with_centre s i after)
centred old new s i k after a is =
    let R = IsLane s.limits (lasts s.clients) in
    let l : RelayLane = record (lane_at s i) { link = after } in
    let on : R l (record k { link = after }) = link_goes s.limits (lasts s.clients) (lane_at s i) k after (lane_is old s i k a is.within is.here) in
    let lanes : AllZip R (set s.lanes i l) new.lanes.items = subst (λ ls. AllZip R (set s.lanes i l) ls) (sym is.lanes) (zip-set R s.lanes old.lanes.items i l (record k { link = after }) a.lanes on) in
    record {
      limits = is.keeps.limits ∙ a.limits;
      count = is.keeps.count ∙ a.count;
      started = is.keeps.started ∙ a.started;
      moment = is.keeps.moment ∙ a.moment;
      clients = is.clients ∙ a.clients;
      lanes = lanes;
      none_yet = λ off. ap (λ ls. set ls i l) (a.none_yet off);
      routes = kept_routes old new s.clients s.accounts s.places s.routes is.keeps a.routes;
    }

-- the link that there is
pub centre_at : (old : State) (s : Relay) (i : ℕ) (k : LinkedLane) → StandsFor old s → i < length old.lanes.items → k ≡ get_or old.lanes.items i k → k.link ≡ (lane_at s i).link
centre_at old s i k a within here = (lane_is old s i k a within here).link_is

pub left_is : (old : State) (s : Relay) (i : ℕ) (k : LinkedLane) (b : Bool) → StandsFor old s → i < length old.lanes.items → k ≡ get_or old.lanes.items i k → has_left k.link ≡ b → has_left (lane_at s i).link ≡ b
left_is old s i k b a within here e = ap has_left (sym (centre_at old s i k a within here)) ∙ e

-- a link that was read only
pub centre_untouched : (old new : State) (s : Relay) (i : ℕ) (k : LinkedLane) → StandsFor old s → IsCentre old new i k k.link → StandsFor new s
centre_untouched old new s i k a is =
    let lanes : new.lanes.items ≡ old.lanes.items = is.lanes ∙ written_back old.lanes.items i k k is.here refl in
    record {
      limits = is.keeps.limits ∙ a.limits;
      count = is.keeps.count ∙ a.count;
      started = is.keeps.started ∙ a.started;
      moment = is.keeps.moment ∙ a.moment;
      clients = is.clients ∙ a.clients;
      lanes = rw lanes a.lanes;
      none_yet = a.none_yet;
      routes = kept_routes old new s.clients s.accounts s.places s.routes is.keeps a.routes;
    }

pub centre_pdu_left : (s : Relay) (i : ℕ) (p : Pdu) → has_left (lane_at s i).link ≡ true → centre_pdu i p s ≡ ([], s)
unfolding centre_pdu
centre_pdu_left s i p gone = rw gone refl

pub centre_pdu_some : (s : Relay) (i : ℕ) (p : Pdu) (k after : CentreLink) (act : UpAct) → k ≡ (lane_at s i).link → has_left (lane_at s i).link ≡ false → act ≡ act_of k.session p → after ≡ record k { session = session_after k.session p }
    → centre_act i p act (with_centre s i after) ≡ centre_pdu i p s
unfolding centre_pdu
centre_pdu_some s i p k after act at here is link =
    ap (λ (x : UpAct). centre_act i p x (with_centre s i after)) is ∙ ap (λ (l : CentreLink). centre_act i p (act_of k.session p) (with_centre s i l)) link
    ∙ ap (λ (l : CentreLink). link_pdu i p l s) at ∙ sym (rw here refl)

pub centre_end_left : (s : Relay) (i : ℕ) (b : Bool) → has_left (lane_at s i).link ≡ true → centre_end i b s ≡ ([], s)
unfolding centre_end
centre_end_left s i true gone = rw gone refl
centre_end_left s i false gone = refl

-- a bad length came
pub centre_ended : (state : State) (s : Relay) (i : ℕ) (answer : Pdu) (text : List ℕ) → has_left (lane_at s i).link ≡ false → answer ≡ nack_of_undecoded → text ≡ pdu_line (up_lane i) answer ++ down_line i → StandsFor state (going_on s i lower_lane) → TurnLeaves (centre_end i true s) state text
unfolding centre_end
centre_ended state s i answer text here said e a =
    rw here (subst (λ (p : Pdu). TurnLeaves (pdu_line (up_lane i) p ++ down_line i, going_on s i lower_lane) state text) said (record { text = e; left = a }))
