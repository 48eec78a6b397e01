-- The turns of clients, from what the loops over the lanes say.
use Rattle.std.proofs.Common.{◌≡◌, ◌<◌, ℕ, List, [], ◌∷◌, ◌++◌, length, map, take, drop, refl, sym, ◌∙◌, ap, subst, arith, Option, Some, None, codes, zero, suc}
use Rattle.std.specs.List.{position}
use Rattle.std.specs.Fmt.{decimal}
use Rattle.std.proofs.lemmas.List.{length-take-le, map_push}
use Rattle.std.proofs.lemmas.List.Elements.{All-weaker}
use Rattle.std.proofs.lemmas.List.Quantifiers.{position-Some}
use Rattle.smx_history.specs.declared.limits.Limits.{Limits}
use Rattle.smx_session.specs.declared.kind.Kind.{Kind}
use Rattle.smx_routes.specs.Routing.{Route}
use Rattle.smx_lines.specs.declared.state.State.{State}
use Rattle.smx_lines.specs.Links.{ClientLink, new_link}
use Rattle.smx_lines.specs.declared.state.LinkedClient.{LinkedClient}
use Rattle.smx_lines.specs.Texts.{text_line}
use Rattle.smx_lines.specs.declared.state.LinkedLane.{LinkedLane}
use Rattle.smx_lines.specs.Relay.{Relay, RelayLane, client_of, enter_lane, enter_and_leave_lane, client_turn, lane_after, new_client, new_lane}
use Rattle.smx_lines.specs.Lanes.{IsLane, last_in, lasts}
use Rattle.smx_lines.specs.States.{StandsFor, HasRoutes, TurnLeaves, AreOn, IsKnown}
use Rattle.smx_lines.specs.Private.Lanes.{EntersLanes, HaveEntered}
use Rattle.smx_lines.proofs.Lanes.{zip-weaker}
use Rattle.smx_lines.proofs.Entering.{refuses}
use Rattle.smx_lines.proofs.Keeping.{KeepsSettings}
use Rattle.smx_lines.proofs.KnownClients.{known_push}
use Rattle.smx_lines.proofs.OwnNotes.{own_grows, grows_push}

grown_lanes : (limits : Limits) (clients : List (Option LinkedClient)) (o : Option LinkedClient) (ls : List RelayLane) (lanes : List LinkedLane) → AreOn limits (lasts clients) ls lanes → AreOn limits (lasts (clients ++ o ∷ [])) ls lanes
grown_lanes limits clients o ls lanes on =
    let old = lasts clients in
    let now = old ++ last_in o ∷ [] in
    let grown = zip-weaker (IsLane limits old) (IsLane limits now) (λ l k x. record { on = record { agrees = x.on.agrees; limits_are = x.on.limits_are; own = own_grows old now l.history (grows_push old (last_in o)) x.on.own }; link_is = x.link_is }) ls lanes on in
    subst (λ cs. AreOn limits cs ls lanes) (sym (map_push last_in clients o)) grown

place_within : (limits : Limits) (c i : ℕ) (ls : List RelayLane) → position (refuses limits c) ls ≡ Some i → i < length ls
place_within limits c i ls e = let w = position-Some (refuses limits c) ls i new_lane e in w.0

-- one number more
routes_push : (old new : State) (s : Relay) (o : Option LinkedClient) → StandsFor old s → KeepsSettings old new → HasRoutes new (s.clients ++ o ∷ []) s.accounts s.places s.routes
routes_push old new s o a keeps = record {
  accounts_are = keeps.accounts ∙ a.routes.accounts_are;
  places_are = keeps.places ∙ a.routes.places_are;
  routes_are = keeps.routes ∙ a.routes.routes_are;
  known = All-weaker (λ (r : Route). IsKnown s.clients r.client) (λ (r : Route). IsKnown (s.clients ++ o ∷ []) r.client) (λ (r : Route) known. known_push s.clients o r.client known) s.routes a.routes.known;
}

-- a client that has sent nothing, with this link
abbrev fresh : ClientLink → LinkedClient
fresh link = record { last = 0; link = link }

pub entered_all : (old new : State) (s : Relay) (kind : Option Kind) (c : ℕ) (link : ClientLink) (text : List ℕ) → StandsFor old s → c ≡ length old.clients.list.items → EntersLanes s.limits (lasts s.clients) s.lanes c None new.lanes.items → KeepsSettings old new → new.clients.list.items ≡ old.clients.list.items ++ Some (fresh link) ∷ [] → link ≡ new_link old.places kind
    → text ≡ text_line (codes "client " ++ decimal c) → TurnLeaves (client_turn s kind) new text
entered_all old new s kind c link text a is enters keeps clients made e =
    let c_is : c ≡ length s.clients = is ∙ ap length a.clients in
    let here : EntersLanes s.limits (lasts s.clients) s.lanes (length s.clients) None new.lanes.items = subst (λ n. EntersLanes s.limits (lasts s.clients) s.lanes n None new.lanes.items) c_is enters in
    rw here.0 (record {
      text = e ∙ ap (λ n. text_line (codes "client " ++ decimal n)) c_is;
      left = record {
        limits = keeps.limits ∙ a.limits;
        count = keeps.count ∙ a.count;
        started = keeps.started ∙ a.started;
        moment = keeps.moment ∙ a.moment;
        clients = clients ∙ ap (λ (cs : List (Option LinkedClient)). cs ++ Some (fresh link) ∷ []) a.clients ∙ ap (λ (l : ClientLink). s.clients ++ Some (fresh l) ∷ []) (made ∙ ap (λ n. new_link n kind) a.routes.places_are);
        lanes = grown_lanes s.limits s.clients (Some (new_client s.places kind)) (map (lane_after (enter_lane (length s.clients))) s.lanes) new.lanes.items here.1;
        none_yet = λ off. ap (map (lane_after (enter_lane (length s.clients)))) (a.none_yet off);
        routes = routes_push old new s (Some (new_client s.places kind)) a keeps;
      };
    })

pub have_entered : (old : State) (s : Relay) (c i : ℕ) (lanes : List LinkedLane) → StandsFor old s → EntersLanes s.limits (lasts s.clients) s.lanes c (Some i) lanes → HaveEntered c i lanes
have_entered old s c i lanes a enters =
    let within = place_within s.limits c i s.lanes enters.0 in
    (s.limits, lasts s.clients, take i s.lanes, drop i s.lanes, length-take-le i s.lanes (omega arith), enters.1)

none_parted : (c i : ℕ) (ls : List RelayLane) → ls ≡ [] → map (lane_after (enter_and_leave_lane c)) (take i ls) ++ drop i ls ≡ []
none_parted c i ls e = ap (λ xs. map (lane_after (enter_and_leave_lane c)) (take i xs) ++ drop i xs) e ∙ none_left i
  where
    none_left : (i : ℕ) → map (lane_after (enter_and_leave_lane c)) (take {A = RelayLane} i []) ++ drop i [] ≡ []
    none_left zero = refl
    none_left (suc i) = refl

pub entered_none : (old : State) (mid : List LinkedLane) (new : State) (s : Relay) (kind : Option Kind) (c i : ℕ) (text : List ℕ) → StandsFor old s → c ≡ length old.clients.list.items → EntersLanes s.limits (lasts s.clients) s.lanes c (Some i) mid
    → ((limits : Limits) (clients : List (Option ℕ)) (some : List RelayLane) (others : List RelayLane) → length some ≡ i → AreOn limits clients (map (lane_after (enter_lane c)) some ++ others) mid → AreOn limits clients (map (lane_after (enter_and_leave_lane c)) some ++ others) new.lanes.items)
    → KeepsSettings old new → new.clients.list.items ≡ old.clients.list.items ++ None ∷ [] → text ≡ text_line (codes "refused") → TurnLeaves (client_turn s kind) new text
entered_none old mid new s kind c i text a is enters leaves keeps clients e =
    let c_is : c ≡ length s.clients = is ∙ ap length a.clients in
    let within = place_within s.limits c i s.lanes enters.0 in
    let place : position (refuses s.limits (length s.clients)) s.lanes ≡ Some i = subst (λ n. position (refuses s.limits n) s.lanes ≡ Some i) c_is enters.0 in
    let on = leaves s.limits (lasts s.clients) (take i s.lanes) (drop i s.lanes) (length-take-le i s.lanes (omega arith)) enters.1 in
    let on' : AreOn s.limits (lasts s.clients) (map (lane_after (enter_and_leave_lane (length s.clients))) (take i s.lanes) ++ drop i s.lanes) new.lanes.items = subst (λ n. AreOn s.limits (lasts s.clients) (map (lane_after (enter_and_leave_lane n)) (take i s.lanes) ++ drop i s.lanes) new.lanes.items) c_is on in
    rw place (record {
      text = e;
      left = record {
        limits = keeps.limits ∙ a.limits;
        count = keeps.count ∙ a.count;
        started = keeps.started ∙ a.started;
        moment = keeps.moment ∙ a.moment;
        clients = clients ∙ ap (λ (cs : List (Option LinkedClient)). cs ++ None ∷ []) a.clients;
        lanes = grown_lanes s.limits s.clients None (map (lane_after (enter_and_leave_lane (length s.clients))) (take i s.lanes) ++ drop i s.lanes) new.lanes.items on';
        none_yet = λ off. none_parted (length s.clients) i s.lanes (a.none_yet off);
        routes = routes_push old new s None a keeps;
      };
    })

-- a client that there is, or not
pub client_same : (old : State) (s : Relay) (c : ℕ) (o : Option LinkedClient) → StandsFor old s → client_of old.clients.list.items c ≡ o → client_of s.clients c ≡ o
client_same old s c o a is = ap (λ (cs : List (Option LinkedClient)). client_of cs c) (sym a.clients) ∙ is
