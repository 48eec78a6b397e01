-- A client's prefix, by where its line ends.
use Rattle.std.proofs.Common.{◌≡◌, ◌<◌, arith, ℕ, Bool, true, false, List, [], ◌∷◌, ◌||◌, length, nat_lt, not, refl, sym, ◌∙◌, ap, subst, Some, None}
use Rattle.std.specs.Global.{Vec}
use Rattle.std.specs.Prelude.{IsPermutation, Contains}
use Rattle.std.specs.List.{All}
use Rattle.std.proofs.lemmas.Bool.Decides.{nat_tests}
use Rattle.std.proofs.lemmas.List.Elements.{All-cons}
use Rattle.std.proofs.lemmas.List.Sorted.{All-permutation}
use Rattle.smx_routes.specs.Routing.{Route, route, has_route, IsNew}
use Rattle.smx_routes.proofs.Routed.{has_it, has_not}
use Rattle.smx_lines.specs.declared.state.State.{State}
use Rattle.smx_lines.specs.declared.state.LinkedClient.{LinkedClient}
use Rattle.smx_lines.specs.Links.{may_receive}
use Rattle.smx_lines.specs.Relay.{Relay, client_of}
use Rattle.smx_lines.specs.Turns.{RouteTurn, is_bad_route}
use Rattle.smx_lines.specs.States.{StandsFor, MayPrint, IsKnown}
use Rattle.smx_lines.proofs.Keeping.{KeepsSettings}
use Rattle.smx_lines.proofs.KnownClients.{known_from}

pub route_unknown : (s : Relay) (c : ℕ) (prefix : List ℕ) (new : State) → client_of s.clients c ≡ None → MayPrint (RouteTurn s c prefix) new None
unfolding RouteTurn
route_unknown s c prefix new none = (None, rw none refl, tt)

route_bad : (s : Relay) (c : ℕ) (prefix : List ℕ) (k : LinkedClient) (new : State) → client_of s.clients c ≡ Some k → is_bad_route s c prefix k.link ≡ true → MayPrint (RouteTurn s c prefix) new None
unfolding RouteTurn
route_bad s c prefix k new known bad = (None, rw (known, bad) refl, tt)

pub route_unbound : (s : Relay) (c : ℕ) (prefix : List ℕ) (k : LinkedClient) (new : State) → client_of s.clients c ≡ Some k → may_receive k.link.session.state ≡ false → MayPrint (RouteTurn s c prefix) new None
route_unbound s c prefix k new known unbound = route_bad s c prefix k new known (rw unbound refl)

or_true : (b : Bool) → b || true ≡ true
or_true true = refl
or_true false = refl

pub route_long : (s : Relay) (c : ℕ) (prefix : List ℕ) (k : LinkedClient) (new : State) → client_of s.clients c ≡ Some k → 64 < length prefix → MayPrint (RouteTurn s c prefix) new None
route_long s c prefix k new known long =
    let far : nat_lt 64 (length prefix) ≡ true = grind (arith, nat_tests, long) in
    route_bad s c prefix k new known (rw far (or_true (not (may_receive k.link.session.state))))

pub route_known : (s : Relay) (c : ℕ) (prefix : List ℕ) (k : LinkedClient) (rs : List Route) (new : State) → client_of s.clients c ≡ Some k → rs ≡ s.routes → Contains rs (route prefix c) → MayPrint (RouteTurn s c prefix) new None
route_known s c prefix k rs new known same there =
    let has : has_route s.routes (route prefix c) ≡ true = ap (λ (xs : List Route). has_route xs (route prefix c)) (sym same) ∙ has_it rs (route prefix c) there in
    route_bad s c prefix k new known (rw has (ap (λ b. not (may_receive k.link.session.state) || b) (or_true (nat_lt 64 (length prefix))) ∙ or_true (not (may_receive k.link.session.state))))

-- the prefix was added, and no more
pub record IsRouting (old new : State) (c : ℕ) (prefix : List ℕ) : Type 0 where
  pub fresh : IsNew old.routes (route prefix c)
  pub added : IsPermutation (route prefix c ∷ old.routes) new.routes
  pub lanes : new.lanes.items ≡ old.lanes.items
  pub clients : new.clients.list.items ≡ old.clients.list.items
  pub keeps : KeepsSettings old (record new { routes = old.routes })

routed_on : (old new : State) (s : Relay) (c : ℕ) (prefix : List ℕ) → StandsFor old s → IsKnown s.clients c → IsRouting old new c prefix → StandsFor new (record s { routes = new.routes })
routed_on old new s c prefix a known is = record {
  limits = is.keeps.limits ∙ a.limits;
  count = is.keeps.count ∙ a.count;
  started = is.keeps.started ∙ a.started;
  moment = is.keeps.moment ∙ a.moment;
  clients = is.clients ∙ a.clients;
  lanes = rw is.lanes a.lanes;
  none_yet = a.none_yet;
  routes = record {
    accounts_are = is.keeps.accounts ∙ a.routes.accounts_are;
    places_are = is.keeps.places ∙ a.routes.places_are;
    routes_are = refl;
    known = All-permutation (λ (r : Route). IsKnown s.clients r.client) (route prefix c ∷ old.routes) new.routes is.added
        (All-cons (λ (r : Route). IsKnown s.clients r.client) (route prefix c) old.routes known (subst (All (λ (r : Route). IsKnown s.clients r.client)) (sym a.routes.routes_are) a.routes.known));
  };
}

pub route_added : (old new : State) (s : Relay) (c : ℕ) (prefix : List ℕ) (k : LinkedClient) (text : Vec ℕ) → StandsFor old s → client_of s.clients c ≡ Some k → may_receive k.link.session.state ≡ true → IsRouting old new c prefix → text.items ≡ [] → MayPrint (RouteTurn s c prefix) new (Some text)
unfolding RouteTurn
route_added old new s c prefix k text a known may is e =
    let near : nat_lt 64 (length prefix) ≡ false = grind (arith, nat_tests, is.fresh.0) in
    let has : has_route s.routes (route prefix c) ≡ false = ap (λ (xs : List Route). has_route xs (route prefix c)) (sym a.routes.routes_are) ∙ has_not old.routes (route prefix c) is.fresh.1 in
    let added : IsPermutation (route prefix c ∷ s.routes) new.routes = subst (λ (xs : List Route). IsPermutation (route prefix c ∷ xs) new.routes) a.routes.routes_are is.added in
    (Some ([], record s { routes = new.routes }), rw (known, may, near, has) (new.routes, added, refl), record { text = e; left = routed_on old new s c prefix a (known_from s.clients c k known) is })
