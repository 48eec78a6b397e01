-- What the fields of the routes show, and what ties them.
use Rattle.std.specs.Prelude.{◌≡◌, ◌≤◌, ℕ, List, length, All}
use Rattle.smx_routes.specs.declared.routes.Routes.TheInside.{Inside}
use Rattle.smx_routes.specs.Routing.{Route, route, has_route}
use Rattle.smx_routes.specs.Private.Holders.{has_holder}

abbrev pub routes_of : Inside → List Route
routes_of a = a.by_client

pub record AreTied (a : Inside) : Type 0 where
  pub tied : (p : List ℕ) (c : ℕ) → has_holder a.by_prefix p c ≡ has_route a.by_client (route p c)
  pub short : All (λ r. length r.prefix ≤ 64) a.by_client
