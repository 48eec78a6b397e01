-- The routes that a table by the clients shows.
use Rattle.std.specs.Prelude.{ℕ, List, map}
use Rattle.std.specs.List.{flat_map}
use Rattle.std.specs.Global.{Vec}
use Rattle.smx_routes.specs.declared.by_client.ByClient.TheInside.{Inside}
use Rattle.smx_routes.specs.Routing.{Route, route}

-- those of one client
abbrev pub owned_at : ℕ × Vec (Vec ℕ) → List Route
owned_at e = map (λ p. route p.items e.0) e.1.items

abbrev pub owned_of : Inside → List Route
owned_of a = flat_map owned_at a.prefixes.entries
