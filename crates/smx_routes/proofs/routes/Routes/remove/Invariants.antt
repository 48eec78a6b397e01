use Rattle.std.proofs.Common.{◌≡◌, ℕ, false, cond, List, map, take}
use Rattle.smx_routes.specs.Routing.{route, has_route}
use Rattle.smx_routes.specs.Private.Holders.{has_holder}
use Rattle.smx_routes.proofs.routes.Routes.remove.Given as goal

-- the client has none of the prefixes that were gone over, and the rest is as it was
abbrev pub invariant-loop-prefix : goal.invariant-loop-prefix
invariant-loop-prefix l = (l.self-inside.by_client ≡ l.initial.self-inside.by_client)
    × ((p : List ℕ) (q : ℕ) → has_holder l.self-inside.by_prefix p q
    ≡ cond (has_route (map (λ v. route v.items l.client) (take l.prefix-index l.prefix-items)) (route p q)) false (has_holder l.initial.self-inside.by_prefix p q))
