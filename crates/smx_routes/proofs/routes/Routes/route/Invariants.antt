use Rattle.std.proofs.Common.{◌<◌, length}
use Rattle.std.specs.List.{Contains}
use Rattle.smx_routes.specs.Routing.{Route, BeginsWith}
use Rattle.smx_routes.proofs.routes.Routes.route.Given as goal

-- each prefix that begins the address is shorter than those that were tried
abbrev pub invariant-loop-len : goal.invariant-loop-len
invariant-loop-len l = (s : Route) → Contains l.self s → BeginsWith l.address s.prefix → length s.prefix < l.len
