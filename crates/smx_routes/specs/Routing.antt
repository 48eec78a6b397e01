-- Which client has the longest prefix of an address.
use Rattle.std.specs.Prelude.{◌≡◌, ◌≤◌, ◌<◌, ◌==◌, ◌&&◌, ◌||◌, ◌∷◌, ◌++◌, [], ℕ, Bool, List, length, filter, Contains, Option, Some, None, option_map, nat_eq, nat_lt, bytes_eq, if◌then◌else◌}
use Rattle.std.specs.List.{list_any, starts_with}
use Rattle.smx_routes.specs.declared.fault.RouteFault.{RouteFault}
use Rattle.smx_routes.specs.declared.fault.RouteFault.TheVariants.{TooLong, Known, NoMemory}

-- the client takes what goes to addresses with this prefix
pub record Route : Type 0 where
  pub prefix : List ℕ
  pub client : ℕ

abbrev pub route : List ℕ → ℕ → Route
route prefix client = record { prefix = prefix; client = client }

-- the address is the prefix and a rest
pub record BeginsWith (address prefix : List ℕ) : Type 0 where
  pub rest : List ℕ
  pub is : address ≡ prefix ++ rest

-- the route's prefix begins the address, no longer prefix does, and no row with the same prefix has a smaller client
pub record IsLongest (routes : List Route) (address : List ℕ) (r : Route) : Type 0 where
  pub there : Contains routes r
  pub begins : BeginsWith address r.prefix
  pub longest : (s : Route) → Contains routes s → BeginsWith address s.prefix → length s.prefix ≤ length r.prefix
  pub least : (s : Route) → Contains routes s → s.prefix ≡ r.prefix → r.client ≤ s.client

-- the client to which an address goes: none where no prefix begins it
abbrev pub IsRouted : List Route → List ℕ → Option ℕ → Type 0
IsRouted routes address (Some client) = (r : Route) × IsLongest routes address r × (r.client ≡ client)
IsRouted routes address None = (r : Route) → Contains routes r → ¬ BeginsWith address r.prefix

-- the route has the longer prefix, or one as long and the smaller client
abbrev pub is_preferred : Route → Route → Bool
is_preferred r s = nat_lt (length s.prefix) (length r.prefix) || ((length r.prefix == length s.prefix) && nat_lt r.client s.client)

-- the route, or the one that is preferred to it
abbrev pub better_of : Route → Option Route → Route
better_of r None = r
better_of r (Some s) = if is_preferred s r then s else r

-- the route with the longest prefix, and of those with as long a prefix the one with the least client
abbrev pub best : List Route → Option Route
best [] = None
best (r ∷ rs) = Some (better_of r (best rs))

-- the client to which an address goes: that of the best route of those whose prefix begins the address
abbrev pub client_for : List Route → List ℕ → Option ℕ
client_for routes address = option_map (λ r. r.client) (best (filter (λ r. starts_with nat_eq address r.prefix) routes))

-- the routes are one
abbrev pub is_route : Route → Route → Bool
is_route r s = bytes_eq r.prefix s.prefix && (r.client == s.client)

-- the route is among them
abbrev pub has_route : List Route → Route → Bool
has_route routes r = list_any (is_route r) routes

-- the row may be added
abbrev pub IsNew : List Route → Route → Type 0
IsNew routes r = (length r.prefix ≤ 64) × ¬ Contains routes r

-- why a row is not added: memory is asked for where nothing else stands in the way
abbrev pub IsRouteFault : List Route → Route → RouteFault → Type 0
IsRouteFault routes r TooLong = 64 < length r.prefix
IsRouteFault routes r Known = (length r.prefix ≤ 64) × Contains routes r
IsRouteFault routes r NoMemory = IsNew routes r
