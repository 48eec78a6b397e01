-- Which clients have which prefixes, in a table by the prefixes.
use Rattle.std.specs.Prelude.{◌≡◌, ◌≤◌, ℕ, Bool, bytes_eq, true, false, List, Option, Some, None, if◌then◌else◌}
use Rattle.std.specs.Option.{option_map_or}
use Rattle.std.specs.Ordering.{nat_cmp}
use Rattle.std.specs.HashMap.{get_by}
use Rattle.std.specs.BTreeSet.{contains}
use Rattle.smx_routes.specs.declared.by_prefix.ByPrefix.{ByPrefix}
use Rattle.smx_routes.specs.Routing.{route, is_route}

-- whether the client has the prefix
abbrev pub has_holder : ByPrefix → List ℕ → ℕ → Bool
has_holder a prefix client = option_map_or (λ clients. contains nat_cmp clients client) (get_by (λ k. bytes_eq prefix k.items) a.clients) false

abbrev pub HasNoHolder : ByPrefix → Type 0
HasNoHolder a = (p : List ℕ) (c : ℕ) → has_holder a p c ≡ false

abbrev pub HasSame : ByPrefix → ByPrefix → Type 0
HasSame old new = (p : List ℕ) (c : ℕ) → has_holder new p c ≡ has_holder old p c

-- whether this client has this prefix is b now, and the rest is as it was
abbrev pub SetsHolder : Bool → ByPrefix → List ℕ → ℕ → ByPrefix → Type 0
SetsHolder b old prefix client new = (p : List ℕ) (c : ℕ) → has_holder new p c ≡ (if is_route (route p c) (route prefix client) then b else has_holder old p c)

-- the least client of those that pass
abbrev pub IsLeast : (ℕ → Bool) → Option ℕ → Type 0
IsLeast passes (Some client) = (passes client ≡ true) × ((c : ℕ) → passes c ≡ true → client ≤ c)
IsLeast passes None = (c : ℕ) → passes c ≡ false
