-- What the fields of a roster show, and what they keep. No clause of a public function cites these.
use Rattle.std.specs.Prelude.{◌≡◌, ℕ, map}
use Rattle.std.specs.List.{AllByRecursion}
use Rattle.smx_lane.specs.declared.client_rows.Row.{Row}
use Rattle.smx_lane.specs.declared.roster.Roster.TheInside.{Inside}
use Rattle.smx_history.specs.Contents.{Member}
use Rattle.smx_history.specs.Prefixes.{RiseAbove}
use Rattle.smx_lane.specs.Members.{Clients, waiting_of}
use Rattle.smx_lane.specs.Private.ClientRows.{rows_of, KeepsClientRows}

abbrev pub member_in : ℕ × Row → Member
member_in e = record { client = e.0; by = e.1.by; last = e.1.last; pending = e.1.pending; waiting = e.1.waiting.items }

abbrev pub clients_of : Inside → Clients
clients_of a = record { places = a.places; members = map member_in (rows_of a.table) }

pub record KeepsRows (a : Inside) : Type 0 where
  pub table : KeepsClientRows a.table
  pub boxes : AllByRecursion (λ (e : ℕ × Row). e.1.waiting.capacity ≡ a.places) (rows_of a.table)
  pub clients : RiseAbove 0 (map (λ m. m.client) (map member_in (rows_of a.table)))
  pub waiting : a.waiting ≡ waiting_of (map member_in (rows_of a.table))
