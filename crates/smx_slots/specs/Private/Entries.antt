-- What a table of clients shows.
use Rattle.std.specs.Prelude.{◌≡◌, ◌==◌, ◌%◌, ◌-◌, ◌||◌, ℕ, List, Bool, true, nat_lt, Option, Some, None, nat_eq, slice_index_or, if◌then◌else◌}
use Rattle.std.specs.Option.{option_or}
use Rattle.std.specs.HashMap.{get}
use Rattle.smx_slots.specs.declared.entries.Entries.{Entries}
use Rattle.smx_slots.specs.declared.entries.Entry.{Entry}
use Rattle.smx_slots.specs.declared.entries.Row.{Row}

-- where the client's row is
abbrev pub place_of : ℕ → ℕ
place_of client = client % 1024

-- the entry of a row that is the client's
abbrev pub entry_of : ℕ → Option Row → Option Entry
entry_of client None = None
entry_of client (Some row) = if row.client == client then Some row.entry else None

-- whether no other client has the row
abbrev pub is_free_for : ℕ → Option Row → Bool
is_free_for client None = true
is_free_for client (Some row) = row.client == client

-- what is known of a client once one of its requests is settled: nothing where it is gone and had no other
abbrev pub settled_entry : Option Entry → Option Entry
settled_entry None = None
settled_entry (Some e) = if e.here || nat_lt 1 e.requests then Some (record e { requests = e.requests - 1 }) else None

-- what is known of the client, where these are the rows and so much is known of those that aren't there
abbrev pub entry_in : List (Option Row) → (ℕ → Option Entry) → ℕ → Option Entry
entry_in rows others client = option_or (entry_of client (slice_index_or rows (place_of client) None)) (others client)

abbrev pub entry_at : ℕ → Entries → Option Entry
entry_at client a = entry_in a.rows.items (get nat_eq a.others) client

-- the client has this entry now, and the others have theirs
abbrev pub SetsEntry : Option Entry → Entries → ℕ → Entries → Type 0
SetsEntry entry old client new = (c : ℕ) → entry_at c new ≡ (if client == c then entry else entry_at c old)

abbrev pub HasSameEntries : Entries → Entries → Type 0
HasSameEntries old new = (c : ℕ) → entry_at c new ≡ entry_at c old
