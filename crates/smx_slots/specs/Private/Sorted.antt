-- The order of a roll's rows, and where a client is among them.
use Rattle.std.specs.Prelude.{◌≡◌, ◌<◌, ◌≤◌, ℕ, length, slice_index_or}
use Rattle.std.specs.Vec.{vec_capacity}
use Rattle.smx_slots.specs.declared.roll.Roll.TheInside.{Inside}
use Rattle.smx_slots.specs.Rolls.{Rows, Listing}

-- the client of the row at this place
abbrev pub client_at : Rows → ℕ → ℕ
client_at rows i = let row = slice_index_or rows i (0, 0) in row.0

-- the clients' numbers rise
abbrev pub IsRising : Rows → Type 0
IsRising rows = (i j : ℕ) → i < j → j < length rows → client_at rows i < client_at rows j

abbrev pub listing_of : Inside → Listing
listing_of a = record { most = a.most; rows = a.rows.items }

pub record IsSorted (a : Inside) : Type 0 where
  pub rising : IsRising a.rows.items
  pub room : a.most ≤ vec_capacity a.rows

-- the client's row is there
pub record IsAt (rows : Rows) (client i : ℕ) : Type 0 where
  pub within : i < length rows
  pub is : client_at rows i ≡ client

-- a row of the client would go there
pub record IsGap (rows : Rows) (client i : ℕ) : Type 0 where
  pub within : i ≤ length rows
  pub smaller : (j : ℕ) → j < i → client_at rows j < client
  pub greater : (j : ℕ) → i ≤ j → j < length rows → client < client_at rows j
