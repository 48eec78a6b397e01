-- Which client has which slot.
use Rattle.std.specs.Prelude.{◌≡◌, ◌==◌, ◌&&◌, ℕ, List, [], ◌∷◌, Bool, Option, Some, None, is_none, length, nat_lt, if◌then◌else◌}

-- a client and its slot, in the order of the clients' numbers
abbrev pub Rows : Type 0
Rows = List (ℕ × ℕ)

-- for so many clients memory was taken, and these have a slot
pub record Listing : Type 0 where
  pub most : ℕ
  pub rows : Rows

-- the slot of the client
abbrev pub slot_of : Rows → ℕ → Option ℕ
slot_of [] client = None
slot_of ((c, slot) ∷ rows) client = if c == client then Some slot else slot_of rows client

-- whether the client has no slot and there is room for one more
abbrev pub may_add : ℕ → Listing → Bool
may_add client roll = is_none (slot_of roll.rows client) && nat_lt (length roll.rows) roll.most

-- the client has this slot now, or none, and the others have theirs
abbrev pub SetsSlot : Option ℕ → Rows → ℕ → Rows → Type 0
SetsSlot slot old client new = (c : ℕ) → slot_of new c ≡ (if client == c then slot else slot_of old c)
