-- What a gate answers in a turn, and what comes of what it is told.
use Rattle.std.specs.Prelude.{◌≡◌, ◌+◌, ℕ, Bool, true, false, not, ◌&&◌, ◌||◌, List, [], ◌∷◌, Option, Some, min, slice_get, if◌then◌else◌}
use Rattle.std.specs.Option.{option_map_or}
use Rattle.smx_turns.specs.declared.gate.Party.{Party}
use Rattle.smx_turns.specs.declared.gate.Party.TheVariants as party
use Rattle.smx_turns.specs.declared.gate.Point.{Point}
use Rattle.smx_turns.specs.declared.gate.Point.TheVariants as point
use Rattle.smx_slots.specs.declared.client_bell.ClientTurn.{ClientTurn}
use Rattle.smx_slots.specs.Ledger.{Book, account_of, may_bind, may_request_beside, with_client, with_accepted, with_settled}

-- what a turn of a client's worker changes by its questions: the ledger, the account by which the client was bound, whether a bind was refused, whether there was no memory for one, and to how many requests leave was given since a submit was last asked for
pub record Visit : Type 0 where
  pub book : Book
  pub account : Option ℕ
  pub refused : Bool
  pub lacked : Bool
  pub leaves : ℕ

abbrev pub visit : Book → Option ℕ → Bool → Bool → ℕ → Visit
visit book account refused lacked leaves = record { book = book; account = account; refused = refused; lacked = lacked; leaves = leaves }

-- whether the client may be bound by the account with this index
abbrev pub may_bind_at : ℕ → ℕ → Book → Bool
may_bind_at client index book = may_bind client (slice_get book.keys index) book

-- the ledger where the client is bound by it
abbrev pub bound_at : ℕ → ℕ → Book → Book
bound_at client index book = with_client client (slice_get book.keys index) book

-- the client is bound where it may be, and the answer says whether it is; one that may be and isn't had no memory, which is noted
pub record Binds (client index : ℕ) (old : Visit) (answer : Bool) (new : Visit) : Type 0 where
  pub may : answer ≡ true → may_bind_at client index old.book ≡ true
  pub bound : answer ≡ true → new ≡ record old { book = bound_at client index old.book; account = Some index }
  pub lacked : answer ≡ false → new ≡ record old { lacked = old.lacked || may_bind_at client index old.book }

-- what the gate of such a turn answers at a point, and what that changes
abbrev pub Answers : ClientTurn → Point → Visit → Bool → Visit → Type 0
Answers turn point.Reading old answer new = (answer ≡ turn.may_read) × (new ≡ old)
Answers turn (point.Binding index) old answer new = Binds turn.client index old answer new
Answers turn point.Refusing old answer new = (answer ≡ (turn.may_refuse && not old.refused)) × (new ≡ record old { refused = old.refused || answer })
Answers turn point.Admitting old answer new = (answer ≡ may_request_beside old.leaves turn.client (account_of turn.client old.book.movements) old.book) × (new ≡ record old { leaves = if answer then old.leaves + 1 else old.leaves })
Answers turn point.Submitting old answer new = (answer ≡ true) × (new ≡ record old { leaves = 0 })
Answers turn (point.Collecting lane) old answer new = new ≡ old
Answers turn point.Taking old answer new = (answer ≡ true) × (new ≡ old)

-- the ledger after a party was told in a turn of a lane's worker: a request of the party is settled
abbrev pub settled_by : Party → Book → Book
settled_by (party.Client client lane) book = with_settled client book
settled_by (party.Lane lane) book = book
settled_by (party.Answer lane) book = book
settled_by (party.Slot slot) book = book

-- the same in a turn of this client's worker, of which a lane that is told accepted a request
abbrev pub book_after : ℕ → Party → Book → Book
book_after client (party.Client c lane) book = with_settled c book
book_after client (party.Lane lane) book = with_accepted client book
book_after client (party.Answer lane) book = book
book_after client (party.Slot slot) book = book

-- the number of a slot's party behind so many lanes
abbrev pub slot_number : ℕ → ℕ → ℕ
slot_number lanes slot = min (lanes + slot) 0xFFFF_FFFF_FFFF_FFFF

-- the number of a party, where this client's slot is so: that of a client that is gone is above all
abbrev pub party_number : ℕ → (ℕ → Option ℕ) → Party → ℕ
party_number lanes slot_of (party.Lane lane) = lane
party_number lanes slot_of (party.Answer lane) = lane
party_number lanes slot_of (party.Slot slot) = slot_number lanes slot
party_number lanes slot_of (party.Client client lane) = option_map_or (slot_number lanes) (slot_of client) 0xFFFF_FFFF_FFFF_FFFF

-- whether anybody was told
abbrev pub has_told : List Party → Bool
has_told [] = false
has_told (p ∷ ps) = true
