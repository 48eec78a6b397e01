-- What the fields of a ledger show, and what they keep.
use Rattle.std.specs.Prelude.{◌≡◌, ◌<◌, ℕ, false, List, length, reverse, slice_index, All, Option, Some, None}
use Rattle.smx_slots.specs.declared.movement.Movement.{Movement}
use Rattle.smx_slots.specs.declared.ledger.Ledger.TheInside.{Inside}
use Rattle.smx_slots.specs.declared.entries.Entry.{Entry}
use Rattle.smx_slots.specs.Ledger.{Book, account_of, is_bound, requests_of, count_of, bound_of, total_of}
use Rattle.smx_slots.specs.Private.Entries.{entry_at}

-- the latest movement first
abbrev pub book_of : Inside → Book
book_of a = record { movements = reverse a.movements; keys = a.keys.items; limits = a.limits.items; draining = a.draining }

-- a client is known by this entry, of so many accounts
pub record IsOf (accounts : ℕ) (e : Entry) (client : ℕ) (movements : List Movement) : Type 0 where
  pub account : account_of client movements ≡ Some e.key
  pub here : is_bound client movements ≡ e.here
  pub requests : requests_of client movements ≡ e.requests
  pub within : e.key < accounts

-- nothing is left of a client
pub record IsForgotten (client : ℕ) (movements : List Movement) : Type 0 where
  pub gone : is_bound client movements ≡ false
  pub requests : requests_of client movements ≡ 0

abbrev pub IsEntry : ℕ → Option Entry → ℕ → List Movement → Type 0
IsEntry accounts (Some e) client movements = IsOf accounts e client movements
IsEntry accounts None client movements = IsForgotten client movements

-- these are the counts, by key
abbrev pub AreCounts : List ℕ → (ℕ → ℕ) → Type 0
AreCounts counts count = (key : ℕ) → slice_index counts key ≡ count key

pub record IsKept (a : Inside) : Type 0 where
  pub clients : (c : ℕ) → IsEntry (length a.limits.items) (entry_at c a.clients) c (reverse a.movements)
  pub requests : AreCounts a.requests.items (λ key. count_of key (reverse a.movements))
  pub bound : AreCounts a.bound.items (λ key. bound_of key (reverse a.movements))
  pub total : a.total ≡ total_of (reverse a.movements)
  pub keys : All (λ key. key < length a.limits.items) a.keys.items
  pub requests_length : length a.requests.items ≡ length a.limits.items
  pub bound_length : length a.bound.items ≡ length a.limits.items
