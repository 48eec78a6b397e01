-- What a ledger was told, and how many requests are under way by it.
use Rattle.std.specs.Prelude.{◌≡◌, ◌<◌, ℕ, Bool, true, false, List, [], ◌∷◌, ◌==◌, ◌&&◌, ◌||◌, ◌+◌, ◌-◌, nat_lt, not, Option, Some, None, slice_get, slice_set, length, ◌++◌, if◌then◌else◌}
use Rattle.std.specs.Option.{option_map_or}
use Rattle.smx_slots.specs.declared.movement.Movement.{Movement}
use Rattle.smx_slots.specs.declared.movement.Movement.TheVariants.{Bound, Accepted, Settled, Left}
use Rattle.smx_slots.specs.declared.limits.AccountLimits.{AccountLimits}

-- what the ledger was told, the latest first; by index the key of each account, which it keeps while indexes change; by key the limits; and whether nothing more is admitted
pub record Book : Type 0 where
  pub movements : List Movement
  pub keys : List ℕ
  pub limits : List AccountLimits
  pub draining : Bool

-- the account by which the client was bound last
abbrev pub account_of : ℕ → List Movement → Option ℕ
account_of client [] = None
account_of client (Bound c key ∷ movements) = if c == client then Some key else account_of client movements
account_of client (Accepted c ∷ movements) = account_of client movements
account_of client (Settled c ∷ movements) = account_of client movements
account_of client (Left c ∷ movements) = account_of client movements

abbrev pub is_at : ℕ → Option ℕ → Bool
is_at key None = false
is_at key (Some k) = k == key

-- whether the client is bound
abbrev pub is_bound : ℕ → List Movement → Bool
is_bound client [] = false
is_bound client (Bound c key ∷ movements) = if c == client then true else is_bound client movements
is_bound client (Accepted c ∷ movements) = is_bound client movements
is_bound client (Settled c ∷ movements) = is_bound client movements
is_bound client (Left c ∷ movements) = if c == client then false else is_bound client movements

-- how many requests of the client are under way: those accepted less those settled
abbrev pub requests_of : ℕ → List Movement → ℕ
requests_of client [] = 0
requests_of client (Bound c key ∷ movements) = requests_of client movements
requests_of client (Accepted c ∷ movements) = if c == client then requests_of client movements + 1 else requests_of client movements
requests_of client (Settled c ∷ movements) = if c == client then requests_of client movements - 1 else requests_of client movements
requests_of client (Left c ∷ movements) = requests_of client movements

-- whether the client is bound or has requests under way
abbrev pub is_known : ℕ → List Movement → Bool
is_known client movements = is_bound client movements || nat_lt 0 (requests_of client movements)

-- how many requests of the account's clients are: those accepted less those settled, of clients that are gone too
abbrev pub count_of : ℕ → List Movement → ℕ
count_of key [] = 0
count_of key (Bound c k ∷ movements) = count_of key movements
count_of key (Accepted c ∷ movements) = if is_at key (account_of c movements) then count_of key movements + 1 else count_of key movements
count_of key (Settled c ∷ movements) = if is_at key (account_of c movements) then count_of key movements - 1 else count_of key movements
count_of key (Left c ∷ movements) = count_of key movements

-- how many of all are
abbrev pub total_of : List Movement → ℕ
total_of [] = 0
total_of (Bound c key ∷ movements) = total_of movements
total_of (Accepted c ∷ movements) = total_of movements + 1
total_of (Settled c ∷ movements) = total_of movements - 1
total_of (Left c ∷ movements) = total_of movements

-- how many clients are bound by the account
abbrev pub bound_of : ℕ → List Movement → ℕ
bound_of key [] = 0
bound_of key (Bound c k ∷ movements) = if k == key then bound_of key movements + 1 else bound_of key movements
bound_of key (Accepted c ∷ movements) = bound_of key movements
bound_of key (Settled c ∷ movements) = bound_of key movements
bound_of key (Left c ∷ movements) = if is_at key (account_of c movements) then bound_of key movements - 1 else bound_of key movements

-- one movement more
abbrev pub with_movement : Movement → Book → Book
with_movement movement book = record book { movements = movement ∷ book.movements }

-- the client is bound by the account with this key
abbrev pub with_client : ℕ → Option ℕ → Book → Book
with_client client None book = book
with_client client (Some key) book = with_movement (Bound client key) book

-- the greatest number of requests or clients that is counted
abbrev pub greatest_count : ℕ
greatest_count = 0xFFFF_FFFF_FFFF_FFFF

-- one more is within the limit, where there is one
abbrev pub is_below : Option ℕ → ℕ → Bool
is_below None count = nat_lt count greatest_count
is_below (Some limit) count = nat_lt count limit

abbrev pub binds_limit : ℕ → Book → Option ℕ
binds_limit key book = option_map_or (λ limits. limits.binds) (slice_get book.limits key) None

abbrev pub requests_limit : ℕ → Book → Option ℕ
requests_limit key book = option_map_or (λ limits. limits.requests) (slice_get book.limits key) None

-- whether the client, which isn't known, may be bound by the account with this key
abbrev pub may_bind : ℕ → Option ℕ → Book → Bool
may_bind client None book = false
may_bind client (Some key) book = not book.draining && not (is_known client book.movements) && is_below (binds_limit key book) (bound_of key book.movements)

-- whether one more request of the client may be under way
abbrev pub may_request : ℕ → Option ℕ → Book → Bool
may_request client None book = false
may_request client (Some key) book = not book.draining && is_bound client book.movements && is_below (requests_limit key book) (count_of key book.movements)

-- the same beside so many requests that have leave and aren't accepted yet; with none it is as above
abbrev pub may_request_beside : ℕ → ℕ → Option ℕ → Book → Bool
may_request_beside leaves client None book = false
may_request_beside leaves client (Some key) book = not book.draining && is_bound client book.movements && is_below (requests_limit key book) (count_of key book.movements + leaves)

-- leave can be given to so many more requests, one after another, beside those that have it
pub record IsSpare (spare leaves client : ℕ) (book : Book) : Type 0 where
  pub few : (k : ℕ) → k < spare → leaves + k < greatest_count
  pub may : (k : ℕ) → k < spare → may_request_beside (leaves + k) client (account_of client book.movements) book ≡ true

-- whether one more of the client can be counted
abbrev pub is_countable : ℕ → Option ℕ → List Movement → Bool
is_countable client None movements = false
is_countable client (Some key) movements = is_bound client movements && nat_lt (requests_of client movements) greatest_count && nat_lt (count_of key movements) greatest_count && nat_lt (total_of movements) greatest_count

-- the client is gone, where it was bound
abbrev pub without_client : ℕ → Book → Book
without_client client book = if is_bound client book.movements then with_movement (Left client) book else book

-- a request of the client was accepted, where it can be counted
abbrev pub with_accepted : ℕ → Book → Book
with_accepted client book = if is_countable client (account_of client book.movements) book.movements then with_movement (Accepted client) book else book

-- a request of the client was answered or failed, where one is under way
abbrev pub with_settled : ℕ → Book → Book
with_settled client book = if nat_lt 0 (requests_of client book.movements) then with_movement (Settled client) book else book

-- by index the keys of accounts, and by key their limits
pub record Accounts : Type 0 where
  pub keys : List ℕ
  pub limits : List AccountLimits

abbrev pub accounts : List ℕ → List AccountLimits → Accounts
accounts keys limits = record { keys = keys; limits = limits }

-- whether an account moved to this index
abbrev pub moves_to : ℕ → Option ℕ → Bool
moves_to index None = false
moves_to index (Some new) = new == index

-- of accounts that moved so, the key of the first that moved to this index
abbrev pub key_moved : List (Option ℕ) → List ℕ → ℕ → Option ℕ
key_moved [] keys index = None
key_moved (move ∷ moves) [] index = None
key_moved (move ∷ moves) (key ∷ keys) index = if moves_to index move then Some key else key_moved moves keys index

-- one account more: one that has a key keeps it and has these limits now, and any other has a key of its own
abbrev pub with_account : Option ℕ → AccountLimits → Accounts → Accounts
with_account (Some key) limits a = accounts (a.keys ++ key ∷ []) (slice_set a.limits key limits)
with_account None limits a = accounts (a.keys ++ length a.limits ∷ []) (a.limits ++ limits ∷ [])

-- the accounts with these limits, from an index on, where this is the key of one that moved to an index
abbrev pub with_accounts : (ℕ → Option ℕ) → ℕ → List AccountLimits → Accounts → Accounts
with_accounts key_of index [] a = a
with_accounts key_of index (limits ∷ more) a = with_accounts key_of (index + 1) more (with_account (key_of index) limits a)

-- other accounts: who moved keeps its key, and with it its clients and their requests; the limits of one that is gone stay too
abbrev pub renewed : List (Option ℕ) → List AccountLimits → Book → Book
renewed moves limits book =
    let a = with_accounts (key_moved moves book.keys) 0 limits (accounts [] book.limits) in
    record book { keys = a.keys; limits = a.limits }
