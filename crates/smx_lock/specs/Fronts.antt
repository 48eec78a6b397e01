-- What clauses see of a lock, of a seat and of a hold.
use Rattle.std.specs.Prelude.{◌≡◌, ℕ, ◌+◌, ◌<◌, ◌≤◌, ◌⊎◌, List, [], ◌++◌, All, Option, Some, None}
use mathlib.Core.List.{IsPrefix}
use Rattle.atomic_table.specs.Seated.{TableId}
use Rattle.smx_ticket_core.specs.declared.callers.Caller.{Caller}
use Rattle.smx_ticket_core.specs.declared.callers.Caller.TheVariants.{Idle, Read, Saw}
use Rattle.smx_ticket_core.specs.Machine.{most, ticket}
use Rattle.smx_lock.specs.declared.views.View.{View}
use Rattle.smx_lock.specs.declared.faults.TryFault.{TryFault}
use Rattle.smx_lock.specs.declared.faults.TryFault.TheVariants.{Spent, Busy}
use Rattle.smx_lock.specs.Notes.{notes_of}

-- which lock it is, and the part of the value that never changes
pub record LockId (F : Type 0) : Type 0 where
  pub table : TableId
  pub fixed : F

-- What a seat knows between two calls: a history that has been, its own notes in that, and one more than the ticket of its last hold, 0 before. Where its caller is not Idle every ticket was drawn
pub record Front (N F : Type 0) : Type 0 where
  pub lock : LockId F
  pub caller : Caller
  pub number : ℕ
  pub seen : List N
  pub mine : List N
  pub last : ℕ
  -- the lock's seats when its last hold ended; a new seat counts itself and those before it
  pub seats : ℕ

-- What a seat knows in a hold: the history that it found, its own notes in it, one more than its ticket, the count of seats and the value
pub record Hold (S N F : Type 0) : Type 0 where
  pub lock : LockId F
  pub number : ℕ
  pub found : List N
  pub mine : List N
  pub last : ℕ
  pub seats : ℕ
  pub value : S

abbrev pub front_of : {N F : Type 0} → TableId → View N F → Front N F
front_of id v = record { lock = record { table = id; fixed = v.fixed }; caller = v.caller; number = v.number; seen = v.seen; mine = v.mine; last = v.last; seats = v.seats }

module _ {N F : Type 0} where
  -- the seat that a lock is made with: it has seen nothing, and there is no other
  abbrev pub first_front : LockId F → Front N F
  first_front l = record { lock = l; caller = Idle; number = 0; seen = []; mine = []; last = 0; seats = 1 }

  -- a front that is no seat's
  abbrev nobody : F → Front N F
  nobody fixed = first_front record { table = record { words = 0; slots = 0; views_name = 0; atom = 0; block = 0; offset = 0; slot_names = [] }; fixed = fixed }

  -- every ticket was drawn, and nothing else changed
  abbrev pub IsSpent : Front N F → Front N F → Type 0
  IsSpent f g = ((g ≡ record f { caller = Read most }) ⊎ (g ≡ record f { caller = Saw most }))

  -- the front of a place that has a seat
  abbrev pub front_in : F → Option (Front N F) → Front N F
  front_in fixed (Some f) = f
  front_in fixed None = nobody fixed

-- One hold served a call: it found a history that begins with all that the seat had seen and has just the seat's own notes under its number, and it left these new notes
pub record Serves {N F : Type 0} (writer : N → ℕ) (f g : Front N F) (found new : List N) : Type 0 where
  pub lock : g.lock ≡ f.lock
  pub number : g.number ≡ f.number
  pub caller : g.caller ≡ Idle
  pub begins : IsPrefix f.seen found
  pub own : notes_of writer f.number found ≡ f.mine
  pub seen : g.seen ≡ found ++ new
  pub mine : g.mine ≡ f.mine ++ new
  pub rises : f.last < g.last
  -- seats are numbered from 0, and no seat is taken out of the count
  pub counts : f.seats ≤ g.seats
  pub one_seat : g.number < g.seats
  -- no number that was not yet given has a note, and a seat that was alone found its own notes and no others
  pub no_others : (k : ℕ) → g.seats ≤ k → notes_of writer k found ≡ []
  pub alone : f.seats ≡ 1 → found ≡ f.mine

module _ {S N F : Type 0} where
  abbrev pub hold_of : TableId → View N F → S → Hold S N F
  hold_of id v x = record { lock = record { table = id; fixed = v.fixed }; number = v.number; found = v.seen; mine = v.mine; last = ticket v.caller; seats = v.seats; value = x }

  -- What a hold finds: a history that begins with all that the seat had seen and has just the seat's own notes under its number, and a value that agrees with that history and has the lock's fixed part
  pub record Finds (writer : N → ℕ) (fixed_of : S → F) (suits : S → List N → Type 0) (f : Front N F) (h : Hold S N F) : Type 0 where
    pub lock : h.lock ≡ f.lock
    pub number : h.number ≡ f.number
    pub begins : IsPrefix f.seen h.found
    pub mine : h.mine ≡ f.mine
    pub own : notes_of writer h.number h.found ≡ h.mine
    pub rises : f.last < h.last
    -- seats are numbered from 0, and no seat is taken out of the count
    pub one_seat : h.number < h.seats
    pub counts : f.seats ≤ h.seats
    -- no number that is not yet given has a note, and a seat that was alone finds its own notes and no others, and is alone
    pub no_others : (k : ℕ) → h.seats ≤ k → notes_of writer k h.found ≡ []
    pub alone : f.seats ≡ 1 → h.found ≡ f.mine
    pub stays_alone : f.seats ≡ 1 → h.seats ≡ 1
    pub agrees : suits h.value h.found
    pub fixed : fixed_of h.value ≡ h.lock.fixed

  -- the seat after a hold that added these notes
  abbrev pub after_hold : Hold S N F → List N → Front N F
  after_hold h new = record { lock = h.lock; caller = Idle; number = h.number; seen = h.found ++ new; mine = h.mine ++ new; last = h.last; seats = h.seats }

  -- the holder made a seat, which has seen what was found
  abbrev pub host_hold : Hold S N F → Hold S N F
  host_hold h = record h { seats = h.seats + 1 }

  -- the seat that it made: its number is the count of seats before
  abbrev pub guest_front : Hold S N F → Front N F
  guest_front h = record { lock = h.lock; caller = Idle; number = h.seats; seen = h.found; mine = []; last = 0; seats = h.seats + 1 }

  -- one hold, whatever it found, made this seat and no note
  abbrev pub MakesSeat : (N → ℕ) → (S → F) → (S → List N → Type 0) → Front N F → Front N F → Front N F → Type 0
  MakesSeat writer fixed_of suits f g s = (h : Hold S N F) × Finds writer fixed_of suits f h × (h.seats < most) × (g ≡ after_hold (host_hold h) []) × (s ≡ guest_front h)

  -- one hold found that 2^62 seats were made, and changed nothing
  abbrev pub HasNoRoom : (N → ℕ) → (S → F) → (S → List N → Type 0) → Front N F → Front N F → Type 0
  HasNoRoom writer fixed_of suits f g = (h : Hold S N F) × Finds writer fixed_of suits f h × (h.seats ≡ most) × (g ≡ after_hold h [])

  -- no seat was made: every ticket was drawn, or there is no room for one
  abbrev pub MakesNoSeat : (N → ℕ) → (S → F) → (S → List N → Type 0) → Front N F → Front N F → Type 0
  MakesNoSeat writer fixed_of suits f g = IsSpent f g ⊎ HasNoRoom writer fixed_of suits f g

  -- a value that agrees with a history which begins with what the seat has seen and has just the seat's own notes under its number
  abbrev pub IsLast : (N → ℕ) → (S → F) → (S → List N → Type 0) → Front N F → S → Type 0
  IsLast writer fixed_of suits f x = ((h : List N) × IsPrefix f.seen h × (notes_of writer f.number h ≡ f.mine) × suits x h) × (fixed_of x ≡ f.lock.fixed)

  -- the hold with another value
  abbrev pub holding : Hold S N F → S → Hold S N F
  holding h x = record h { value = x }

  -- the value may be put back, with these notes
  pub record MayLeave (writer : N → ℕ) (fixed_of : S → F) (suits : S → List N → Type 0) (h : Hold S N F) (new : List N) : Type 0 where
    pub own : All (λ n. writer n ≡ h.number) new
    pub agrees : suits h.value (h.found ++ new)
    pub fixed : fixed_of h.value ≡ h.lock.fixed

  module _ {A : Type 0} where
    -- whatever a hold finds, what is done in it leaves a value that may be put back with these notes
    abbrev pub Leaves : (N → ℕ) → (S → F) → (S → List N → Type 0) → Front N F → (ℕ → S → A → S → Type 0) → (ℕ → S → A → List N) → Type 0
    Leaves writer fixed_of suits f does notes = (h : Hold S N F) (answer : A) (w : S) → Finds writer fixed_of suits f h → does h.number h.value answer w → MayLeave writer fixed_of suits (holding h w) (notes h.number h.value answer)

    -- it was done in one hold, whatever that found, and gave this answer
    abbrev pub Runs : (N → ℕ) → (S → F) → (S → List N → Type 0) → Front N F → Front N F → (ℕ → S → A → S → Type 0) → (ℕ → S → A → List N) → A → Type 0
    Runs writer fixed_of suits f g does notes answer = (h : Hold S N F) × (w : S) × Finds writer fixed_of suits f h × does h.number h.value answer w × (g ≡ after_hold (holding h w) (notes h.number h.value answer))

-- a try that failed: every ticket was drawn, or another caller was there and nothing changed; a seat that was spent before is spent
abbrev pub Refused : {N F : Type 0} → Front N F → Front N F → TryFault → Type 0
Refused f g Spent = IsSpent f g
Refused f g Busy = (g ≡ f) × (f.caller ≡ Idle)
