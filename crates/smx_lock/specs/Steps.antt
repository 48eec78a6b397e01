-- What each step of the table tells the seat that takes it. No contract of a public function cites it.
use Rattle.std.specs.Prelude.{true, false, ◌≡◌, ◌≢◌, ℕ, ◌+◌, ◌<◌, ◌≤◌, ◌⊎◌, List, [], ◌∷◌, ◌++◌, Option, Some}
use mathlib.Core.List.{IsPrefix}
use Rattle.atomic_table.specs.Table.{Step, rest}
use Rattle.smx_ticket_core.specs.declared.callers.Caller.{Caller}
use Rattle.smx_ticket_core.specs.declared.callers.Caller.TheVariants.{Idle, Read, Saw, Waiting, Holding}
use Rattle.smx_ticket_core.specs.Machine.{most, ticket}
use Rattle.smx_lock.specs.declared.views.Case.{Case}
use Rattle.smx_lock.specs.declared.views.View.{View}
use Rattle.smx_lock.specs.Notes.{notes_of}
use Rattle.smx_lock.specs.Rule.{Seated, Agrees}

module _ {N F : Type 0} where
  -- *make*: a seat that has seen nothing
  abbrev pub newcomer : F → View N F
  newcomer fixed = record { caller = Idle; number = 0; seats = 1; seen = []; mine = []; last = 0; fixed = fixed; met = []; teller = 0; is_seat = true }

  abbrev pub turned : View N F → Caller → View N F
  turned v c = record v { caller = c }

  -- the view in a hold
  abbrev pub held : View N F → Caller → List N → ℕ → View N F
  held v c h seats = record v { caller = c; seen = h; seats = seats }

  -- the view after a hold that added these notes
  abbrev pub left : View N F → List N → View N F
  left v new = record v { caller = Idle; seen = v.seen ++ new; mine = v.mine ++ new; last = ticket v.caller }

  -- *split*: the holder's view once it made a seat, and the new seat's, whose number is the count of seats before
  abbrev pub host : View N F → View N F
  host v = record v { seats = v.seats + 1 }

  abbrev pub guest : View N F → View N F
  guest v = record { caller = Idle; number = v.seats; seats = v.seats + 1; seen = v.seen; mine = []; last = 0; fixed = v.fixed; met = []; teller = 0; is_seat = true }

  -- *tell*: a message has seen what the seat that tells has seen
  abbrev pub message : View N F → View N F
  message v = record v { caller = Idle; is_seat = false }

  -- *meet*: the seat v takes the message w in, and what is left of that message has seen nothing
  abbrev pub meeting : View N F → View N F → View N F
  meeting v w = record v { met = w.seen; teller = w.number }

  abbrev pub gone : F → View N F
  gone fixed = record { caller = Idle; number = 0; seats = 0; seen = []; mine = []; last = 0; fixed = fixed; met = []; teller = 0; is_seat = false }

module _ {S N F : Type 0} where
  -- *read-next*: next was read
  abbrev pub read_next : Step (Option (Case S)) → Seated S N F → ℕ → Seated S N F → Type 0
  read_next st m r m' = (m' ≡ (turned m.0 (Read r), m.1)) × (r ≤ most)

  -- *draw*: the ticket was drawn, or another number was read
  abbrev pub drew : Step (Option (Case S)) → Seated S N F → ℕ → Seated S N F → Type 0
  drew st m r m' = (r ≡ st.first → m' ≡ (turned m.0 (Waiting st.first), m.1)) × (r ≢ st.first → (m' ≡ (turned m.0 (Read r), m.1)) × (r ≤ most))

  -- What a hold begins with: the view before, the view and the value found. It has seen the whole history, of which its own notes are its number's;
  -- no number that is not below the count of seats has a note, so a seat that was alone finds its own notes and no others
  pub record Found (writer : N → ℕ) (fixed_of : S → F) (suits : S → List N → Type 0) (v w : View N F) (x : Case S) : Type 0 where
    pub number : w.number ≡ v.number
    pub made_with : w.fixed ≡ v.fixed
    pub stands : w.is_seat ≡ true
    pub begins : IsPrefix v.seen w.seen
    pub mine : w.mine ≡ v.mine
    pub own : notes_of writer w.number w.seen ≡ w.mine
    pub last : w.last ≡ v.last
    pub rises : v.last < ticket w.caller
    pub value : Agrees fixed_of suits w.fixed w.seen w.seats x
    pub some_seat : w.number < w.seats
    pub few : w.seats ≤ most
    pub no_others : (k : ℕ) → w.seats ≤ k → notes_of writer k w.seen ≡ []
    pub counts : v.seats ≤ w.seats
    pub alone : v.seats ≡ 1 → w.seen ≡ v.mine
    pub stays_alone : v.seats ≡ 1 → w.seats ≡ 1

  -- the hold with the ticket t begins, and the value is with the seat
  abbrev pub Takes : (N → ℕ) → (S → F) → (S → List N → Type 0) → Seated S N F → ℕ → Seated S N F → Type 0
  Takes writer fixed_of suits m t m' = (m'.0.caller ≡ Holding t) × ((x : Case S) × (m'.1 ≡ (0, Some x) ∷ m.1) × Found writer fixed_of suits m.0 m'.0 x) × (t < most)

  -- *look-in-vain*, *look-and-enter*: the seat's turn came and the value is with it, or nothing changed
  abbrev pub looked : (N → ℕ) → (S → F) → (S → List N → Type 0) → Step (Option (Case S)) → Seated S N F → ℕ → Seated S N F → Type 0
  looked writer fixed_of suits st m r m' = (m.0.caller ≡ Waiting r → Takes writer fixed_of suits m r m') × (m.0.caller ≢ Waiting r → m' ≡ m)

  -- *leave*: the value is back
  abbrev pub released : List N → Step (Option (Case S)) → Seated S N F → Seated S N F → Type 0
  released new st m m' = m' ≡ (left m.0 new, rest m.1)

  -- *read-serving*: serving was read
  abbrev pub read_serving : Step (Option (Case S)) → Seated S N F → ℕ → Seated S N F → Type 0
  read_serving st m r m' = (m' ≡ (turned m.0 (Saw r), m.1)) × (r ≤ most)

  -- *try-draw*: the ticket was drawn and served at once, or another caller was there
  abbrev pub tried : (N → ℕ) → (S → F) → (S → List N → Type 0) → Step (Option (Case S)) → Seated S N F → ℕ → Seated S N F → Type 0
  tried writer fixed_of suits st m r m' = (r ≡ st.first → Takes writer fixed_of suits m r m') × (r ≢ st.first → m' ≡ (turned m.0 Idle, m.1))

  -- *compare*: what the seat was told and what it has seen are beginnings of one history; a holder has seen all of that, and its count has the seat that told
  abbrev pub compared : Step (Option (Case S)) → Seated S N F → ℕ → Seated S N F → Type 0
  compared st m r m' = (m' ≡ m) × (IsPrefix m.0.met m.0.seen ⊎ IsPrefix m.0.seen m.0.met) × ((t : ℕ) → m.0.caller ≡ Holding t → IsPrefix m.0.met m.0.seen × (m.0.teller < m.0.seats))
