-- The rule that the lock's table keeps. No contract of a public function cites it.
-- Word 0 is the ticket that is drawn next, word 1 the ticket that is served. The one slot has the value, beside the count of seats.
use Rattle.std.specs.Prelude.{true, ◌≡◌, ℕ, ◌<◌, ◌≤◌, ◌⊎◌, List, [], ◌∷◌, map, Option, Some}
use mathlib.Core.Option.{some, none}
use mathlib.Core.List.{IsPrefix}
use lib.ListN.{get_elem?}
use Rattle.atomic_table.specs.Table.{State, Me}
use Rattle.smx_ticket_core.specs.declared.callers.Caller.{Caller}
use Rattle.smx_ticket_core.specs.declared.callers.Caller.TheVariants.{Idle, Holding}
use Rattle.smx_ticket_core.specs.Machine.{Machine, Reached, most}
use Rattle.smx_lock.specs.declared.views.Case.{Case}
use Rattle.smx_lock.specs.declared.views.View.{View}
pub use Rattle.smx_lock.specs.Notes.{notes_of}

-- where a view stands in the ticket machine
abbrev pub caller : {N F : Type 0} → View N F → Caller
caller v = v.caller

-- the ticket machine that the words and the views show
abbrev pub machine_of : {N F : Type 0} → ℕ → ℕ → List (View N F) → Machine
machine_of next serving views = record { next = next; serving = serving; callers = map caller views }

-- the words, the slot and all views
abbrev pub LockState : Type 0 → Type 0 → Type 0 → Type 0
LockState S N F = State (Option (Case S)) (View N F)

-- a view, and the slots that are with it
abbrev pub Seated : Type 0 → Type 0 → Type 0 → Type 0
Seated S N F = Me (Option (Case S)) (View N F)

-- What the rule says of one view: of the history h, the ticket served, the count of seats and whether the value is out.
-- A view is a seat's, or it is a message: what a seat had seen when it told another, until that took it in. Only a seat owns notes and a number
pub record Knows {N F : Type 0} (writer : N → ℕ) (fixed : F) (h : List N) (serving seats : ℕ) (out : Type 0) (v : View N F) : Type 0 where
  pub number : v.number < seats
  pub made_with : v.is_seat ≡ true → v.fixed ≡ fixed
  -- what it has seen, and what another told it, are beginnings of the history, and that other is one of the seats
  pub saw : IsPrefix v.seen h
  pub met : IsPrefix v.met h
  pub teller : v.teller < seats
  -- its own notes stand in the history, and in what it has seen, each once and in order
  pub own : v.is_seat ≡ true → notes_of writer v.number h ≡ v.mine
  pub own_seen : notes_of writer v.number v.seen ≡ v.mine
  pub last : v.last ≤ serving
  -- the seats were not more at its last hold; and where it was alone then, it still is
  pub counts : v.seats ≤ seats
  pub alone : v.is_seat ≡ true → v.seats ≡ 1 → seats ≡ 1
  -- no message takes part in the machine
  pub acts : (v.caller ≡ Idle) ⊎ (v.is_seat ≡ true)
  -- a holder has seen all, and the value is out with it
  pub holds : (t : ℕ) → v.caller ≡ Holding t → (v.seen ≡ h) × (v.seats ≡ seats) × out

-- a value that agrees with h, under the fixed part and the count of seats
pub record Agrees {S N F : Type 0} (fixed_of : S → F) (suits : S → List N → Type 0) (fixed : F) (h : List N) (seats : ℕ) (x : Case S) : Type 0 where
  pub agrees : suits x.value.value h
  pub fixed_is : fixed_of x.value.value ≡ fixed
  pub seats_is : x.seats ≡ seats

-- what holds between any two steps of any threads
pub record Ruled {S N F : Type 0} (writer : N → ℕ) (fixed_of : S → F) (suits : S → List N → Type 0) (first : ℕ) (fixed : F) (s : LockState S N F) : Type 0 where
  pub history : List N
  pub next : ℕ
  pub serving : ℕ
  pub seats : ℕ
  pub words : s.words ≡ next ∷ serving ∷ []
  -- a run of the ticket machine reaches what the words and the views show
  pub reached : Reached first (machine_of next serving s.views)
  -- the value is at home and agrees with the history, or it is out and a caller holds
  pub place : ((x : Case S) × (s.homes ≡ some (Some x) ∷ []) × Agrees fixed_of suits fixed history seats x)
      ⊎ ((s.homes ≡ none ∷ []) × ((i : ℕ) × (t : ℕ) × (v : View N F) × (get_elem? s.views i ≡ some v) × (v.caller ≡ Holding t)))
  pub each_seat : (j : ℕ) (v : View N F) → get_elem? s.views j ≡ some v → Knows writer fixed history serving seats (s.homes ≡ none ∷ []) v
  -- no two seats have one number; a number is not the view's place, since a message takes a place too
  pub apart : (i j : ℕ) (u v : View N F) → get_elem? s.views i ≡ some u → get_elem? s.views j ≡ some v → u.is_seat ≡ true → v.is_seat ≡ true → u.number ≡ v.number → i ≡ j
  -- no number that is not yet given has a note
  pub no_others : (k : ℕ) → seats ≤ k → notes_of writer k history ≡ []
  pub low : first ≤ most
  pub few : seats ≤ most
