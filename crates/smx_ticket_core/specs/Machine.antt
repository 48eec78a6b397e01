-- The ticket machine: two numbers and each caller's state. It knows no memory order and no value.
use Rattle.std.specs.Prelude.{◌≡◌, ℕ, ◌+◌, ◌≤◌, ◌<◌, ◌==◌, List, [], ◌∷◌, ◌++◌, length, set, Result, Ok, Err, replicate, if◌then◌else◌}
use mathlib.Core.Option.{Option, none, some}
use lib.ListN.{get_elem?}
use Rattle.smx_ticket_core.specs.declared.callers.Caller.{Caller}
use Rattle.smx_ticket_core.specs.declared.callers.Caller.TheVariants.{Idle, Read, Saw, Waiting, Holding}
use Rattle.smx_ticket_core.specs.declared.callers.Event.{Event}
use Rattle.smx_ticket_core.specs.declared.callers.Event.TheVariants.{ReadNext, Draw, Look, Leave, ReadServing, TryDraw}
use Rattle.smx_ticket_core.specs.declared.callers.Illegal.{Illegal}
use Rattle.smx_ticket_core.specs.declared.callers.Illegal.TheVariants.{NoCaller, WrongState, Spent}

pub record Machine : Type 0 where
  pub next : ℕ
  pub serving : ℕ
  pub callers : List Caller

-- the first ticket that is never drawn, 2^62
abbrev pub most : ℕ
most = 4611686018427387904

abbrev pub who : Event → ℕ
who (ReadNext i) = i
who (Draw i) = i
who (Look i) = i
who (Leave i) = i
who (ReadServing i) = i
who (TryDraw i) = i

-- next, serving and the caller's state after the event
abbrev pub Turn : Type 0
Turn = ℕ × (ℕ × Caller)

abbrev pub draw : ℕ → ℕ → ℕ → Caller → Result Turn Illegal
draw n s x won = if x == most then Err Spent else Ok (n + 1, (s, won))

-- the event table: at the numbers next and serving, the row of an event for a caller in a state
abbrev pub row : ℕ → ℕ → Event → Caller → Result Turn Illegal
row n s (ReadNext i) Idle = Ok (n, (s, Read n))
row n s (ReadNext i) (Read x) = Ok (n, (s, Read n))
row n s (Draw i) (Read x) = if n == x then draw n s x (Waiting x) else Ok (n, (s, Read n))
row n s (Look i) (Waiting t) = Ok (n, (s, (if s == t then Holding t else Waiting t)))
row n s (Leave i) (Holding t) = Ok (n, (t + 1, Idle))
row n s (ReadServing i) Idle = Ok (n, (s, Saw s))
row n s (TryDraw i) (Saw x) = if n == x then draw n s x (Holding x) else Ok (n, (s, Idle))
row n s _ _ = Err WrongState

abbrev pub after_turn : Machine → ℕ → Result Turn Illegal → Result Machine Illegal
after_turn m i (Ok t) = Ok record { next = t.0; serving = t.1.0; callers = set m.callers i t.1.1 }
after_turn m i (Err x) = Err x

abbrev pub at_caller : Machine → Event → Option Caller → Result Machine Illegal
at_caller m e none = Err NoCaller
at_caller m e (some c) = after_turn m (who e) (row m.next m.serving e c)

-- what one event does
abbrev pub after : Machine → Event → Result Machine Illegal
after m e = at_caller m e (get_elem? m.callers (who e))

abbrev pub start : ℕ → ℕ → Machine
start callers first = record { next = first; serving = first; callers = replicate callers Idle }

abbrev pub holding : Caller → ℕ
holding Idle = 0
holding (Read x) = 0
holding (Saw x) = 0
holding (Waiting t) = 0
holding (Holding t) = 1

-- the ticket of a hold that begins as c becomes d
abbrev pub begins : Caller → Caller → List ℕ
begins (Holding u) d = []
begins c (Holding t) = t ∷ []
begins c d = []

abbrev pub begins_between : Option Caller → Option Caller → List ℕ
begins_between (some c) (some d) = begins c d
begins_between c d = []

-- A run of so many callers from first. It did these events, the newest first, it reached m, and its holds had these tickets, the oldest first
abbrev pub Run : ℕ → ℕ → List Event → Machine → List ℕ → Type 0
Run callers first [] m holds = (m ≡ start callers first) × (holds ≡ [])
Run callers first (e ∷ es) m holds = (b : Machine) × (past : List ℕ) × Run callers first es b past × (after b e ≡ Ok m)
    × (holds ≡ past ++ begins_between (get_elem? b.callers (who e)) (get_elem? m.callers (who e)))

abbrev pub Reached : ℕ → Machine → Type 0
Reached first m = (es : List Event) × (holds : List ℕ) × Run (length m.callers) first es m holds

-- at most one caller holds
abbrev pub AtMostOne : Machine → Type 0
AtMostOne m = (i j t u : ℕ) → get_elem? m.callers i ≡ some (Holding t) → get_elem? m.callers j ≡ some (Holding u) → i ≡ j

-- the k-th hold, counted from 0, has the ticket first + k
abbrev pub InTicketOrder : ℕ → List ℕ → Type 0
InTicketOrder first holds = (k t : ℕ) → get_elem? holds k ≡ some t → t ≡ first + k

abbrev pub ExclusionLaw : Type 0
ExclusionLaw = (callers first : ℕ) (es : List Event) (m : Machine) (holds : List ℕ) → first ≤ most → Run callers first es m holds → AtMostOne m × InTicketOrder first holds

-- what a caller's state says of the two numbers
abbrev pub FitsNumbers : ℕ → ℕ → Caller → Type 0
FitsNumbers n s Idle = Unit {0}
FitsNumbers n s (Read x) = x ≤ n
FitsNumbers n s (Saw x) = x ≤ s
FitsNumbers n s (Waiting t) = (s ≤ t) × (t < n)
FitsNumbers n s (Holding t) = (t ≡ s) × (t < n)

-- one more than the caller's ticket, or 0
abbrev pub ticket : Caller → ℕ
ticket Idle = 0
ticket (Read x) = 0
ticket (Saw x) = 0
ticket (Waiting t) = t + 1
ticket (Holding t) = t + 1

-- what holds of each state that a run reaches
pub record Sound (m : Machine) : Type 0 where
  pub behind : m.serving ≤ m.next
  pub bounded : m.next ≤ most
  pub each : (i : ℕ) (c : Caller) → get_elem? m.callers i ≡ some c → FitsNumbers m.next m.serving c
  pub apart : (i j : ℕ) (c d : Caller) → get_elem? m.callers i ≡ some c → get_elem? m.callers j ≡ some d → 0 < ticket c → ticket c ≡ ticket d → i ≡ j
