-- What a turn's steps were.
use Rattle.std.specs.Prelude.{ℕ, Bool, true, false, ◌&&◌, List, [], ◌∷◌, Result, Ok, Err}
use Rattle.std.specs.List.{flat_map}
use Rattle.smx_link.specs.declared.link.Polled.{Polled}
use Rattle.smx_link.specs.declared.link.Polled.TheVariants.{Octets, Nothing, End}
use Rattle.smx_link.specs.declared.link.LinkFault.{LinkFault}
use Rattle.smx_turns.specs.declared.gate.Question.{Question}
use Rattle.smx_turns.specs.declared.step.Step.{Step}
use Rattle.smx_turns.specs.declared.step.Step.TheVariants.{Asked, Read, Marked, Did}
use Rattle.smx_turns.specs.Marks.{is_quiet_mark}

-- whether a read brought no octets
abbrev pub brings_none : Result Polled LinkFault → Bool
brings_none (Ok (Octets n)) = false
brings_none (Ok Nothing) = true
brings_none (Ok End) = true
brings_none (Err e) = true

module _ {E : Type 0} where
  abbrev pub ask_of : ℕ → Step E → List Question
  ask_of turn (Asked point answer) = record { point = point; turn = turn; answer = answer } ∷ []
  ask_of turn (Read r) = []
  ask_of turn (Marked m) = []
  ask_of turn (Did e) = []

  abbrev pub poll_of : Step E → List (Result Polled LinkFault)
  poll_of (Asked point answer) = []
  poll_of (Read r) = r ∷ []
  poll_of (Marked m) = []
  poll_of (Did e) = []

  abbrev pub event_of : Step E → List E
  event_of (Asked point answer) = []
  event_of (Read r) = []
  event_of (Marked m) = []
  event_of (Did e) = e ∷ []

  -- what the gate was asked in this turn
  unfoldable pub asks : ℕ → List (Step E) → List Question
  asks turn ss = flat_map (ask_of turn) ss

  -- the answers of the reads
  unfoldable pub polls : List (Step E) → List (Result Polled LinkFault)
  polls ss = flat_map poll_of ss

  -- the events among the steps
  unfoldable pub events : List (Step E) → List E
  events ss = flat_map event_of ss

  -- whether nothing came of the step
  abbrev pub is_quiet_step : (E → Bool) → Step E → Bool
  is_quiet_step event (Asked point answer) = true
  is_quiet_step event (Read r) = brings_none r
  is_quiet_step event (Marked m) = is_quiet_mark m
  is_quiet_step event (Did e) = event e

  -- whether nothing came of the steps
  unfoldable pub are_quiet : (E → Bool) → List (Step E) → Bool
  are_quiet event [] = true
  are_quiet event (s ∷ ss) = is_quiet_step event s && are_quiet event ss

-- where a turn stands after these steps, by the table of its worker
abbrev pub phase_from : {P S : Type 0} → (P → S → P) → P → List S → P
phase_from go p [] = p
phase_from go p (s ∷ ss) = phase_from go (go p s) ss
