-- How a turn ends that only writes, and how a run of turns does.
use Rattle.std.specs.Prelude.{◌≡◌, ◌<◌, ℕ, Bool, true, false, zero, suc, List, [], ◌∷◌, ◌++◌, Result, Ok, Err}
use Rattle.smx_turns.specs.declared.end.Fault.{Fault}
use Rattle.smx_turns.specs.declared.end.RunEnd.{RunEnd}
use Rattle.smx_turns.specs.declared.end.RunEnd.TheVariants as run
use Rattle.smx_turns.specs.declared.end.TurnEnd.{TurnEnd}
use Rattle.smx_turns.specs.declared.end.TurnEnd.TheVariants.{Worked, Filled, Idle, Done}

-- whether octets are left
abbrev pub last_end : Bool → TurnEnd
last_end true = Worked
last_end false = Done

-- these ends, after so many turns that worked
abbrev pub worked_turns : ℕ → List (Result TurnEnd Fault) → List (Result TurnEnd Fault)
worked_turns zero ends = ends
worked_turns (suc k) ends = Ok Worked ∷ worked_turns k ends

-- the last turn, after fewer than n that worked
abbrev pub LastIs : ℕ → Result TurnEnd Fault → List (Result TurnEnd Fault) → List (Result TurnEnd Fault) → Type 0
LastIs n last old new = (k : ℕ) × (k < n) × (new ≡ old ++ worked_turns k (last ∷ []))

-- how n turns at most ended: each but the last worked
abbrev pub EndsSo : ℕ → RunEnd → List (Result TurnEnd Fault) → List (Result TurnEnd Fault) → Type 0
EndsSo n run.Turns old new = new ≡ old ++ worked_turns n []
EndsSo n run.Filled old new = LastIs n (Ok Filled) old new
EndsSo n run.Left old new = LastIs n (Ok Done) old new
EndsSo n run.Idle old new = LastIs n (Ok Idle) old new
EndsSo n (run.Fault fault) old new = LastIs n (Err fault) old new
