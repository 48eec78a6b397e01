-- Turns, each at a moment that a clock gave.
use Rattle.std.specs.Prelude.{◌≡◌, ℕ, ◌+◌, List, [], ◌∷◌, ◌++◌, Result}
use Rattle.smx_session.specs.Moments.{is_bound}
use Rattle.smx_link.specs.declared.link.Polled.{Polled}
use Rattle.smx_link.specs.declared.link.LinkFault.{LinkFault}
use Rattle.smx_turns.specs.declared.gate.Question.{Question}
use Rattle.smx_turns.specs.declared.gate.Party.{Party}
use Rattle.smx_turns.specs.declared.directory.Query.{Query}
use Rattle.smx_turns.specs.declared.end.TurnEnd.{TurnEnd}
use Rattle.smx_turns.specs.declared.end.Fault.{Fault}
use Rattle.smx_upstream.specs.Judging.{AreJudged}
use Rattle.smx_upstream.specs.Phases.{phase_of, link_faults, IsTurn}
use Rattle.smx_upstream.specs.Quiet.{are_all_quiet}
use Rattle.smx_upstream.specs.Working.{Working, before_turn, scene_of, Changes}

-- a worker, the clock that is asked before each turn, what the gate was asked and told, and what the directory was asked
pub record Timing (C L : Type 0) : Type 0 where
  pub clock : C
  pub worker : Working L
  pub asked : List Question
  pub told : List Party
  pub queries : List Query

abbrev pub timing : {C L : Type 0} → C → List Question → List Party → List Query → Working L → Timing C L
timing clock asked told queries worker = record { clock = clock; worker = worker; asked = asked; told = told; queries = queries }

-- the clock was asked once, and a turn in the table's order was made at the moment that it gave; its steps are all that gate, directory and link were asked, and all that the link was offered
pub record TurnsAt {C L : Type 0} (gives : C → ℕ → C → Type 0) (offered : L → List ℕ) (polls : L → List (Result Polled LinkFault)) (failures : L → ℕ) (a : Timing C L) (now : ℕ) (b : Timing C L) : Type 0 where
  pub end : Result TurnEnd Fault
  pub asked : gives a.clock now b.clock
  pub order : IsTurn (is_bound b.worker.stand.session.state) (are_all_quiet b.worker.steps) end (phase_of (before_turn now a.worker) b.worker.steps)
  pub judged : AreJudged b.worker.steps
  pub changes : Changes b.worker.stand.age.turns (scene_of offered polls failures a.asked a.told a.queries a.worker) b.worker.steps (scene_of offered polls failures b.asked b.told b.queries b.worker)
  pub fails : failures b.worker.wire.link ≡ failures a.worker.wire.link + link_faults end
  pub ends : b.worker.ends ≡ a.worker.ends ++ end ∷ []
