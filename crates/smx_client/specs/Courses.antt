-- Turns, one after another.
use Rattle.std.specs.Prelude.{◌≡◌, ℕ, List, [], ◌∷◌, ◌++◌, Result}
use Rattle.smx_link.specs.declared.link.Polled.{Polled}
use Rattle.smx_link.specs.declared.link.LinkFault.{LinkFault}
use Rattle.smx_turns.specs.declared.gate.Question.{Question}
use Rattle.smx_turns.specs.declared.gate.Party.{Party}
use Rattle.smx_turns.specs.declared.directory.Query.{Query}
use Rattle.smx_turns.specs.declared.end.TurnEnd.{TurnEnd}
use Rattle.smx_turns.specs.declared.end.Fault.{Fault}
use Rattle.smx_turns.specs.Steps.{are_quiet}
use Rattle.smx_client.specs.Events.{is_quiet_event}
use Rattle.smx_client.specs.Scenes.{before, scene_of}
use Rattle.smx_client.specs.Serving.{Serving}
use Rattle.smx_client.specs.Table.{phase_of, IsTurn}
use Rattle.smx_client.specs.Turns.{Changes}

-- a worker, what its gate was asked and told, and what its directory was asked
pub record Course (L : Type 0) : Type 0 where
  pub worker : Serving L
  pub asked : List Question
  pub told : List Party
  pub queries : List Query

abbrev pub course : {L : Type 0} → List Question → List Party → List Query → Serving L → Course L
course asked told queries worker = record { worker = worker; asked = asked; told = told; queries = queries }

-- a turn at this moment in the table's order that ended so; its steps are all that gate, directory and link were asked
pub record TurnsSo {L : Type 0} (offered : L → List ℕ) (polls : L → List (Result Polled LinkFault)) (failures : L → ℕ) (now : ℕ) (a : Course L) (end : Result TurnEnd Fault) (b : Course L) : Type 0 where
  pub changes : Changes b.worker.turns (scene_of offered polls failures a.asked a.told a.queries a.worker) b.worker.steps (scene_of offered polls failures b.asked b.told b.queries b.worker)
  pub order : IsTurn end (are_quiet is_quiet_event b.worker.steps) (phase_of (before now a.worker) b.worker.steps)
  pub ends : b.worker.ends ≡ a.worker.ends ++ end ∷ []
