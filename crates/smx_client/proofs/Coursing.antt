-- One turn more of a run.
use Rattle.std.proofs.Common.{◌≡◌, ℕ, List, [], ◌∷◌, ◌++◌, Result, refl}
use Rattle.smx_link.specs.declared.link.Polled.{Polled}
use Rattle.smx_link.specs.declared.link.LinkFault.{LinkFault}
use Rattle.smx_turns.specs.declared.end.TurnEnd.{TurnEnd}
use Rattle.smx_turns.specs.declared.end.Fault.{Fault}
use Rattle.smx_turns.specs.Runs.{Runs}
use Rattle.smx_turns.specs.Steps.{are_quiet}
use Rattle.smx_turns.proofs.Chains.{runs_push}
use Rattle.smx_client.specs.Events.{is_quiet_event}
use Rattle.smx_client.specs.Scenes.{before, scene_of}
use Rattle.smx_client.specs.Table.{phase_of, IsTurn}
use Rattle.smx_client.specs.Turns.{Changes}
use Rattle.smx_client.specs.Courses.{Course, TurnsSo}

module _ {L : Type 0} (offered : L → List ℕ) (polls : L → List (Result Polled LinkFault)) (failures : L → ℕ) (now : ℕ) where
  pub turned_more : (a b d : Course L) (end : Result TurnEnd Fault) → (ends : List (Result TurnEnd Fault)) × Runs (TurnsSo offered polls failures now) a ends b
      → Changes d.worker.turns (scene_of offered polls failures b.asked b.told b.queries b.worker) d.worker.steps (scene_of offered polls failures d.asked d.told d.queries d.worker)
      → IsTurn end (are_quiet is_quiet_event d.worker.steps) (phase_of (before now b.worker) d.worker.steps)
      → d.worker.ends ≡ b.worker.ends ++ end ∷ [] → (ends : List (Result TurnEnd Fault)) × Runs (TurnsSo offered polls failures now) a ends d
  turned_more a b d end r changes order ends =
      (r.0 ++ end ∷ [], runs_push (TurnsSo offered polls failures now) a b d r.0 (r.0 ++ end ∷ []) end refl (record { changes = changes; order = order; ends = ends }) r.1)
