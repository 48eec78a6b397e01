-- One turn more, at the moment that a clock gave.
use Rattle.std.proofs.Common.{◌≡◌, ℕ, ◌+◌, List, [], ◌∷◌, ◌++◌, Result, refl}
use Rattle.smx_session.specs.Moments.{is_bound}
use Rattle.smx_link.specs.declared.link.Polled.{Polled}
use Rattle.smx_link.specs.declared.link.LinkFault.{LinkFault}
use Rattle.smx_turns.specs.declared.gate.Question.{Question}
use Rattle.smx_turns.specs.declared.gate.Party.{Party}
use Rattle.smx_turns.specs.declared.directory.Query.{Query}
use Rattle.smx_turns.specs.declared.end.TurnEnd.{TurnEnd}
use Rattle.smx_turns.specs.declared.end.Fault.{Fault}
use Rattle.smx_turns.specs.Runs.{Runs}
use Rattle.smx_turns.proofs.Chains.{runs_push}
use Rattle.smx_upstream.specs.Phases.{phase_of, link_faults, IsTurn}
use Rattle.smx_upstream.specs.Quiet.{are_all_quiet}
use Rattle.smx_upstream.specs.Working.{Working, before_turn, scene_of, Changes}
use Rattle.smx_upstream.specs.Timing.{Timing, TurnsAt}
use Rattle.smx_upstream.proofs.Judgements.{judged_of, never_wrong}

module _ {C L : Type 0} (gives : C → ℕ → C → Type 0) (offered : L → List ℕ) (polls : L → List (Result Polled LinkFault)) (failures : L → ℕ) where
  pub clocked_more : (a b d : Timing C L) (now : ℕ) (end : Result TurnEnd Fault) → (moments : List ℕ) × Runs (TurnsAt gives offered polls failures) a moments b
      → gives b.clock now d.clock → IsTurn (is_bound d.worker.stand.session.state) (are_all_quiet d.worker.steps) end (phase_of (before_turn now b.worker) d.worker.steps)
      → Changes d.worker.stand.age.turns (scene_of offered polls failures b.asked b.told b.queries b.worker) d.worker.steps (scene_of offered polls failures d.asked d.told d.queries d.worker)
      → failures d.worker.wire.link ≡ failures b.worker.wire.link + link_faults end → d.worker.ends ≡ b.worker.ends ++ end ∷ [] → (moments : List ℕ) × Runs (TurnsAt gives offered polls failures) a moments d
  clocked_more a b d now end r asked order changes fails ends =
      (r.0 ++ now ∷ [], runs_push (TurnsAt gives offered polls failures) a b d r.0 (r.0 ++ now ∷ []) now refl (record { end = end; asked = asked; order = order; judged = judged_of (before_turn now b.worker) d.worker.steps refl (never_wrong (is_bound d.worker.stand.session.state) (are_all_quiet d.worker.steps) end _ order); changes = changes; fails = fails; ends = ends }) r.1)

  -- what is left of it once the clock is gone
  pub clocked_out : (a : Timing C L) (d : C) (asked : List Question) (told : List Party) (queries : List Query) (w : Working L) → (moments : List ℕ) × Runs (TurnsAt gives offered polls failures) a moments (record { clock = d; worker = w; asked = asked; told = told; queries = queries }) → (moments : List ℕ) × (last : C) × Runs (TurnsAt gives offered polls failures) a moments (record { clock = last; worker = w; asked = asked; told = told; queries = queries })
  clocked_out a d asked told queries w r = (r.0, d, r.1)
