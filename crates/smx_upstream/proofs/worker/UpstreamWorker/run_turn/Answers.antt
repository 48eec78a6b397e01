use Rattle.std.proofs.Common.{sym, ap, ◌∙◌}
use Rattle.smx_upstream.proofs.Eventful.{goes_at, goes_then}
use Rattle.smx_upstream.proofs.worker.UpstreamWorker.run_turn.Goals as goal

pub returns-in-Ok-Some-clause-goes : goal.returns-in-Ok-Some-clause-goes
returns-in-Ok-Some-clause-goes g c = (goes_then _ _ _ _ _ _ _ (c.open-turn.ensures.goes _ _ _ _) (c.open_part.ensures.goes _ _))

pub returns-in-Err-clause-goes : goal.returns-in-Err-clause-goes
returns-in-Err-clause-goes g c = (goes_then _ _ _ _ _ _ _ (c.open-turn.ensures.goes _ _ _ _) (c.open_part.ensures.goes _ _))

pub returns-in-Ok-None-clause-goes : goal.returns-in-Ok-None-clause-goes
returns-in-Ok-None-clause-goes g c = goes_at c.open-turn.result _ _ _ _ _
    (c.run_rest.ensures.kept.0 ∙ c.open_part.ensures.kept.1 ∙ ap (λ w. w.stand.age.turns) c.open-turn.ensures.same ∙ sym c.open-turn.ensures.turn)
    (goes_then _ _ _ _ _ _ _ (goes_then _ _ _ _ _ _ _ (c.open-turn.ensures.goes _ _ _ _) (c.open_part.ensures.goes _ _)) c.run_rest.ensures.goes)
