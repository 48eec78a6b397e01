use Rattle.std.proofs.Common.{ap, ◌∙◌}
use Rattle.smx_client.specs.Table.{Closing}
use Rattle.smx_client.proofs.Cells as cell
use Rattle.smx_client.proofs.worker.ClientWorker.last_part.Goals as goal

pub returns-in-Err-clause-phase : goal.returns-in-Err-clause-phase
returns-in-Err-clause-phase g c = λ t was. (cell.write_fails t Closing _ _ (cell.unclosed t) (c.in-Err.ensures.phase t Closing was), tt)

pub returns-in-Ok-clause-phase : goal.returns-in-Ok-clause-phase
returns-in-Ok-clause-phase g c = λ t was.
    cell.last_ends t _ c.in-Ok.left _ _ _ _ _ _ _ _ (ap (λ w. w.stage) c.in-Ok.ensures.same ∙ c.requires.stage) c.last_end.ensures (c.in-Ok.ensures.phase t Closing was) c.in-Ok.ensures.left
