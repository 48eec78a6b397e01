use Rattle.std.proofs.Common.{ap, Ok}
use Rattle.smx_client.proofs.Cells as cell
use Rattle.smx_client.proofs.worker.ClientWorker.rest_part.Goals as goal

pub returns-in_default-clause-phase : goal.returns-in_default-clause-phase
returns-in_default-clause-phase g c = λ t is was.
    let m = c.in_ok-progress.ensures in
    let at = m.phase t is was in (
      cell.quiet_as _ _ _ _ c.is_quiet.ensures (c.end_of.ensures.phase _ at),
      cell.stands_at _ _ _ _ _ _ _ _ c.in_default.not-Closed c.in_default.not-Gone at (λ e. m.settled (ap Ok e)) (λ e. m.waits (ap Ok e)) (λ e. m.clogged (ap Ok e)),
    )
