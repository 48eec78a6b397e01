use Rattle.smx_client.proofs.Faults.{part_err}
use Rattle.smx_client.proofs.worker.ClientWorker.decide_own.Goals as goal

pub returns-in-Next-clause-phase : goal.returns-in-Next-clause-phase
returns-in-Next-clause-phase g c = λ t ended was. rw c.in-Next.is at (c.in_ok-decide.ensures.phase t ended was)

pub returns-in-Over-clause-phase : goal.returns-in-Over-clause-phase
returns-in-Over-clause-phase g c = λ t ended was. rw c.in-Over.is at (c.in_ok-decide.ensures.phase t ended was)

pub returns-in-Settle-clause-phase : goal.returns-in-Settle-clause-phase
returns-in-Settle-clause-phase g c = λ t ended was. c.settle.ensures.phase t ended (rw c.in-Settle.is at (c.in_ok-decide.ensures.phase t ended was))

pub returns-in-Bound-clause-phase : goal.returns-in-Bound-clause-phase
returns-in-Bound-clause-phase g c = λ t ended was. c.enter.ensures.phase t ended (rw c.in-Bound.is at (c.in_ok-decide.ensures.phase t ended was))

pub returns-in_err-decide-clause-phase : goal.returns-in_err-decide-clause-phase
returns-in_err-decide-clause-phase g c = λ t ended was.
    part_err _ _ _ _ c.from_residual.ensures.0 c.from_residual.ensures.1 (c.in_err-decide.ensures.phase t ended was)
