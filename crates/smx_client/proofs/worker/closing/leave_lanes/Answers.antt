use Rattle.std.proofs.Common.{true, false}
use Rattle.smx_client.proofs.worker.closing.leave_lanes.Goals as goal

pub returns-in-Ok : goal.returns-in-Ok
returns-in-Ok g c = (true, c.in-Ok.ensures.ok)

pub returns-in-Err : goal.returns-in-Err
returns-in-Err g c = (false, c.in-Err.ensures.err)
