use Rattle.std.proofs.Common.{arith}
use Rattle.smx_lane.proofs.Earliest.{earliest_of_all}
use Rattle.smx_lane.proofs.window.Window.earliest.Goals as goal

pub returns : goal.returns
returns c =
    rw (← c.self.view_is) (earliest_of_all c.self.inside.rows c.loop-at.at c.loop-at.earliest (omega (arith, c.loop-at-test.false, c.len-at-end.ensures)) c.loop-at.invariant)
