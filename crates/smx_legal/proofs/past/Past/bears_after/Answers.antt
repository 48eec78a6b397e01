use Rattle.smx_legal.proofs.Bearing.{list_without}
use Rattle.smx_legal.proofs.past.Past.bears_after.Goals as goal

pub loop-list-preserved : goal.loop-list-preserved
loop-list-preserved c = (c.loop-list.invariant.0, list_without c.args.number c.args.self.earlier.now c.args.self.since.now c.loop-list.list-index c.loop-list.left c.in-Some.rest _ _ _ _ c.loop-list-test.true c.list-item.is c.as_slice.ensures.value c.loop-list.invariant.1 c.in-Some.ensures.0 c.in-Some.ensures.1)
