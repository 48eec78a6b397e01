use Rattle.std.proofs.Common.{arith}
use Rattle.smx_legal.specs.Checks.{entries_before}
use Rattle.smx_legal.proofs.Counting.{collected_le}
use Rattle.smx_legal.proofs.legal.waiting_of.Goals as goal

pub overflow_sub-result : goal.overflow_sub-result
overflow_sub-result c = let le = collected_le (entries_before c.args.past) c.args.client c.requires in omega (arith, le, c.count.ensures.count, c.count-2.ensures.count)
