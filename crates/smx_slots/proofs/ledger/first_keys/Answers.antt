use Rattle.std.proofs.Common.{arith}
use Rattle.std.proofs.lemmas.Grind.{common_steps}
use Rattle.smx_slots.proofs.Counting.{range_more}
use Rattle.smx_slots.proofs.ledger.first_keys.Goals as goal

pub loop-key-preserved : goal.loop-key-preserved
loop-key-preserved c = grind (arith, common_steps, range_more 0 c.loop-key.key)
