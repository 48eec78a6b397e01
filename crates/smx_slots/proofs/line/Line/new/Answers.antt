use Rattle.std.proofs.Common.{arith}
use Rattle.std.proofs.lemmas.Grind.{common_steps}
use Rattle.smx_slots.proofs.Joining.{starts, distinct_none}
use Rattle.smx_slots.proofs.line.Line.new.Goals as goal

pub invariant_of-result : goal.invariant_of-result
invariant_of-result c = record {
  distinct = distinct_none _ c.in_ok-with_capacity.ensures.items;
  marks = starts c.args.count _ _ c.in_ok-with_capacity.ensures.items (grind (arith, common_steps));
  room = grind (arith, common_steps);
}
