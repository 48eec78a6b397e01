use Rattle.std.proofs.Common.{◌≡◌, false, replicate}
use Rattle.smx_slots.proofs.hints.Hints.new.Given as goal

abbrev pub invariant-loop : goal.invariant-loop
invariant-loop l = l.rows.items ≡ replicate l.counter (replicate l.fn.lanes false)
