use Rattle.smx_lane.proofs.Earliest.{IsEarliestBelow}
use Rattle.smx_lane.proofs.window.Window.earliest.Given as goal

abbrev pub invariant-loop-at : goal.invariant-loop-at
invariant-loop-at l = IsEarliestBelow l.self-inside.rows l.at l.earliest
