use Rattle.std.proofs.Common.{◌≡◌, ◌++◌, List, length}
use Rattle.smx_lane.specs.declared.settled.Settled.{Settled}
use Rattle.smx_upstream.specs.Events.{settled_tells}
use Rattle.smx_upstream.proofs.bringing.tell_each.Given as goal

abbrev pub invariant-loop-one : goal.invariant-loop-one
invariant-loop-one g l = record {
  asked : g.G.Gate.asked l.gate ≡ g.G.Gate.asked l.fn.gate;
  made : (ss : List Settled) × (ss ++ l.left.items ≡ l.fn.settled.items)
      × (g.G.Gate.told l.gate ≡ g.G.Gate.told l.fn.gate ++ settled_tells l.fn.lane ss);
}

abbrev pub decreases-loop-one : goal.decreases-loop-one
decreases-loop-one g l = length l.left.items
