use Rattle.std.proofs.Common.{◌≡◌, length}
use Rattle.smx_lines.specs.Private.Lanes.{AreReached}
use Rattle.smx_lines.proofs.Entering.{CollectingAll}
use Rattle.smx_lines.proofs.clients.collect_all.Given as goal

abbrev pub invariant-loop-at : goal.invariant-loop-at
invariant-loop-at l = record {
  long : length l.lanes.items ≡ length l.fn.lanes.items;
  reached : AreReached l.lanes.items;
  so_far : CollectingAll l.client l.fn.lanes.items l.lanes.items l.text.items l.at;
}
