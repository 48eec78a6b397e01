use Rattle.std.proofs.Common.{◌≡◌, length}
use Rattle.smx_lines.proofs.Entering.{Entering}
use Rattle.smx_lines.proofs.clients.admit_all.Given as goal

abbrev pub invariant-loop-at : goal.invariant-loop-at
invariant-loop-at l = record {
  long : length l.lanes.items ≡ length l.fn.lanes.items;
  so_far : Entering l.client l.fn.lanes.items l.lanes.items l.at;
}
