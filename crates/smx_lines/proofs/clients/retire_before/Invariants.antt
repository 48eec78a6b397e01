use Rattle.smx_lines.proofs.Entering.{Leaving, LeavingSome}
use Rattle.smx_lines.proofs.clients.retire_before.Given as goal

abbrev pub invariant-loop-at : goal.invariant-loop-at
invariant-loop-at l = record {
  some : LeavingSome l.client l.count l.lanes.items l.at;
  so_far : Leaving l.client l.count l.fn.lanes.items l.lanes.items l.at;
}
