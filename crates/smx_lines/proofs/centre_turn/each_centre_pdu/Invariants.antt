use Rattle.std.proofs.Common.{◌≡◌, ◌++◌, length}
use Rattle.smx_lines.specs.CentreTurn.{centre_pdu}
use Rattle.smx_lines.proofs.Turning.{Turning}
use Rattle.smx_lines.proofs.centre_turn.each_centre_pdu.Given as goal

abbrev pub invariant-loop-pdu : goal.invariant-loop-pdu
invariant-loop-pdu l = record {
  long : length l.state.lanes.items ≡ length l.initial.state.lanes.items;
  so_far : Turning (centre_pdu l.lane) l.initial.state l.state l.yielded l.text.items;
  left : l.yielded ++ l.pdu-iterator.rest.items ≡ l.fn.pdus.items;
}
