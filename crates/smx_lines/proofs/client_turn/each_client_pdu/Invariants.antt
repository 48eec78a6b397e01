use Rattle.std.proofs.Common.{◌≡◌, ◌++◌}
use Rattle.smx_lines.specs.ClientTurn.{client_pdu}
use Rattle.smx_lines.proofs.Turning.{Turning}
use Rattle.smx_lines.proofs.client_turn.each_client_pdu.Given as goal

abbrev pub invariant-loop-pdu : goal.invariant-loop-pdu
invariant-loop-pdu l = record {
  so_far : Turning (client_pdu l.client) l.initial.state l.state l.yielded l.text.items;
  left : l.yielded ++ l.pdu-iterator.rest.items ≡ l.fn.pdus.items;
}
