use Rattle.std.proofs.Common.{length}
use Rattle.smx_lines.proofs.Receiving.{IsReceiving}
use Rattle.smx_lines.proofs.receive.receive.Given as goal

abbrev pub invariant-loop-pdu : goal.invariant-loop-pdu
invariant-loop-pdu l = IsReceiving l.fn.framer.stream l.octets l.pdus.items l.framer.stream

abbrev pub decreases-loop-pdu : goal.decreases-loop-pdu
decreases-loop-pdu l = length l.framer.stream.rest
