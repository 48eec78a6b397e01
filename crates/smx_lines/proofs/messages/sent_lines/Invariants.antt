use Rattle.std.proofs.Common.{◌≡◌, take}
use Rattle.std.specs.List.{flat_map}
use Rattle.smx_lines.specs.Texts.{pdu_line, to_client}
use Rattle.smx_lines.proofs.messages.sent_lines.Given as goal

abbrev pub invariant-loop-pdu : goal.invariant-loop-pdu
invariant-loop-pdu l = l.text.items ≡ flat_map (pdu_line (to_client l.client)) (take l.pdu-index l.pdus)
