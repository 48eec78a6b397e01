use Rattle.std.proofs.Common.{◌≡◌, take}
use Rattle.std.specs.List.{flat_map}
use Rattle.smx_lines.specs.Messages.{left_line}
use Rattle.smx_lines.proofs.messages.left_lines.Given as goal

abbrev pub invariant-loop-message : goal.invariant-loop-message
invariant-loop-message l = l.text.items ≡ flat_map left_line (take l.message-index l.messages)
