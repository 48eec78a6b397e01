use Rattle.std.proofs.Common.{◌≡◌, take}
use Rattle.std.specs.List.{flat_map}
use Rattle.smx_lines.specs.Texts.{entry_line}
use Rattle.smx_lines.proofs.texts.entry_lines.Given as goal

abbrev pub invariant-loop-entry : goal.invariant-loop-entry
invariant-loop-entry l = l.text.items ≡ flat_map entry_line (take l.entry-index l.entries)
