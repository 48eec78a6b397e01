use Rattle.std.proofs.Common.{string_bytes, All}
use Rattle.smx_notice.specs.Lines.{IsPrintable}
use Rattle.smx_notice.proofs.plain.add_text.Given as goal

abbrev pub invariant-loop-character : goal.invariant-loop-character
invariant-loop-character l =
    (goal.iterator-loop-character).can_next l.character-iterator ×
    (goal.iterator-loop-character).is_finite l.character-iterator ×
    All IsPrintable (string_bytes l.line)
