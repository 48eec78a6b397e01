use Rattle.std.proofs.Common.{refl}
use Rattle.smx_lines.specs.Texts.{entry_line}
use Rattle.smx_lines.proofs.Printing.{printed_more, printed_all}
use Rattle.smx_lines.proofs.texts.entry_lines.Goals as goal

pub loop-entry-preserved : goal.loop-entry-preserved
loop-entry-preserved c = printed_more entry_line c.args.entries.now c.loop-entry.entry-index _ c.loop-entry.text.items _ _ c.loop-entry-test.true c.loop-entry.invariant c.in_ok-push_entry.ensures refl

pub returns : goal.returns
returns c = printed_all entry_line c.args.entries.now c.loop-entry.entry-index c.loop-entry.text.items c.loop-entry-test.false c.loop-entry.invariant
