use Rattle.std.proofs.Common.{refl, [], Some}
use Rattle.smx_lines.specs.Turns.{Does}
use Rattle.smx_lines.proofs.line.run_command.Goals as goal

pub returns-in-Skip : goal.returns-in-Skip
unfolding Does
returns-in-Skip c = λ s a. (Some ([], s), rw c.in-Skip.is refl, record { text = c.new.ensures.items; left = a })
