use Rattle.smx_lines.proofs.Beginning.{Beginning}
use Rattle.smx_lines.proofs.settings.begin.Given as goal

abbrev pub invariant-loop : goal.invariant-loop
invariant-loop l = Beginning l.fn.state l.state l.counter
