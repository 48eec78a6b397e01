use Rattle.std.proofs.Common.{map}
use Rattle.smx_relay.proofs.Standing.{Stands}
use Rattle.smx_relay.proofs.engine.relay_lines.Given as goal

abbrev pub invariant-loop-i : goal.invariant-loop-i
invariant-loop-i g l = Stands (g.W.Write.contents l.fn.writer) (g.W.Write.contents l.writer) l.state l.i (map (λ line. line.now) l.lines)
