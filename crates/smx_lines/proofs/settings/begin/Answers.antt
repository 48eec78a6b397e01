use Rattle.std.proofs.Common.{rules, refl}
use Rattle.smx_lines.proofs.Beginning.{beginning_start, beginning_more, beginning_end, already}
use Rattle.smx_lines.proofs.settings.begin.Goals as goal

pub returns-then-state : goal.returns-then-state
returns-then-state c = already c.args.state.now c.if-state.true

pub loop-init : goal.loop-init
loop-init c = beginning_start c.args.state.now _ refl refl refl refl refl refl refl refl refl

pub loop-preserved : goal.loop-preserved
loop-preserved c = beginning_more c.args.state.now c.loop.state _ c.loop.counter (record { lane = c.in-Ok.lane; link = c.in_ok-link.link }) c.loop.invariant (search rules) (search rules) (search rules) refl refl refl refl (search rules) refl refl refl refl

pub returns : goal.returns
returns c = beginning_end c.args.state.now c.loop.state c.loop.counter c.loop.invariant (search rules) (search rules)
