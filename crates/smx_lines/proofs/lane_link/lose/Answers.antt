use Rattle.std.proofs.Common.{arith, rules, sym, ◌∙◌}
use Rattle.smx_lines.specs.Relay.{going_on}
use Rattle.smx_lines.specs.LaneLinks.{lower_lane}
use Rattle.smx_lines.proofs.StateTurns.{lane_is}
use Rattle.smx_lines.proofs.LinkTurns.{lost_nowhere, lost_before, lost}
use Rattle.smx_lines.proofs.lane_link.lose.Goals as goal

pub returns-then-at-len : goal.returns-then-at-len
returns-then-at-len c = λ s a. lost_nowhere c.args.state.now c.args.state.now s c.args.lane a (omega arith)

pub returns-then-not-is_up : goal.returns-then-not-is_up
returns-then-not-is_up c = λ s a.
    let x = lane_is c.args.state.now s c.args.lane c.index.result.now a (omega arith) (search rules) in
    lost_before c.args.state.now c.args.state.now s c.args.lane c.in_ok-down_line.field-0 a (omega arith) (sym x.on.agrees.after.up ∙ sym c.is_up.ensures ∙ c.if-not-is_up.true) a (search rules)

pub give_up-requires : goal.give_up-requires
give_up-requires c = record { there = omega (arith, c.lower.ensures.lanes); reached = (_, c.lower.ensures.agrees c.requires.0 c.requires.1) }

pub returns : goal.returns
returns c = λ s a.
    let x = lane_is c.args.state.now s c.args.lane c.index.result.now a (omega arith) (search rules) in
    lost c.args.state.now c.give_up.new.state s c.args.lane c.in_ok-down_line-2.field-0 a (omega arith) (sym x.on.agrees.after.up ∙ sym c.is_up.ensures ∙ c.if-not-is_up.false) (c.give_up.ensures (going_on s c.args.lane lower_lane) (c.lower.ensures.agrees s a)) (search rules)
