use Rattle.std.proofs.Common.{refl, sym, ◌∙◌}
use Rattle.smx_lines.proofs.GivingUp.{giving_up_start, giving_up_more, giving_up_end, fails_smaller, nothing_given_up}
use Rattle.smx_lines.proofs.on_lane.give_up_on.Goals as goal

pub returns-then-is_up-clause-agrees : goal.returns-then-is_up-clause-agrees
returns-then-is_up-clause-agrees c = nothing_given_up c.args.lane.now (sym c.is_up.ensures ∙ c.if-is_up.true)

pub loop-failed-init : goal.loop-failed-init
loop-failed-init c = record { so_far = giving_up_start c.args.lane.now; limits_are = refl }

pub loop-failed-smaller : goal.loop-failed-smaller
loop-failed-smaller c = fails_smaller c.args.lane.now c.loop-failed.lane c.fail.new.self c.in-Ok._failed c.in-Ok.ensures.failed c.requires c.loop-failed.invariant.so_far

pub loop-failed-preserved : goal.loop-failed-preserved
loop-failed-preserved c = record {
  so_far = giving_up_more c.args.lane.now c.loop-failed.lane c.fail.new.self c.in-Ok._failed c.in-Ok.ensures.failed c.loop-failed.invariant.so_far;
  limits_are = c.fail.ensures.limits ∙ c.loop-failed.invariant.limits_are;
}

pub returns-clause-agrees : goal.returns-clause-agrees
returns-clause-agrees c = giving_up_end c.args.lane.now c.loop-failed.lane c.fail.new.self c.in_default.field-0 (sym c.is_up.ensures ∙ c.if-is_up.false) c.in_default.ensures.reply c.in_default.ensures.err c.loop-failed.invariant.so_far
