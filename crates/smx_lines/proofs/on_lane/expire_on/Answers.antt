use Rattle.std.proofs.Common.{rules, refl, sym, ◌∙◌}
use Rattle.std.proofs.lemmas.Result.{IfOk-weaker}
use Rattle.smx_lines.proofs.Expiring.{expiring_start, expiring_more, expires_down, expires_none, expires_smaller, expires_some}
use Rattle.smx_lines.proofs.on_lane.expire_on.Goals as goal

pub returns-then-not-is_up : goal.returns-then-not-is_up
returns-then-not-is_up c = λ h a. IfOk-weaker c.kept_line.result _ _ (λ text e. expires_down c.args.at c.args.moment c.args.age c.args.lane.now text.items (sym c.is_up.ensures ∙ c.if-not-is_up.true) e h a) c.kept_line.ensures

pub loop-failed-init : goal.loop-failed-init
loop-failed-init c = record { so_far = expiring_start c.args.moment c.args.age c.args.lane.now c.new-text.result.items c.new-text.ensures.items; limits_are = refl }

pub loop-failed-smaller : goal.loop-failed-smaller
loop-failed-smaller c = expires_smaller c.args.moment c.args.age c.args.lane.now c.loop-failed.lane c.fail_expired.new.self c.in-Ok.failed c.loop-failed.text.items c.in-Ok.ensures.expired c.requires c.loop-failed.invariant.so_far

pub loop-failed-preserved : goal.loop-failed-preserved
loop-failed-preserved c = record {
  so_far = expiring_more c.args.moment c.args.age c.args.lane.now c.loop-failed.lane c.fail_expired.new.self c.in-Ok.failed c.loop-failed.text.items c.in_ok-failed_line.field-0.items c.extend_from_slice.new.self.items c.in-Ok.ensures.expired (search rules) (search rules) c.loop-failed.invariant.so_far;
  limits_are = c.fail_expired.ensures.limits ∙ c.loop-failed.invariant.limits_are;
}

pub returns-then-is_empty : goal.returns-then-is_empty
returns-then-is_empty c = λ h a. IfOk-weaker c.kept_line-then-is_empty.result _ _ (λ text e.
    expires_none c.args.at c.args.moment c.args.age c.args.lane.now c.loop-failed.lane c.fail_expired.new.self c.loop-failed.text.items text.items (sym c.is_up.ensures ∙ c.if-not-is_up.false) c.in_default.ensures.none c.in_default.ensures.err
    (c.fail_expired.ensures.limits ∙ c.loop-failed.invariant.limits_are) c.loop-failed.invariant.so_far (search rules) e h a) c.kept_line-then-is_empty.ensures

pub returns : goal.returns
returns c = expires_some c.args.at c.args.moment c.args.age c.args.lane.now c.loop-failed.lane c.fail_expired.new.self c.loop-failed.text.items (sym c.is_up.ensures ∙ c.if-not-is_up.false) c.in_default.ensures.none c.in_default.ensures.err
    (c.fail_expired.ensures.limits ∙ c.loop-failed.invariant.limits_are) c.loop-failed.invariant.so_far (search rules)
