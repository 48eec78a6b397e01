use Rattle.std.proofs.Common.{rules, refl, ◌∙◌}
use Rattle.smx_lines.proofs.Rows.{rows_ours}
use Rattle.smx_lines.proofs.Collecting.{collecting_start, collecting_more, collecting_end, fed_more, box_smaller}
use Rattle.smx_lines.proofs.on_lane.collect_on.Goals as goal

pub loop-response-init : goal.loop-response-init
loop-response-init c = record {
  so_far = collecting_start c.args.client c.args.lane.now c.new-text.result.items c.new-text.ensures.items;
  fed = c.requires;
  limits_are = refl;
}

pub collect-requires : goal.collect-requires
collect-requires c =
    let fed = c.loop-response.invariant.fed in
    rows_ours fed.0 c.loop-response.lane c.args.client fed.1 fed.2

pub loop-response-smaller : goal.loop-response-smaller
loop-response-smaller c = box_smaller c.args.client c.loop-response.lane c.collect.new.self c.in-Some.response c.in-Some.ensures.collected c.loop-response.invariant.fed

pub loop-response-preserved : goal.loop-response-preserved
loop-response-preserved c = record {
  so_far = collecting_more c.args.client c.args.lane.now c.loop-response.lane c.collect.new.self c.in-Some.response c.loop-response.text.items c.push_to_client.new.out.items c.in-Some.ensures.collected (search rules) c.loop-response.invariant.so_far;
  fed = fed_more c.args.client c.loop-response.lane c.collect.new.self c.in-Some.response c.in-Some.ensures.collected c.loop-response.invariant.fed;
  limits_are = c.collect.ensures.limits ∙ c.loop-response.invariant.limits_are;
}

pub returns : goal.returns
returns c = collecting_end c.args.client c.args.lane.now c.loop-response.lane c.collect.new.self c.loop-response.text.items (search rules) (c.collect.ensures.limits ∙ c.loop-response.invariant.limits_are) c.loop-response.invariant.so_far
