use Rattle.std.proofs.Common.{rules, arith, refl, ◌∙◌}
use Rattle.std.proofs.Math.ListN.{length-set}
use Rattle.smx_lines.proofs.Entering.{collecting_all_start, collecting_all_more, collecting_all_end, reached_at, reached_more}
use Rattle.smx_lines.proofs.clients.collect_all.Goals as goal

pub loop-at-init : goal.loop-at-init
loop-at-init c = record {
  long = refl;
  reached = c.requires;
  so_far = collecting_all_start c.args.client c.args.lanes.now.items c.new-text.result.items c.new-text.ensures.items;
}

pub collect_on-requires : goal.collect_on-requires
collect_on-requires c = reached_at c.loop-at.lanes.items c.loop-at.at c.index_mut.result.now c.loop-at.invariant.reached (omega arith) c.index_mut.ensures.value

pub loop-at-preserved : goal.loop-at-preserved
loop-at-preserved c = record {
  long = length-set c.loop-at.lanes.items c.loop-at.at (record c.index_mut.result.now { lane = c.collect_on.new.lane }) ∙ c.loop-at.invariant.long;
  reached = reached_more c.args.client c.loop-at.lanes.items c.loop-at.at c.index_mut.result.now c.collect_on.new.lane c.in_ok-waiting.waiting.items c.loop-at.invariant.reached (omega arith) c.index_mut.ensures.value c.in_ok-waiting.ensures;
  so_far = collecting_all_more c.args.client c.args.lanes.now.items c.loop-at.lanes.items c.loop-at.text.items c.extend_from_slice.new.self.items c.in_ok-waiting.waiting.items c.loop-at.at c.index_mut.result.now c.collect_on.new.lane
      c.loop-at.invariant.so_far (omega arith) c.index_mut.ensures.value c.in_ok-waiting.ensures (search rules);
}

pub returns : goal.returns
returns c = collecting_all_end c.args.client c.args.lanes.now.items c.loop-at.lanes.items c.loop-at.text.items c.loop-at.at c.loop-at.invariant.so_far (omega arith)
