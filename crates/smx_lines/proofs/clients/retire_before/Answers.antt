use Rattle.std.proofs.Common.{arith}
use Rattle.smx_lines.proofs.Entering.{leaving_start, leaving_some_start, leaving_more, leaving_some_more, leaving_requires, leaving_within, leaving_end, left_by}
use Rattle.smx_lines.proofs.clients.retire_before.Goals as goal

pub loop-at-init : goal.loop-at-init
loop-at-init c = record {
  some = leaving_some_start c.args.client c.args.count c.args.lanes.now.items c.requires;
  so_far = leaving_start c.args.client c.args.count c.args.lanes.now.items;
}

pub index_mut-requires : goal.index_mut-requires
index_mut-requires c = let w = leaving_within c.args.client c.args.count c.loop-at.lanes.items c.loop-at.at c.loop-at.invariant.some c.loop-at-test.true in omega arith

pub retire-requires : goal.retire-requires
retire-requires c = leaving_requires c.args.client c.args.count c.loop-at.lanes.items c.loop-at.at c.index_mut.result.now c.loop-at.invariant.some c.loop-at-test.true c.index_mut.ensures.value

pub loop-at-preserved : goal.loop-at-preserved
loop-at-preserved c =
    let left = left_by c.args.client c.index_mut.result.now.lane c.retire.new.self c.retire.result c.retire.ensures.reply c.retire.ensures.agrees c.retire.ensures.limits in
    record {
      some = leaving_some_more c.args.client c.args.count c.loop-at.lanes.items c.loop-at.at c.index_mut.result.now c.retire.new.self c.loop-at.invariant.some c.loop-at-test.true c.index_mut.ensures.value left;
      so_far = leaving_more c.args.client c.args.count c.args.lanes.now.items c.loop-at.lanes.items c.loop-at.at c.index_mut.result.now c.retire.new.self c.loop-at.invariant.so_far c.loop-at-test.true c.index_mut.ensures.value left;
    }

pub returns : goal.returns
returns c = leaving_end c.args.client c.args.count c.args.lanes.now.items c.loop-at.lanes.items c.loop-at.at c.loop-at.invariant.so_far c.loop-at-test.false
