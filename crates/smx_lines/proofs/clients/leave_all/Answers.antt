use Rattle.std.proofs.Common.{arith, refl, ◌∙◌}
use Rattle.std.proofs.Math.ListN.{length-set}
use Rattle.smx_lines.proofs.Rows.{rows_ours}
use Rattle.smx_lines.proofs.Entering.{reached_at}
use Rattle.smx_lines.proofs.Leaving.{leaving_all_start, leaving_all_more, leaving_all_end, leaves_one, still_reached}
use Rattle.smx_lines.proofs.clients.leave_all.Goals as goal

pub loop-at-init : goal.loop-at-init
loop-at-init c = record { long = refl; reached = c.requires; so_far = leaving_all_start c.args.client c.args.lanes.now.items }

pub retire-left-requires : goal.retire-left-requires
retire-left-requires c =
    let at = reached_at c.loop-at.lanes.items c.loop-at.at c.index_mut.result.now c.loop-at.invariant.reached (omega arith) c.index_mut.ensures.value in
    rows_ours at.0 c.index_mut.result.now.lane c.args.client at.1 at.2

pub loop-at-preserved : goal.loop-at-preserved
loop-at-preserved c =
    let one = leaves_one c.args.client c.index_mut.result.now.lane c.retire-left.new.self c.retire-left.result c.retire-left.ensures.reply c.retire-left.ensures.agrees c.retire-left.ensures.err c.retire-left.ensures.limits in
    record {
      long = length-set c.loop-at.lanes.items c.loop-at.at (record c.index_mut.result.now { lane = c.retire-left.new.self }) ∙ c.loop-at.invariant.long;
      reached = still_reached c.args.client c.loop-at.lanes.items c.loop-at.at c.index_mut.result.now c.retire-left.new.self c.loop-at.invariant.reached (omega arith) c.index_mut.ensures.value one;
      so_far = leaving_all_more c.args.client c.args.lanes.now.items c.loop-at.lanes.items c.loop-at.at c.index_mut.result.now c.retire-left.new.self c.loop-at.invariant.so_far (omega arith) c.index_mut.ensures.value one;
    }

pub returns : goal.returns
returns c = leaving_all_end c.args.client c.args.lanes.now.items c.loop-at.lanes.items c.loop-at.at c.loop-at.invariant.so_far (omega arith)
