use Rattle.std.proofs.Common.{arith, refl, ◌∙◌}
use Rattle.std.proofs.Math.ListN.{length-set}
use Rattle.smx_history.specs.declared.reply.AdmitFault.TheVariants.{Known, HistoryFull}
use Rattle.smx_lines.proofs.Lanes.{lane_back}
use Rattle.smx_lines.proofs.Entering.{entering_start, entering_more, entering_refused, entering_end}
use Rattle.smx_lines.proofs.clients.admit_all.Goals as goal

pub loop-at-init : goal.loop-at-init
loop-at-init c = record { long = refl; so_far = entering_start c.args.client c.args.lanes.now.items }

pub loop-at-preserved : goal.loop-at-preserved
loop-at-preserved c = record { long = length-set c.loop-at.lanes.items c.loop-at.at (record c.index_mut.result.now { lane = c.admit.new.self }) ∙ c.loop-at.invariant.long; so_far = entering_more c.args.client c.args.lanes.now.items c.loop-at.lanes.items c.loop-at.at c.index_mut.result.now c.admit.new.self c.loop-at.invariant.so_far (omega arith) c.index_mut.ensures.value c.in-Ok.ensures.reply c.in-Ok.ensures.agrees c.in-Ok.ensures.limits }

pub returns-in-Err-Known : goal.returns-in-Err-Known
returns-in-Err-Known c = entering_refused c.args.client c.args.lanes.now.items c.loop-at.lanes.items _ c.loop-at.at c.index_mut.result.now Known c.loop-at.invariant.so_far (omega arith) c.index_mut.ensures.value (rw c.in-Err-Known.field-0-is at c.in-Err-Known.ensures.reply)
    (lane_back c.loop-at.lanes.items c.loop-at.at c.index_mut.result.now c.admit.new.self c.index_mut.ensures.value c.in-Err-Known.ensures.err)

pub returns-in-Err-HistoryFull : goal.returns-in-Err-HistoryFull
returns-in-Err-HistoryFull c = entering_refused c.args.client c.args.lanes.now.items c.loop-at.lanes.items _ c.loop-at.at c.index_mut.result.now HistoryFull c.loop-at.invariant.so_far (omega arith) c.index_mut.ensures.value (rw c.in-Err-HistoryFull.field-0-is at c.in-Err-HistoryFull.ensures.reply)
    (lane_back c.loop-at.lanes.items c.loop-at.at c.index_mut.result.now c.admit.new.self c.index_mut.ensures.value c.in-Err-HistoryFull.ensures.err)

pub returns : goal.returns
returns c = entering_end c.args.client c.args.lanes.now.items c.loop-at.lanes.items c.loop-at.at c.loop-at.invariant.so_far (omega arith)
