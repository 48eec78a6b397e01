use Rattle.std.proofs.Common.{◌%◌, ◌+◌, rules, arith, refl, sym, ◌∙◌}
use Rattle.smx_lines.proofs.Lanes.{at_index, lane_back}
use Rattle.smx_lines.proofs.Ring.{ring_found, ring_next, ring_none}
use Rattle.smx_lines.proofs.requests.accept_in_ring.Goals as goal

pub returns-in-Ok-clause-first : goal.returns-in-Ok-clause-first
returns-in-Ok-clause-first c =
    let here = at_index c.loop-k.lanes.items ((c.args.last % c.len-count.result + c.loop-k.k) % c.len-count.result) c.index_mut.result.now (search rules) c.index_mut.ensures.value in
    sym (c.loop-k.invariant.none ∙ ring_found c.args.lanes.now.items c.loop-k.lanes.items c.args.request.client c.args.last c.len-count.result c.loop-k.k c.index_mut.result.now
    (omega arith) (omega arith) c.loop-k.invariant.same here (rw (← c.loop-k.invariant.request_same) c.in-Ok.ensures.reply))

pub returns-in-Ok-clause-accepted : goal.returns-in-Ok-clause-accepted
returns-in-Ok-clause-accepted c =
    let here = at_index c.loop-k.lanes.items ((c.args.last % c.len-count.result + c.loop-k.k) % c.len-count.result) c.index_mut.result.now (search rules) c.index_mut.ensures.value in
    (c.index_mut.result.now, c.accept.new.self, rw (← c.loop-k.invariant.same) here, rw c.loop-k.invariant.same refl, c.accept.ensures.limits, rw (← c.loop-k.invariant.request_same) c.in-Ok.ensures.agrees)

pub loop-k-preserved : goal.loop-k-preserved
loop-k-preserved c =
    let at = (c.args.last % c.len-count.result + c.loop-k.k) % c.len-count.result in
    let here = at_index c.loop-k.lanes.items at c.index_mut.result.now (search rules) c.index_mut.ensures.value in
    record {
      same = lane_back c.loop-k.lanes.items at c.index_mut.result.now c.accept.new.self c.index_mut.ensures.value c.in-Err.ensures.err ∙ c.loop-k.invariant.same;
      request_same = search rules;
      none = c.loop-k.invariant.none ∙ ring_next c.args.lanes.now.items c.loop-k.lanes.items c.args.request.client c.args.last c.len-count.result c.loop-k.k c.index_mut.result.now c.in-Err.field-0-1
          (omega arith) (omega arith) c.loop-k.invariant.same here (rw (← c.loop-k.invariant.request_same) c.in-Err.ensures.reply.1);
    }

pub returns-clause-first : goal.returns-clause-first
returns-clause-first c =
    sym (c.loop-k.invariant.none ∙ ring_none c.args.lanes.now.items c.args.request.client c.args.last c.len-count.result c.loop-k.k (omega arith) (omega arith))
