use Rattle.std.proofs.Common.{◌≡◌, List, ◌≤◌, ◌++◌, length, vec_capacity}
use Rattle.smx_pdu.specs.declared.pdu.Pdu.{Pdu}
use Rattle.smx_shared.proofs.ListServing.{Brought}
use Rattle.smx_shared.proofs.batching.answer_each.Given as goal

abbrev pub invariant-loop-response : goal.invariant-loop-response
invariant-loop-response l = record {
  made : (ps : List Pdu) × (ps ++ l.left.items ≡ l.fn.responses.items) × (length ps ≡ length l.settled.items)
      × Brought l.fn.by l.initial.lane ps l.settled.items l.lane;
  room : length l.fn.responses.items ≤ vec_capacity l.settled;
  limits : l.lane.limits ≡ l.initial.lane.limits;
}

abbrev pub decreases-loop-response : goal.decreases-loop-response
decreases-loop-response l = length l.left.items
