use Rattle.std.proofs.Common.{◌≡◌, ◌≤◌, ◌++◌, List, length, vec_capacity, None}
use Rattle.smx_pdu.specs.declared.pdu.Pdu.{Pdu}
use Rattle.smx_upstream.proofs.AnswerLists.{AreAnswers}
use Rattle.smx_upstream.proofs.bringing.gather.Given as goal

abbrev pub invariant-loop : goal.invariant-loop
invariant-loop g l = record {
  heard : (ps : List Pdu) × (l.responses.items ≡ l.fn.responses.items ++ ps) × (l.wire.heard ≡ l.fn.wire.heard ++ ps) × AreAnswers ps;
  count : length l.responses.items ≡ l.counter;
  room : 16 ≤ vec_capacity l.responses;
  failed : l.wire.failed ≡ None;
  less : length l.wire.rest ≤ length l.fn.wire.rest;
  same : l.wire ≡ record l.fn.wire { heard = l.wire.heard; rest = l.wire.rest };
}
