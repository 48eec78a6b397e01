use Rattle.std.proofs.Common.{◌≡◌, ◌≤◌, ◌++◌, List, length}
use Rattle.smx_history.specs.declared.response.Response.{Response}
use Rattle.smx_shared.specs.Batches.{octets_of_responses}
use Rattle.smx_client.specs.Events.{pdus_of}
use Rattle.smx_client.specs.Sayings.{Spoke}
use Rattle.smx_client.proofs.saying.say_each.Given as goal

abbrev pub invariant-loop-response : goal.invariant-loop-response
invariant-loop-response g l = record {
  made : (rs : List Response) × (rs ++ l.left.items ≡ l.fn.responses.items) × Spoke l.fn.wire l.wire (pdus_of rs);
  room : octets_of_responses l.left.items ≤ l.wire.room;
}

abbrev pub decreases-loop-response : goal.decreases-loop-response
decreases-loop-response g l = length l.left.items
