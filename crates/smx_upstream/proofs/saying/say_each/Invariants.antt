use Rattle.std.proofs.Common.{◌≡◌, ◌≤◌, ◌++◌, List, length, map}
use Rattle.smx_lane.specs.declared.sent.Sent.{Sent}
use Rattle.smx_link.specs.Wiring.{spellings}
use Rattle.smx_shared.specs.Batches.{octets_of_requests}
use Rattle.smx_upstream.specs.Events.{face_up}
use Rattle.smx_upstream.proofs.saying.say_each.Given as goal

abbrev pub invariant-loop-sent : goal.invariant-loop-sent
invariant-loop-sent g l = record {
  made : (ss : List Sent) × (ss ++ l.left.items ≡ l.fn.requests.items) × (l.wire.said ≡ l.fn.wire.said ++ map face_up ss)
      × (l.wire.unsent ≡ l.fn.wire.unsent ++ spellings (map face_up ss));
  room : octets_of_requests l.left.items ≤ l.wire.room;
  same : l.wire ≡ record l.fn.wire { said = l.wire.said; unsent = l.wire.unsent; room = l.wire.room };
}

abbrev pub decreases-loop-sent : goal.decreases-loop-sent
decreases-loop-sent g l = length l.left.items
