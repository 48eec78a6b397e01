use Rattle.std.proofs.Common.{◌≡◌, false}
use Rattle.smx_upstream.specs.Working.{Moves}
use Rattle.smx_upstream.specs.Phases.{phase_of, Before, MayTake, when_taken}
use Rattle.smx_upstream.proofs.Growing.{left_to_take}
use Rattle.smx_upstream.proofs.worker.UpstreamWorker.take_on.Given as goal

abbrev pub invariant-loop-more : goal.invariant-loop-more
invariant-loop-more g l = record {
  phase : (t : Before) → phase_of t l.fn.log ≡ MayTake l.fn.filled false → phase_of t l.log ≡ when_taken l.fn.filled l.more;
  goes : Moves g.L.Link.offered g.L.Link.polls g.L.Link.failures l.fn.self l.fn.log l.self l.log;
  same : l.self ≡ record l.fn.self {
    wire = record l.fn.self.wire { said = l.self.wire.said; unsent = l.self.wire.unsent; room = l.self.wire.room };
    stand = record l.fn.self.stand { tap = l.self.stand.tap };
    last = l.self.last;
    events = l.self.events;
  };
}

abbrev pub decreases-loop-more : goal.decreases-loop-more
decreases-loop-more g l = left_to_take l.more l.self.wire.unsent
