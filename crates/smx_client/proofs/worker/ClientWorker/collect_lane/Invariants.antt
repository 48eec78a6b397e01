use Rattle.std.proofs.Common.{◌≡◌, ◌-◌, length}
use Rattle.smx_client.specs.Scenes.{Moves}
use Rattle.smx_client.specs.Table.{Before, phase_of, MayCollect}
use Rattle.smx_client.proofs.worker.ClientWorker.collect_lane.Given as goal

abbrev pub invariant-loop-log : goal.invariant-loop-log
invariant-loop-log g l = record {
  same : l.self ≡ record l.fn.self {
    port = l.self.port;
    wire = record l.fn.self.wire { said = l.self.wire.said; unsent = l.self.wire.unsent; room = l.self.wire.room };
    events = l.self.events;
  };
  phase : (t : Before) → phase_of t l.fn.log ≡ MayCollect l.fn.lane → phase_of t l.log ≡ MayCollect l.fn.lane;
  moves : Moves g.L.Link.offered g.L.Link.polls g.L.Link.failures l.fn.self l.fn.log l.self l.log;
}

abbrev pub decreases-loop-log : goal.decreases-loop-log
decreases-loop-log g l = 65536 - length l.self.wire.unsent
