use Rattle.std.proofs.Common.{◌≡◌, ◌≢◌, None}
use Rattle.smx_client.specs.declared.stage.Stage.TheVariants.{Closed}
use Rattle.smx_client.specs.Scenes.{scene_of}
use Rattle.smx_client.specs.Table.{Before, phase_of, Deciding, weight}
use Rattle.smx_client.specs.Turns.{Leads}
use Rattle.smx_client.proofs.worker.ClientWorker.decide_part.Given as goal

abbrev pub invariant-loop-log : goal.invariant-loop-log
invariant-loop-log g l = record {
  parked : l.self.parked ≡ None;
  going : l.self.stage ≢ Closed;
  failed : l.self.wire.failed ≡ None;
  same : l.self ≡ record l.fn.self {
    port = l.self.port;
    session = l.self.session;
    senders = l.self.senders;
    window = l.self.window;
    wire = record l.self.wire { link = l.fn.self.wire.link; start = l.fn.self.wire.start };
    held = l.self.held;
    parked = l.self.parked;
    settled = l.self.settled;
    ending = l.self.ending;
    refused = l.self.refused;
    events = l.self.events;
  };
  phase : (t : Before) → phase_of t l.fn.log ≡ Deciding l.fn.ended → phase_of t l.log ≡ Deciding l.fn.ended;
  leads : Leads l.fn.turn (scene_of g.L.Link.offered g.L.Link.polls g.L.Link.failures (g.G.Gate.asked l.fn.gate) (g.G.Gate.told l.fn.gate) (g.D.Directory.queries l.fn.directory) l.fn.self) l.fn.log
      (scene_of g.L.Link.offered g.L.Link.polls g.L.Link.failures (g.G.Gate.asked l.gate) (g.G.Gate.told l.gate) (g.D.Directory.queries l.directory) l.self) l.log;
}

abbrev pub decreases-loop-log : goal.decreases-loop-log
decreases-loop-log g l = weight l.self.held l.self.wire.rest
