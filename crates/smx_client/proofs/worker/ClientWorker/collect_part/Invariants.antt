use Rattle.std.proofs.Common.{◌≡◌, List}
use Rattle.smx_turns.specs.declared.directory.Query.{Query}
use Rattle.smx_client.specs.Scenes.{scene_of}
use Rattle.smx_client.specs.Table.{Before, phase_of, AtLane}
use Rattle.smx_client.specs.Turns.{Leads}
use Rattle.smx_client.proofs.worker.ClientWorker.collect_part.Given as goal

abbrev pub invariant-loop-lane : goal.invariant-loop-lane
invariant-loop-lane g l = record {
  same : l.self ≡ record l.fn.self {
    port = l.self.port;
    wire = record l.fn.self.wire { said = l.self.wire.said; unsent = l.self.wire.unsent; room = l.self.wire.room };
    events = l.self.events;
  };
  phase : (t : Before) → phase_of t l.fn.log ≡ AtLane 0 → phase_of t l.log ≡ AtLane l.lane;
  leads : (queries : List Query) → Leads l.fn.turn (scene_of g.L.Link.offered g.L.Link.polls g.L.Link.failures (g.G.Gate.asked l.fn.gate) (g.G.Gate.told l.fn.gate) queries l.fn.self) l.fn.log
      (scene_of g.L.Link.offered g.L.Link.polls g.L.Link.failures (g.G.Gate.asked l.gate) (g.G.Gate.told l.gate) queries l.self) l.log;
}
