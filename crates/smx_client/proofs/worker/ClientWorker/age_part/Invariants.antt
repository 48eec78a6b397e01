use Rattle.std.proofs.Common.{◌≡◌, ℕ, List, length, None}
use Rattle.smx_turns.specs.declared.directory.Query.{Query}
use Rattle.smx_client.specs.Scenes.{scene_of}
use Rattle.smx_client.specs.Table.{Before, phase_of, when_nothing, Ageing}
use Rattle.smx_client.specs.Turns.{Leads}
use Rattle.smx_client.proofs.worker.ClientWorker.age_part.Given as goal

abbrev pub invariant-loop-reply : goal.invariant-loop-reply
invariant-loop-reply g l = record {
  parked : l.self.parked ≡ None;
  same : l.self ≡ record l.fn.self {
    senders = l.self.senders;
    window = l.self.window;
    parked = l.self.parked;
    events = l.self.events;
  };
  phase : (t : Before) → t.now ≡ l.fn.now → t.message_time ≡ l.fn.self.message_time → phase_of t l.fn.log ≡ when_nothing t → phase_of t l.log ≡ Ageing;
  leads : (n : ℕ) (queries : List Query) → Leads n (scene_of g.L.Link.offered g.L.Link.polls g.L.Link.failures (g.G.Gate.asked l.fn.gate) (g.G.Gate.told l.fn.gate) queries l.fn.self) l.fn.log
      (scene_of g.L.Link.offered g.L.Link.polls g.L.Link.failures (g.G.Gate.asked l.gate) (g.G.Gate.told l.gate) queries l.self) l.log;
}

abbrev pub decreases-loop-reply : goal.decreases-loop-reply
decreases-loop-reply g l = length l.self.window.waiting
