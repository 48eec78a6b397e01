use Rattle.std.proofs.Common.{◌≡◌, ℕ, None, length}
use Rattle.smx_upstream.specs.Working.{scene_of, Leads}
use Rattle.smx_upstream.specs.Phases.{phase_of, source_of, Before, Deciding}
use Rattle.smx_upstream.proofs.worker.UpstreamWorker.decide_all.Given as goal

abbrev pub invariant-loop-self : goal.invariant-loop-self
invariant-loop-self g l = record {
  held : l.self.held ≡ None;
  on : l.self.ending ≡ None;
  link : l.self.wire.link ≡ l.fn.self.wire.link;
  turns : l.self.stand.age.turns ≡ l.fn.self.stand.age.turns;
  first : l.self.first ≡ l.fn.self.first;
  ends : l.self.ends ≡ l.fn.self.ends;
  phase : (t : Before) → t.now ≡ l.fn.now → phase_of t l.fn.log ≡ Deciding (source_of l.fn.polled) → phase_of t l.log ≡ Deciding (source_of l.fn.polled);
  goes : (turn : ℕ) → Leads turn (scene_of g.L.Link.offered g.L.Link.polls g.L.Link.failures (g.G.Gate.asked l.fn.gate) (g.G.Gate.told l.fn.gate) (g.D.Directory.queries l.fn.directory) l.fn.self) l.fn.log
      (scene_of g.L.Link.offered g.L.Link.polls g.L.Link.failures (g.G.Gate.asked l.gate) (g.G.Gate.told l.gate) (g.D.Directory.queries l.directory) l.self) l.log;
}

abbrev pub decreases-loop-self : goal.decreases-loop-self
decreases-loop-self g l = length l.self.wire.rest
