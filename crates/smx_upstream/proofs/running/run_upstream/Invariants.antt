use Rattle.std.proofs.Common.{◌≡◌, ◌++◌, ℕ, List, [], None, Some, slice_get}
use denote.Param.Always.{always_mut}
use Rattle.smx_turns.specs.Runs.{Runs, RunsOn}
use Rattle.smx_turns.specs.Rounds.{worked_turns}
use Rattle.smx_upstream.specs.Standing.{Does}
use Rattle.smx_upstream.specs.Timing.{TurnsAt, timing}
use Rattle.smx_upstream.proofs.running.run_upstream.Given as goal

abbrev pub invariant-loop-turn : goal.invariant-loop-turn
invariant-loop-turn g l = record {
  clock : always_mut g.C.FnMut l.initial.clock → always_mut g.C.FnMut l.clock;
  held : l.worker.held ≡ None;
  lock : slice_get l.fn.at l.worker.stand.tap.lane ≡ Some l.worker.stand.tap.front.lock;
  first : l.worker.first ≡ l.fn.worker.first;
  ends : l.worker.ends ≡ l.fn.worker.ends ++ worked_turns l._turn [];
  clocked : (moments : List ℕ) × Runs (TurnsAt (λ a now b. goal.C-step g a now b) g.L.Link.offered g.L.Link.polls g.L.Link.failures)
      (timing l.initial.clock (g.G.Gate.asked l.fn.gate) (g.G.Gate.told l.fn.gate) (g.D.Directory.queries l.fn.directory) l.fn.worker)
      moments
      (timing l.clock (g.G.Gate.asked l.gate) (g.G.Gate.told l.gate) (g.D.Directory.queries l.directory) l.worker);
  ran : RunsOn Does l.fn.worker.stand l.fn.worker.events l.worker.stand l.worker.events;
}
