use Rattle.std.proofs.Common.{◌≡◌, ◌≢◌, ◌++◌, List, [], None, Result}
use Rattle.smx_shared.specs.Views.{locks_of}
use Rattle.smx_turns.specs.declared.end.TurnEnd.{TurnEnd}
use Rattle.smx_turns.specs.declared.end.Fault.{Fault}
use Rattle.smx_turns.specs.Runs.{Runs, RunsOn}
use Rattle.smx_client.specs.declared.stage.Stage.TheVariants.{Closed}
use Rattle.smx_client.specs.Courses.{course, TurnsSo}
use Rattle.smx_client.specs.Parts.{Does}
use Rattle.smx_turns.specs.Rounds.{worked_turns}
use Rattle.smx_client.specs.Serving.{parts_of}
use Rattle.smx_client.proofs.worker.running.run_client.Given as goal

abbrev pub invariant-loop-turn : goal.invariant-loop-turn
invariant-loop-turn g l = record {
  locks : locks_of l.worker.port.fronts ≡ locks_of l.fn.worker.port.fronts;
  origin : l.worker.origin ≡ l.fn.worker.origin;
  goes_on : l.worker.stage ≢ Closed → l.worker.wire.failed ≡ None;
  ends : l.worker.ends ≡ l.fn.worker.ends ++ worked_turns l._turn [];
  turned : (ends : List (Result TurnEnd Fault)) × Runs (TurnsSo g.L.Link.offered g.L.Link.polls g.L.Link.failures l.fn.now) (course (g.G.Gate.asked l.fn.gate) (g.G.Gate.told l.fn.gate) (g.D.Directory.queries l.fn.directory) l.fn.worker)
      ends (course (g.G.Gate.asked l.gate) (g.G.Gate.told l.gate) (g.D.Directory.queries l.directory) l.worker);
  ran : RunsOn Does (parts_of l.fn.worker) l.fn.worker.events (parts_of l.worker) l.worker.events;
}
