use Rattle.std.proofs.Common.{◌≡◌, ◌≤◌, ◌*◌, ◌++◌, length}
use Rattle.smx_turns.specs.Runs.{Runs}
use Rattle.smx_upstream.specs.Abandoning.{GoesRound}
use Rattle.smx_upstream.specs.Events.{rounds_tells}
use Rattle.smx_upstream.proofs.abandoning.give_up_queued.Given as goal

abbrev pub invariant-loop-made : goal.invariant-loop-made
invariant-loop-made g l = record {
  lane : l.tap.lane ≡ l.fn.tap.lane;
  lock : l.tap.front.lock ≡ l.fn.tap.front.lock;
  failed : l.failed ≤ l._made * 1025;
  made : length l.rounds ≡ l._made;
  count : l.failed ≡ length (rounds_tells l.fn.tap.lane l.rounds);
  told : g.G.Gate.told l.gate ≡ g.G.Gate.told l.fn.gate ++ rounds_tells l.fn.tap.lane l.rounds;
  asked : g.G.Gate.asked l.gate ≡ g.G.Gate.asked l.fn.gate;
  runs : Runs (GoesRound l.fn.now) l.fn.tap.front l.rounds l.tap.front;
}
