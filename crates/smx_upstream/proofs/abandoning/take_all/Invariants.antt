use Rattle.std.proofs.Common.{◌≡◌}
use Rattle.smx_turns.specs.Runs.{Runs}
use Rattle.smx_upstream.specs.Abandoning.{TakesOne}
use Rattle.smx_upstream.proofs.abandoning.take_all.Given as goal

abbrev pub invariant-loop-taken : goal.invariant-loop-taken
invariant-loop-taken g l = record {
  lane : l.tap.lane ≡ l.fn.tap.lane;
  lock : l.tap.front.lock ≡ l.fn.tap.front.lock;
  runs : Runs (TakesOne l.fn.now) l.fn.tap.front l.taken l.tap.front;
}
