use Rattle.std.proofs.Common.{◌≡◌, ◌++◌, length}
use Rattle.std.specs.List.{flat_map}
use Rattle.smx_shared.specs.Taps.{known_of}
use Rattle.smx_turns.specs.Runs.{Runs}
use Rattle.smx_upstream.specs.Events.{failed_tells}
use Rattle.smx_upstream.specs.Losing.{GivesUp}
use Rattle.smx_upstream.proofs.losing.give_up.Given as goal

abbrev pub invariant-loop-failed : goal.invariant-loop-failed
invariant-loop-failed g l = record {
  lane : l.tap.lane ≡ l.fn.tap.lane;
  lock : l.tap.front.lock ≡ l.fn.tap.front.lock;
  runs : Runs GivesUp l.fn.tap.front l.given l.tap.front;
  count : length l.given ≡ l.failed;
  known : known_of l.tap.front.mine ≡ known_of l.fn.tap.front.mine;
  told : g.G.Gate.told l.gate ≡ g.G.Gate.told l.fn.gate ++ flat_map (failed_tells l.fn.tap.lane) l.given;
  asked : g.G.Gate.asked l.gate ≡ g.G.Gate.asked l.fn.gate;
}
