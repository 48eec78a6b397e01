use Rattle.std.proofs.Common.{◌≡◌, ◌<◌, ℕ, true}
use Rattle.smx_routes.specs.Window.{waits, number_behind}
use Rattle.smx_routes.proofs.mo_window.MoWindow.next.Given as goal

abbrev pub invariant-loop-passed : goal.invariant-loop-passed
invariant-loop-passed l = (k : ℕ) → k < l.passed → waits (number_behind l.self.last k) l.self.waiting ≡ true
