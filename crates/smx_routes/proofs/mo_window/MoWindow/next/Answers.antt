use Rattle.std.proofs.Common.{arith}
use Rattle.smx_routes.proofs.Numbers.{waiting-le-length}
use Rattle.smx_routes.proofs.mo_window.MoWindow.next.Goals as goal

pub unreachable-requires : goal.unreachable-requires
unreachable-requires c =
    let inside = c.self.inside in
    let invariant = rw (← c.self.view_is) at c.loop-passed.invariant in
    let requires = rw (← c.self.view_is) at c.requires in
    let size = c.self.invariant.size in
    let all = waiting-le-length inside.last c.loop-passed.passed inside.waiting.items (omega (arith, c.loop-passed.auto.passed-end, size.1)) invariant in
    requires (omega (arith, all, c.self.invariant.within, c.loop-passed-test.false))
