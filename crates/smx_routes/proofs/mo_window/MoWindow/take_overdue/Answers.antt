use Rattle.std.proofs.Common.{sym}
use Rattle.smx_routes.proofs.Apart.{length-overdue}
use Rattle.smx_routes.proofs.mo_window.MoWindow.take_overdue.Goals as goal

pub returns-clause-one : goal.returns-clause-one
returns-clause-one c =
    let found = rw c.as_slice.ensures.value at c.in_ok-message.ensures in
    rw (c.remove.ensures, ← c.self.view_is) (length-overdue c.self.inside.waiting.items c.args.until c.in_ok-message.message c.self.invariant.apart (sym found))
