use Rattle.std.proofs.Common.{◌≡◌, ◌∙◌, sym, ap, arith, Some, slice_get}
use Rattle.smx_lane.proofs.WindowRows.{none_held, first_held}
use Rattle.smx_lane.proofs.window.Window.first.Goals as goal

pub returns-in-Some : goal.returns-in-Some
returns-in-Some c =
    let at : slice_get c.self.inside.rows c.loop-at.at ≡ Some (Some c.in-Some.place) = c.get.ensures ∙ ap Some c.in-Some.is in
    rw (← c.self.view_is) (sym (first_held c.self.inside.rows c.loop-at.at c.in-Some.place c.loop-at.invariant at))

pub returns : goal.returns
returns c =
    rw (← c.self.view_is) (sym (none_held c.self.inside.rows (λ k within. c.loop-at.invariant k (omega (arith, within, c.loop-at-test.false, c.len-at-end.ensures)))))
