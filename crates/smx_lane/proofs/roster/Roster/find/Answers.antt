use Rattle.std.proofs.Common.{sym, ◌∙◌}
use Rattle.smx_lane.proofs.ClientRows.{found-member, no-member}
use Rattle.smx_lane.proofs.roster.Roster.find.Goals as goal

pub returns-in_err-at : goal.returns-in_err-at
returns-in_err-at c = rw (c.from_residual.ensures, ← c.self.view_is) (no-member c.self.inside c.args.client c.self.invariant (sym c.place.ensures ∙ c.in_err-at.was))

pub returns : goal.returns
returns c = rw (← c.self.view_is) (found-member c.self.inside c.args.client c.in_ok-at.at c.get.result c.self.invariant (sym c.place.ensures ∙ c.in_ok-at.was) c.get.ensures)
