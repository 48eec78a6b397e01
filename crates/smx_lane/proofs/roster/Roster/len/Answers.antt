use Rattle.std.proofs.Common.{sym, ◌∙◌}
use Rattle.smx_lane.proofs.ClientRows.{as-many}
use Rattle.smx_lane.proofs.roster.Roster.len.Goals as goal

pub returns : goal.returns
returns c = rw (← c.self.view_is) (c.len.ensures ∙ sym (as-many c.self.inside c.self.invariant))
