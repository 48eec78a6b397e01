use Rattle.std.proofs.Common.{sym, ◌∙◌, ap}
use Rattle.std.specs.Option.{option_copied}
use Rattle.smx_history.specs.Answering.{oldest_in}
use Rattle.smx_lane.proofs.ClientRows.{at-place, member-at, no-member}
use Rattle.smx_lane.proofs.roster.Roster.oldest.Goals as goal

pub returns-in_err-at : goal.returns-in_err-at
returns-in_err-at c =
    let missing = no-member c.self.inside c.args.client c.self.invariant (sym c.place.ensures ∙ c.in_err-at.was) in
    rw (← c.self.view_is) (ap option_copied c.from_residual.ensures ∙ sym (ap oldest_in missing))

pub index-requires : goal.index-requires
index-requires c = at-place c.self.inside c.args.client c.in_ok-at.at c.self.invariant (sym c.place.ensures ∙ c.in_ok-at.was)

pub returns : goal.returns
returns c =
    let member = member-at c.self.inside c.args.client c.in_ok-at.at c.index.result.now c.self.invariant (sym c.place.ensures ∙ c.in_ok-at.was) c.index.ensures in
    rw (← c.self.view_is) (c.front.ensures ∙ sym (ap oldest_in member))
