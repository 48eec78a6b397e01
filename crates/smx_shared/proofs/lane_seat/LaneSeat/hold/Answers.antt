use Rattle.std.proofs.Common.{◌≡◌, ap, subst}
use Rattle.std.specs.Prelude.{MatchResult}
use Rattle.smx_lock.specs.Fronts.{IsSpent}
use Rattle.smx_shared.specs.Serving.{CallServes}
use Rattle.smx_shared.proofs.Holding.{made_may, ran_serves}
use Rattle.smx_shared.proofs.lane_seat.LaneSeat.hold.Goals.{in-Ok, in-Err}
use Rattle.smx_shared.proofs.lane_seat.LaneSeat.hold.Goals as goal

pub hold-requires-clause-leaves : goal.hold-requires-clause-leaves
hold-requires-clause-leaves g c h answer w found did =
    made_may h w (g.C.LaneCall.call c.args.made h.number) (g.C.LaneCall.reply answer) did found.fixed found.agrees

pub returns-clause-served : goal.returns-clause-served
returns-clause-served g c =
    let call = g.C.LaneCall.call c.args.made in
    let reply = g.C.LaneCall.reply in
    let new = c.hold.new.self in
    subst (λ f. MatchResult c.match-hold.result (λ answer. CallServes f new (call f.number) (reply answer)) (λ e. (e.0 ≡ c.args.made) × IsSpent f new)) c.self.view_is
    (elim c.match-hold.branch [
      | in-Ok w ↦ rw w.result-is (ran_serves c.self.inside.seat new call reply _ w.in-Ok.ensures.done)
      | in-Err w ↦ rw w.result-is (ap (λ s. s.made) w.in-Err.ensures.back, w.in-Err.ensures.spent)
    ])
