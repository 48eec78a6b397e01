use Rattle.std.proofs.Common.{subst, ap}
use Rattle.smx_shared.specs.Steps.{ServesList}
use Rattle.smx_shared.proofs.ListSubmitting.{landed_may, landed_serves}
use Rattle.smx_shared.proofs.lane_seat.LaneSeat.submit_all.Goals.{in-Ok, in-Err}
use Rattle.smx_shared.proofs.lane_seat.LaneSeat.submit_all.Goals as goal

pub hold-requires-clause-leaves : goal.hold-requires-clause-leaves
hold-requires-clause-leaves g c h answer w found did = landed_may h w c.args.client c.args.first c.args.offers.items answer did found.fixed found.agrees

pub returns-clause-served : goal.returns-clause-served
returns-clause-served g c =
    let new = c.hold.new.self in
    subst (λ f. ServesList f new c.args.client c.args.first c.args.offers.items c.match-hold.result) c.self.view_is
    (elim c.match-hold.branch [
      | in-Ok w ↦ rw w.result-is (landed_serves c.self.inside.seat new c.args.client c.args.first c.args.offers.items w.in-Ok.landings w.in-Ok.ensures.done)
      | in-Err w ↦ rw w.result-is (ap (λ s. s.offers.items) w.in-Err.ensures.back, w.in-Err.ensures.spent)
    ])
