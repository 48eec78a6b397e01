use Rattle.std.proofs.Common.{subst}
use Rattle.smx_shared.specs.Serving.{LoadServes, Waited}
use Rattle.smx_shared.proofs.Holding.{load_may, load_serves}
use Rattle.smx_shared.proofs.lane_seat.LaneSeat.load.Goals.{in-Ok, in-Err}
use Rattle.smx_shared.proofs.lane_seat.LaneSeat.load.Goals as goal

pub hold-requires-clause-leaves : goal.hold-requires-clause-leaves
hold-requires-clause-leaves g c h answer w found did = load_may h w did.0 found.fixed found.agrees

pub returns-clause-served : goal.returns-clause-served
returns-clause-served g c =
    let new = c.hold.new.self in
    subst (λ f. Waited (LoadServes f new) f new c.match-hold.result) c.self.view_is
    (elim c.match-hold.branch [
      | in-Ok w ↦ rw w.result-is (load_serves c.self.inside.seat new _ w.in-Ok.ensures.done)
      | in-Err w ↦ rw w.result-is w.in-Err.ensures.spent
    ])
