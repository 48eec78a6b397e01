use Rattle.std.proofs.Common.{subst}
use Rattle.smx_shared.specs.Batches.{TakesServe}
use Rattle.smx_shared.proofs.ListServing.{taken_may, taken_serves}
use Rattle.smx_shared.proofs.lane_seat.LaneSeat.take_all.Goals as goal

pub hold-requires-clause-leaves : goal.hold-requires-clause-leaves
hold-requires-clause-leaves g c h answer w found did = taken_may h w c.args.now answer did found.fixed found.agrees

pub returns-in-Ok-clause-served : goal.returns-in-Ok-clause-served
returns-in-Ok-clause-served g c =
    subst (λ f. TakesServe f c.hold.new.self c.args.now c.in-Ok.taken) c.self.view_is (taken_serves c.self.inside.seat c.hold.new.self c.args.now _ c.in-Ok.ensures.done)
