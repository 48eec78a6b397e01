use Rattle.std.proofs.Common.{subst}
use Rattle.smx_shared.specs.Batches.{CollectsServe}
use Rattle.smx_shared.proofs.ListServing.{collected_may, collected_serves}
use Rattle.smx_shared.proofs.lane_seat.LaneSeat.collect_all.Goals as goal

pub hold-requires-clause-leaves : goal.hold-requires-clause-leaves
hold-requires-clause-leaves g c h answer w found did = collected_may h w c.args.client answer did found.fixed found.agrees

pub returns-in-Ok-clause-served : goal.returns-in-Ok-clause-served
returns-in-Ok-clause-served g c =
    subst (λ f. CollectsServe f c.hold.new.self c.args.client c.in-Ok.collected) c.self.view_is (collected_serves c.self.inside.seat c.hold.new.self c.args.client _ c.in-Ok.ensures.done)
