use Rattle.smx_lane.specs.Inside.{content_of}
use Rattle.smx_history.proofs.ShiftAgrees.{AgreesWith-turned}
use Rattle.smx_lane.proofs.lane.Lane.let_go.Goals as goal

pub returns-clause-agrees : goal.returns-clause-agrees
returns-clause-agrees c = λ h was.
    let v = content_of c.self.inside in
    rw c.clear.ensures.items (AgreesWith-turned h v c.args.by (rw c.self.view_is was))
