use Rattle.std.proofs.Common.{◌≡◌, true}
use Rattle.smx_lane.specs.Inside.{content_of}
use Rattle.smx_history.proofs.LinkAgrees.{KeepsRoom-lowered, AgreesWith-lowered}
use Rattle.smx_lane.proofs.lane.Lane.down.Goals as goal

pub returns-clause-agrees : goal.returns-clause-agrees
returns-clause-agrees c = λ h was.
    let v = content_of c.self.inside in
    let up : v.up ≡ true = c.if-not-self.false in
    rw (c.push_reserved.ensures.items, c.linking.ensures)
    (AgreesWith-lowered h v c.args.by (rw c.self.view_is was) up (KeepsRoom-lowered v c.args.by c.self.invariant.room up))
