use Rattle.std.proofs.Common.{arith, refl}
use Rattle.smx_lane.specs.Inside.{content_of}
use Rattle.smx_history.proofs.ShiftAgrees.{AgreesWith-turned}
use Rattle.smx_lane.proofs.lane.Lane.turn_over.Goals as goal

pub returns-clause-turned : goal.returns-clause-turned
returns-clause-turned c =
    let v = content_of c.self.inside in
    rw (← c.self.view_is, c.replace.ensures.value, c.replace.ensures.after, c.in_ok-fresh.ensures.items)
    (omega (arith, c.if-len-least.false, c.len.ensures), refl, refl, λ h was. AgreesWith-turned h v c.args.by was)
