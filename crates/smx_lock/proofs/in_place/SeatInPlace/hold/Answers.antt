use Rattle.std.proofs.Common.{ap, subst, ◌∙◌}
use Rattle.smx_lock.specs.Fronts.{Finds, front_in}
use Rattle.smx_lock.proofs.in_place.SeatInPlace.hold.Goals as goal

pub returns-in-Ok-clause-done : goal.returns-in-Ok-clause-done
returns-in-Ok-clause-done g c =
    let is = c.standing.ensures ∙ ap (front_in g.S.Kept.some_fixed) c.take.ensures.value ∙ c.self.view_is in
    (c.in-Ok.held, c.run-seat.ensures.0, subst (λ f. Finds g.S.Kept.writer g.S.Kept.fixed g.S.Kept.agrees f c.in-Ok.held) is c.in-Ok.ensures.found, c.run-seat.ensures.1, c.run-seat.ensures.2)
