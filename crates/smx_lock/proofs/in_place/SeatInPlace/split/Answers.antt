use Rattle.std.proofs.Common.{[], ap, subst, ◌∙◌, inr}
use Rattle.smx_lock.specs.Fronts.{Finds, after_hold, front_in}
use Rattle.smx_lock.proofs.in_place.SeatInPlace.split.Goals as goal

pub returns-in-Ok-split-clause-ok : goal.returns-in-Ok-split-clause-ok
returns-in-Ok-split-clause-ok g c =
    let is = c.standing.ensures ∙ ap (front_in g.S.Kept.some_fixed) c.take.ensures.value ∙ c.self.view_is in (
      c.in-Ok.held,
      subst (λ f. Finds g.S.Kept.writer g.S.Kept.fixed g.S.Kept.agrees f c.in-Ok.held) is c.in-Ok.ensures.found,
      c.in-Ok-split.ensures.room,
      c.release.ensures ∙ ap (λ h. after_hold h []) c.in-Ok-split.ensures.host,
      c.new.ensures ∙ c.in-Ok-split.ensures.guest,
    )

pub returns-in-Err-split-clause-err : goal.returns-in-Err-split-clause-err
returns-in-Err-split-clause-err g c =
    let is = c.standing.ensures ∙ ap (front_in g.S.Kept.some_fixed) c.take.ensures.value ∙ c.self.view_is in
    inr (
      c.in-Ok.held,
      subst (λ f. Finds g.S.Kept.writer g.S.Kept.fixed g.S.Kept.agrees f c.in-Ok.held) is c.in-Ok.ensures.found,
      c.in-Err-split.ensures.spent,
      c.release-in-Err-split.ensures ∙ ap (λ h. after_hold h []) c.in-Err-split.ensures.unchanged,
    )
