use Rattle.std.proofs.Common.{◌≡◌, ◌∙◌, sym, ap, arith, max, Some, slice_get}
use Rattle.std.proofs.lemmas.Option.{slice_get_within}
use Rattle.smx_history.specs.Replies.{is_expired}
use Rattle.smx_lane.proofs.WindowRows.{none_passes, first_passes}
use Rattle.smx_lane.proofs.Listing.{none_found}
use Rattle.smx_lane.proofs.window.Window.expired.Goals as goal

pub returns-then-not-has_expired-clause-found : goal.returns-then-not-has_expired-clause-found
returns-then-not-has_expired-clause-found c =
    let keeps = c.self.invariant in
    let now : c.max-now.result ≡ max c.args.now c.self.inside.ages.latest = omega (arith, c.max-now.ensures, c.latest.ensures) in
    rw (← c.self.view_is, ← now) (none_found c.self.inside.rows c.has_expired.new.self.aged c.max-now.result c.args.age keeps.numbered (c.has_expired.ensures.each keeps.listed) (c.has_expired.ensures.none c.if-not-has_expired.true))

pub returns-in-Some-clause-found : goal.returns-in-Some-clause-found
returns-in-Some-clause-found c =
    let rows = c.self.inside.rows in
    let now : c.max-now.result ≡ max c.args.now c.self.inside.ages.latest = omega (arith, c.max-now.ensures, c.latest.ensures) in
    let at : slice_get rows c.loop-at.at ≡ Some (Some c.in-Some.place) = c.get.ensures ∙ ap Some c.in-Some.is in
    rw (← c.self.view_is, ← now) (sym (first_passes (is_expired c.max-now.result c.args.age) rows c.loop-at.at c.in-Some.place
    (λ j p below there. c.loop-at.invariant j p below there) at (sym c.is_expired.ensures ∙ c.if-is_expired.true)))

pub returns-clause-found : goal.returns-clause-found
returns-clause-found c =
    let rows = c.self.inside.rows in
    let now : c.max-now.result ≡ max c.args.now c.self.inside.ages.latest = omega (arith, c.max-now.ensures, c.latest.ensures) in
    rw (← c.self.view_is, ← now) (sym (none_passes (is_expired c.max-now.result c.args.age) rows (λ k q there.
    c.loop-at.invariant k q (omega (arith, slice_get_within rows k (Some q) there, c.loop-at-test.false, c.len-at-end.ensures)) there)))
