use Rattle.std.proofs.Common.{arith, ◌≡◌, ◌<◌, None, sym, ◌∙◌, ap}
use Rattle.smx_lane.specs.Inside.{content_of}
use Rattle.smx_history.specs.Replies.{accept_refusal, member_with, refusal_for}
use Rattle.smx_history.proofs.Refusals.{allowed}
use Rattle.smx_history.proofs.Keeping.{KeepsRoom-accepted, found_meets}
use Rattle.smx_history.proofs.AcceptAgrees.{AgreesWith-accepted}
use Rattle.smx_lane.proofs.Refusing.{accept_refusal_is, accepted_row}
use Rattle.smx_lane.proofs.lane.Lane.accept.Goals as goal

pub invariant_of-self-2 : goal.invariant_of-self-2
invariant_of-self-2 c =
    let v = content_of c.self.inside in
    let r = c.args.request in
    let by_lane = rw (← c.self.view_is) at c.refusal-by_lane.ensures in
    let none : accept_refusal v r.client ≡ None = accept_refusal_is v r.client _ _ c.self.invariant.places by_lane ∙ c.in-Ok.ensures.reply in
    let row = accepted_row v (member_with r.client v.members) none in
    let m = row.0 in
    let a = allowed v m (sym (ap (refusal_for v) row.1) ∙ none) in
    let noted = c.in-Ok.ensures.ok in
    let pushed = c.in-Ok-try_push_back.ensures.ok in
    record {
      room = rw (pushed, c.push_reserved.ensures.items, noted) (KeepsRoom-accepted v c.args.by r m c.self.invariant.room row.1 a);
      queue = rw pushed c.self.invariant.queue;
      window = c.self.invariant.window;
      entries = omega (arith, c.push_reserved.ensures.capacity, c.self.invariant.entries);
      places = rw noted c.self.invariant.places;
    }

pub returns-clause-agrees : goal.returns-clause-agrees
returns-clause-agrees c = λ h was.
    let v = content_of c.self.inside in
    let r = c.args.request in
    let by_lane = rw (← c.self.view_is) at c.refusal-by_lane.ensures in
    let none : accept_refusal v r.client ≡ None = accept_refusal_is v r.client _ _ c.self.invariant.places by_lane ∙ c.in-Ok.ensures.reply in
    let row = accepted_row v (member_with r.client v.members) none in
    let m = row.0 in
    let a = allowed v m (sym (ap (refusal_for v) row.1) ∙ none) in
    let noted = c.in-Ok.ensures.ok in
    let pushed = c.in-Ok-try_push_back.ensures.ok in
    let meets = found_meets (λ m. (m.last < r.ordinal) × (m.by ≡ c.args.by)) r.client m v.members (rw (← c.self.view_is) at c.requires) row.1 in
    rw (pushed, c.push_reserved.ensures.items, noted) (AgreesWith-accepted h v c.args.by r m (rw c.self.view_is was) row.1 a meets.0 meets.1)
