use Rattle.std.proofs.Common.{arith, ◌≡◌, ◌<◌, ◌++◌, ◌∷◌, [], drop, length, subst, sym, ◌∙◌, true, false, inl, inr}
use Rattle.std.proofs.lemmas.Bool.{cases_lt}
use Rattle.smx_lane.specs.Inside.{content_of}
use Rattle.smx_history.specs.declared.place.Place.{Place}
use Rattle.smx_history.specs.Prefixes.{SameCounts}
use Rattle.smx_history.specs.Replies.{moment_at}
use Rattle.smx_history.proofs.Taken.{KeepsRoom-taken}
use Rattle.smx_history.proofs.TakeAgrees.{AgreesWith-taken, MayBeTaken}
use Rattle.smx_history.proofs.Updates.{taken}
use Rattle.smx_lane.proofs.ClientRows.{front_is}
use Rattle.smx_lane.proofs.Reordering.{KeepsRoom-reordered, AgreesWith-reordered}
use Rattle.smx_lane.proofs.lane.Lane.take.Goals as goal

pub invariant_of-self : goal.invariant_of-self
invariant_of-self c =
    let v = content_of c.self.inside in
    let r = c.unwrap-request.result in
    let q = c.put-upstream.result in
    let t = moment_at v c.args.now in
    let popped = c.pop_front.ensures.items in
    let put = c.put-upstream.ensures in
    let front = front_is v.queue r (sym c.pop_front.ensures.value ∙ c.unwrap-request.ensures) in
    let room : length v.window < v.limits.window = elim (cases_lt (length v.window) v.limits.window) [
      | inl lt ↦ lt
      | inr le ↦ let full : true ≡ false = sym (c.is_full.ensures.1 (omega (arith, le, c.self.invariant.window))) ∙ c.if-is_full.false in cc
    ] in
    let kept = KeepsRoom-taken v c.args.by r q.upstream t (drop 1 v.queue) c.self.invariant.room front room in
    record {
      room = rw (popped, c.push_reserved.ensures.items, put.generations, put.latest) (KeepsRoom-reordered (taken v c.args.by r q.upstream t) c.put-upstream.new.self.taken (subst (λ (p : Place). SameCounts (v.window ++ p ∷ []) c.put-upstream.new.self.taken) put.place put.taken) kept);
      queue = rw popped c.self.invariant.queue;
      window = put.most ∙ c.self.invariant.window;
      entries = omega (arith, c.push_reserved.ensures.capacity, c.self.invariant.entries);
      places = c.self.invariant.places;
    }

pub returns-clause-agrees : goal.returns-clause-agrees
returns-clause-agrees c = λ h was.
    let v = content_of c.self.inside in
    let r = c.unwrap-request.result in
    let q = c.put-upstream.result in
    let t = moment_at v c.args.now in
    let popped = c.pop_front.ensures.items in
    let put = c.put-upstream.ensures in
    let front = front_is v.queue r (sym c.pop_front.ensures.value ∙ c.unwrap-request.ensures) in
    let room : length v.window < v.limits.window = elim (cases_lt (length v.window) v.limits.window) [
      | inl lt ↦ lt
      | inr le ↦ let full : true ≡ false = sym (c.is_full.ensures.1 (omega (arith, le, c.self.invariant.window))) ∙ c.if-is_full.false in cc
    ] in
    let may : MayBeTaken v q.upstream = record {
      room = room;
      up = cc;
      positive = put.range.0;
      within = omega (arith, put.range.1);
      free = put.free;
      next = rw (← c.self.invariant.window) put.next;
    } in
    let agrees = AgreesWith-taken h v c.args.by r (drop 1 v.queue) q.upstream t (rw c.self.view_is was) front may in
    rw (← c.self.view_is, popped, c.push_reserved.ensures.items, put.generations, put.latest)
    (AgreesWith-reordered _ (taken v c.args.by r q.upstream t) c.put-upstream.new.self.taken (subst (λ (p : Place). SameCounts (v.window ++ p ∷ []) c.put-upstream.new.self.taken) put.place put.taken) agrees)
