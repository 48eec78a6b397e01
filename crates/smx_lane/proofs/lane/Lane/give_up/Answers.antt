use Rattle.std.proofs.Common.{arith, ℕ, Some, ◌≡◌, get_or, refl, sym, ◌∙◌, ap, None, slice_get, is_some}
use Rattle.std.proofs.lemmas.Option.{slice_get_within, get_or_from_slice_get}
use Rattle.smx_history.specs.declared.place.Place.{Place}
use Rattle.smx_lane.specs.Private.Places.{IsPlaceOf, Places}
use Rattle.smx_history.specs.Contents.{Content}
use Rattle.smx_history.specs.Failures.{failure_command, failure}
use Rattle.smx_lane.specs.Inside.{content_of}
use Rattle.smx_history.specs.Replies.{member_with}
use Rattle.smx_history.proofs.Updates.{failing_entry}
use Rattle.smx_history.proofs.Settled.{KeepsRoom-settled, KeepsRoom-settled_late, box_has_room}
use Rattle.smx_history.proofs.FailAgrees.{AgreesWith-failed, AgreesWith-failed_late}
use Rattle.smx_lane.proofs.Refusing.{some_row}
use Rattle.smx_lane.proofs.lane.Lane.give_up.Goals as goal

-- the place is in the window
in_window : (x y : Content) (q : Place) → x ≡ y → (i : ℕ) × (slice_get y.window i ≡ Some q) → IsPlaceOf x.window q.upstream q
in_window x y q same there = record { index = there.0; there = ap (λ (v : Content). slice_get v.window there.0) same ∙ there.1; number_is = refl }

pub remove-requires : goal.remove-requires
remove-requires c = (c.args.place.now, in_window (content_of c.self.inside) c.args.self.now c.args.place.now c.self.view_is c.requires)

pub put-requires-clause-room : goal.put-requires-clause-room
put-requires-clause-room c = λ m found.
    let v = content_of c.self.inside in
    let q = c.args.place.now in
    let removed = c.remove.ensures.taken q (in_window v c.args.self.now q c.self.view_is c.requires) in
    let within = slice_get_within v.window removed.0 q removed.1 in
    let is : q ≡ get_or v.window removed.0 q = sym (get_or_from_slice_get v.window removed.0 q q removed.1) in
    omega (arith, box_has_room v q removed.0 m c.self.invariant.room within is found, c.self.invariant.places)

pub invariant_of-self : goal.invariant_of-self
invariant_of-self c =
    let v = content_of c.self.inside in
    let q = c.args.place.now in
    let removed = c.remove.ensures.taken q (in_window v c.args.self.now q c.self.view_is c.requires) in
    let within = slice_get_within v.window removed.0 q removed.1 in
    let is : q ≡ get_or v.window removed.0 q = sym (get_or_from_slice_get v.window removed.0 q q removed.1) in
    let room = KeepsRoom-settled_late v (failing_entry c.args.by q) q removed.0 c.self.invariant.room within is in
    let same = c.if-not-put.ensures.same refl in
    record {
      room = rw (removed.2, c.push_reserved.ensures.items, c.settling-entry.ensures, c.failure-response.ensures, same) room;
      queue = c.self.invariant.queue;
      window = ap (λ (p : Places). p.most) removed.2 ∙ c.self.invariant.window;
      entries = omega (arith, c.push_reserved.ensures.capacity, c.self.invariant.entries);
      places = rw same c.self.invariant.places;
    }

pub invariant_of-self-2 : goal.invariant_of-self-2
invariant_of-self-2 c =
    let v = content_of c.self.inside in
    let q = c.args.place.now in
    let removed = c.remove.ensures.taken q (in_window v c.args.self.now q c.self.view_is c.requires) in
    let within = slice_get_within v.window removed.0 q removed.1 in
    let is : q ≡ get_or v.window removed.0 q = sym (get_or_from_slice_get v.window removed.0 q q removed.1) in
    let p = failure (failure_command q.command) q.upstream in
    let put = c.if-not-put.ensures.there refl in
    let row = some_row (member_with q.client v.members) put.0 in
    let ms = rw (c.facing.ensures, c.failure-response.ensures) at put.1 in
    let room = KeepsRoom-settled v (failing_entry c.args.by q) p q removed.0 row.0 c.self.invariant.room within is row.1 in
    record {
      room = rw (removed.2, c.push_reserved.ensures.items, c.settling-entry.ensures, c.failure-response.ensures, ms) room;
      queue = c.self.invariant.queue;
      window = ap (λ (p : Places). p.most) removed.2 ∙ c.self.invariant.window;
      entries = omega (arith, c.push_reserved.ensures.capacity, c.self.invariant.entries);
      places = rw ms c.self.invariant.places;
    }

pub returns-then-not-put-clause-given_up : goal.returns-then-not-put-clause-given_up
returns-then-not-put-clause-given_up c =
    let v = content_of c.self.inside in
    let q = c.args.place.now in
    let removed = c.remove.ensures.taken q (in_window v c.args.self.now q c.self.view_is c.requires) in
    let within = slice_get_within v.window removed.0 q removed.1 in
    let is : q ≡ get_or v.window removed.0 q = sym (get_or_from_slice_get v.window removed.0 q q removed.1) in
    let room = KeepsRoom-settled_late v (failing_entry c.args.by q) q removed.0 c.self.invariant.room within is in
    let same = c.if-not-put.ensures.same refl in
    let gone : member_with q.client v.members ≡ None = c.if-not-put.ensures.absent refl in (
      refl,
      ap (λ (x : Content). member_with q.client x.members) (sym c.self.view_is) ∙ gone,
      λ h was. rw (removed.2, c.push_reserved.ensures.items, c.settling-entry.ensures, c.failure-response.ensures, same)
          (AgreesWith-failed_late h v c.args.by q removed.0 (rw c.self.view_is was) within is gone room),
    )

pub returns-clause-given_up : goal.returns-clause-given_up
returns-clause-given_up c =
    let v = content_of c.self.inside in
    let q = c.args.place.now in
    let removed = c.remove.ensures.taken q (in_window v c.args.self.now q c.self.view_is c.requires) in
    let within = slice_get_within v.window removed.0 q removed.1 in
    let is : q ≡ get_or v.window removed.0 q = sym (get_or_from_slice_get v.window removed.0 q q removed.1) in
    let p = failure (failure_command q.command) q.upstream in
    let put = c.if-not-put.ensures.there refl in
    let row = some_row (member_with q.client v.members) put.0 in
    let ms = rw (c.facing.ensures, c.failure-response.ensures) at put.1 in
    let room = KeepsRoom-settled v (failing_entry c.args.by q) p q removed.0 row.0 c.self.invariant.room within is row.1 in (
      refl,
      ap is_some (ap (λ (x : Content). member_with q.client x.members) (sym c.self.view_is) ∙ row.1),
      λ h was. rw (removed.2, c.push_reserved.ensures.items, c.settling-entry.ensures, c.failure-response.ensures, ms)
          (AgreesWith-failed h v c.args.by q removed.0 (rw c.self.view_is was) within is room),
    )
