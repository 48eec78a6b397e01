use Rattle.std.proofs.Common.{arith, ◌≡◌, refl, sym, ◌∙◌, ap, None, Some}
use Rattle.std.specs.List.{find}
use Rattle.smx_history.specs.declared.note.Event.TheVariants as event
use Rattle.smx_history.specs.History.{entry_by}
use Rattle.smx_history.specs.Contents.{Content}
use Rattle.smx_lane.specs.Inside.{content_of}
use Rattle.smx_history.specs.Replies.{answers_place, member_with}
use Rattle.smx_history.proofs.Settled.{KeepsRoom-settled, KeepsRoom-settled_late, box_has_room}
use Rattle.smx_history.proofs.AnswerAgrees.{AgreesWith-answered}
use Rattle.smx_history.proofs.LateAgrees.{AgreesWith-late}
use Rattle.smx_lane.specs.Private.Places.{Places}
use Rattle.smx_lane.proofs.Answering.{answered_at}
use Rattle.smx_lane.proofs.Refusing.{some_row}
use Rattle.smx_lane.proofs.lane.Lane.answer_response.Goals as goal

pub put-requires-clause-room : goal.put-requires-clause-room
put-requires-clause-room c = λ m found.
    let v = content_of c.self.inside in
    let p = c.args.response in
    let q = c.in-Some.place in
    let removed = c.remove.ensures.taken q c.in-Some.ensures.place in
    let place = answered_at v p removed.0 q (sym c.in-Some.ensures.found) removed.1 in
    omega (arith, box_has_room v q removed.0 m c.self.invariant.room place.within place.is found, c.self.invariant.places)

pub invariant_of-self : goal.invariant_of-self
invariant_of-self c =
    let v = content_of c.self.inside in
    let p = c.args.response in
    let q = c.in-Some.place in
    let removed = c.remove.ensures.taken q c.in-Some.ensures.place in
    let place = answered_at v p removed.0 q (sym c.in-Some.ensures.found) removed.1 in
    let room = KeepsRoom-settled_late v (entry_by c.args.by (event.Late q.client q.ordinal p.number p.command)) q removed.0 c.self.invariant.room place.within place.is in
    let same = c.if-not-put.ensures.same refl in
    record {
      room = rw (removed.2, c.push_reserved.ensures.items, c.settling-entry.ensures, same) room;
      queue = c.self.invariant.queue;
      window = ap (λ (p : Places). p.most) removed.2 ∙ c.self.invariant.window;
      entries = omega (arith, c.push_reserved.ensures.capacity, c.self.invariant.entries);
      places = rw same c.self.invariant.places;
    }

pub invariant_of-self-2 : goal.invariant_of-self-2
invariant_of-self-2 c =
    let v = content_of c.self.inside in
    let p = c.args.response in
    let q = c.in-Some.place in
    let removed = c.remove.ensures.taken q c.in-Some.ensures.place in
    let place = answered_at v p removed.0 q (sym c.in-Some.ensures.found) removed.1 in
    let put = c.if-not-put.ensures.there refl in
    let row = some_row (member_with q.client v.members) put.0 in
    let ms = rw c.facing.ensures at put.1 in
    let room = KeepsRoom-settled v (entry_by c.args.by (event.Answer q.client q.ordinal p)) p q removed.0 row.0 c.self.invariant.room place.within place.is row.1 in
    record {
      room = rw (removed.2, c.push_reserved-2.ensures.items, c.settling-entry.ensures, ms) room;
      queue = c.self.invariant.queue;
      window = ap (λ (p : Places). p.most) removed.2 ∙ c.self.invariant.window;
      entries = omega (arith, c.push_reserved-2.ensures.capacity, c.self.invariant.entries);
      places = rw ms c.self.invariant.places;
    }

pub returns-then-not-put-clause-answered : goal.returns-then-not-put-clause-answered
returns-then-not-put-clause-answered c =
    let v = content_of c.self.inside in
    let p = c.args.response in
    let q = c.in-Some.place in
    let removed = c.remove.ensures.taken q c.in-Some.ensures.place in
    let place = answered_at v p removed.0 q (sym c.in-Some.ensures.found) removed.1 in
    let room = KeepsRoom-settled_late v (entry_by c.args.by (event.Late q.client q.ordinal p.number p.command)) q removed.0 c.self.invariant.room place.within place.is in
    let same = c.if-not-put.ensures.same refl in
    let gone : member_with q.client v.members ≡ None = c.if-not-put.ensures.absent refl in (
      q,
      ap (λ (x : Content). find (answers_place p) x.window) (sym c.self.view_is) ∙ place.first,
      refl,
      ap (λ (x : Content). member_with q.client x.members) (sym c.self.view_is) ∙ gone,
      λ h was. rw (removed.2, c.push_reserved.ensures.items, c.settling-entry.ensures, same)
          (AgreesWith-late h v c.args.by p q removed.0 (rw c.self.view_is was) place.within place.is place.number place.command gone room),
    )

pub returns-clause-answered : goal.returns-clause-answered
returns-clause-answered c =
    let v = content_of c.self.inside in
    let p = c.args.response in
    let q = c.in-Some.place in
    let removed = c.remove.ensures.taken q c.in-Some.ensures.place in
    let place = answered_at v p removed.0 q (sym c.in-Some.ensures.found) removed.1 in
    let put = c.if-not-put.ensures.there refl in
    let row = some_row (member_with q.client v.members) put.0 in
    let ms = rw c.facing.ensures at put.1 in
    let room = KeepsRoom-settled v (entry_by c.args.by (event.Answer q.client q.ordinal p)) p q removed.0 row.0 c.self.invariant.room place.within place.is row.1 in (
      q,
      row.0,
      ap (λ (x : Content). find (answers_place p) x.window) (sym c.self.view_is) ∙ place.first,
      refl,
      ap (λ (x : Content). member_with q.client x.members) (sym c.self.view_is) ∙ row.1,
      λ h was. rw (removed.2, c.push_reserved-2.ensures.items, c.settling-entry.ensures, ms)
          (AgreesWith-answered h v c.args.by p q removed.0 row.0 (rw c.self.view_is was) place.within place.is place.number place.command row.1 room),
    )

pub returns-in_default-clause-ordinal : goal.returns-in_default-clause-ordinal
returns-in_default-clause-ordinal c = λ q is.
    let h : None ≡ Some q = sym c.in_default.is ∙ c.find.ensures.found ∙ ap (λ (x : Content). find (answers_place c.args.response) x.window) c.self.view_is ∙ is in
    cc
