use Rattle.std.proofs.Common.{◌≡◌, ◌++◌, ◌∷◌, [], List, length, length-append, append_assoc, sym, refl, ◌∙◌, ap, subst, arith}
use Rattle.std.specs.List.{AllZip}
use Rattle.std.proofs.lemmas.Slice.Zip.{all_zipped_more}
use Rattle.smx_lock.specs.Fronts.{Front, LockId, IsLast}
use Rattle.smx_history.specs.declared.limits.Limits.{Limits}
use Rattle.smx_history.specs.declared.note.Note.{Note}
use Rattle.smx_lane.specs.Kept.{writer, limits_of, suits}
use Rattle.smx_shared.specs.Views.{locks_of}
use Rattle.smx_shared.proofs.exchange.finish_all.Goals as goal

none_left : {X : Type 0} (xs : List X) → length xs ≡ 0 → xs ≡ []
none_left [] h = refl
none_left (x ∷ xs) h = absurd (omega arith)

heads : (f : Front Note Limits) (fs : List (Front Note Limits)) (l : LockId Limits) (ls : List (LockId Limits)) → locks_of (f ∷ fs) ≡ l ∷ ls → (f.lock ≡ l) × (locks_of fs ≡ ls)
heads f fs l ls h = (cc, cc)

pub loop-seat-init : goal.loop-seat-init
loop-seat-init c = record {
  done = rw c.requires.none tt;
  left = c.into_iter-seat-iterator.ensures.into_iter_gives.0;
  locks = ap locks_of c.into_iter-seat-iterator.ensures.into_iter_gives.0 ∙ c.requires.locks ∙ sym c.into_iter-rest.ensures.rest;
  count = omega (arith, ap length c.requires.none, ap length c.into_iter-rest.ensures.rest);
  room = c.requires.room;
}

pub loop-seat-preserved : goal.loop-seat-preserved
loop-seat-preserved c =
    let next = c.in-Some.ensures.steps.0 in
    let lock : c.loop-seat.rest.rest.items ≡ c.in-Some-next.lock ∷ c.next-in-loop-seat.new.self.rest.items = c.in-Some-next.ensures.items in
    let pushed = c.push_reserved.ensures.items in
    let last = subst (λ (f : Front Note Limits). IsLast writer limits_of suits f c.in-Ok.lane) (c.into_seat.ensures ∙ c.seat.view_is) c.in-Ok.ensures in
    let heads_here = heads c.in-Some.seat c.next.new.self.rest.items c.in-Some-next.lock c.next-in-loop-seat.new.self.rest.items (ap locks_of (sym next) ∙ c.loop-seat.invariant.locks ∙ lock) in
    record {
      done = subst (AllZip (IsLast writer limits_of suits) (c.loop-seat.yielded ++ c.in-Some.seat ∷ [])) (sym pushed)
          (all_zipped_more (IsLast writer limits_of suits) c.loop-seat.yielded c.loop-seat.lanes.items c.in-Some.seat c.in-Ok.lane c.loop-seat.invariant.done last);
      left = append_assoc c.loop-seat.yielded (c.in-Some.seat ∷ []) c.next.new.self.rest.items ∙ ap (λ xs. c.loop-seat.yielded ++ xs) (sym next) ∙ c.loop-seat.invariant.left;
      locks = heads_here.1;
      count = omega (arith, c.loop-seat.invariant.count, ap length lock, ap length pushed, length-append c.loop-seat.lanes.items (c.in-Ok.lane ∷ []));
      room = omega (arith, c.push_reserved.ensures.capacity, c.loop-seat.invariant.room);
    }
