use Rattle.std.proofs.Common.{◌≡◌, ◌++◌, ◌∷◌, List, [], length, length-append, refl, sym, ap, ◌∙◌, arith, append_assoc}
use Rattle.std.proofs.lemmas.List.{append-nil}
use Rattle.smx_lane.proofs.Calling.{ran_none, ran_further, goes_further, stays}
use Rattle.smx_lane.proofs.Handing.{hands_nothing, hands_more, hands_legal}
use Rattle.smx_lane.proofs.call.run_all.Goals as goal

none_left : {X : Type 0} (xs : List X) → length xs ≡ 0 → xs ≡ []
none_left [] h = refl
none_left (x ∷ xs) h = absurd (omega arith)

pub loop-call-init : goal.loop-call-init
loop-call-init c =
    let none = c.in_ok-replies.ensures.items in
    record {
      made = ([], rw none (ran_none c.args.lane.now), stays c.args.lane.now c.args.lane.now refl, λ h was. rw none (hands_nothing c.args.lane.now c.args.lane.now refl));
      count = c.in_ok-replies.ensures.len;
      room = omega (arith, c.in_ok-replies.ensures.capacity, c.len.ensures, c.args.calls.ok.0);
      left = c.into_iter-call-iterator.ensures.into_iter_gives.0;
      limits = refl;
    }

pub loop-call-preserved : goal.loop-call-preserved
loop-call-preserved c =
    let so_far = c.loop-call.invariant.made in
    let made = c.run.ensures.reply in
    let next = c.in-Some.ensures.steps.0 in
    record {
      made = (
        so_far.0 ++ made.0,
        rw c.push_reserved.ensures.items (ran_further c.loop-call.yielded c.loop-call.replies.items so_far.0 made.0 c.args.lane.now c.loop-call.lane c.run.new.lane c.in-Some.call c.run.result so_far.1 made.1 made.2),
        goes_further c.args.lane.now c.loop-call.lane c.run.new.lane so_far.0 made.0 so_far.2 made.2,
        rw c.push_reserved.ensures.items (hands_more c.args.lane.now c.loop-call.lane c.run.new.lane c.loop-call.replies.items c.run.result so_far.0 made.0 so_far.2 so_far.3 made.3),
      );
      count = omega (arith, c.push_reserved.ensures.len, c.loop-call.invariant.count, length-append c.loop-call.yielded (c.in-Some.call ∷ []));
      room = omega (arith, c.push_reserved.ensures.capacity, c.loop-call.invariant.room);
      left = append_assoc c.loop-call.yielded (c.in-Some.call ∷ []) c.next.new.self.rest.items ∙ ap (λ xs. c.loop-call.yielded ++ xs) (sym next) ∙ c.loop-call.invariant.left;
      limits = c.run.ensures.limits ∙ c.loop-call.invariant.limits;
    }

pub push_reserved-requires : goal.push_reserved-requires
push_reserved-requires c =
    let next = c.in-Some.ensures.steps.0 in
    omega (arith, c.loop-call.invariant.count, c.loop-call.invariant.room, ap length c.loop-call.invariant.left, length-append c.loop-call.yielded c.loop-call.call-iterator.rest.items, ap length next)

pub returns-clause-ran : goal.returns-clause-ran
returns-clause-ran c =
    let rest = c.loop-call.call-iterator.rest in
    let none = none_left rest.items (omega (arith, c.in-None.ensures.steps.0, rest.ok.0)) in
    let all = sym (append-nil c.loop-call.yielded) ∙ ap (λ xs. c.loop-call.yielded ++ xs) (sym none) ∙ c.loop-call.invariant.left in
    let made = c.loop-call.invariant.made in
    (made.0, rw (← all) made.1, made.2, made.3)

pub returns-clause-legal : goal.returns-clause-legal
returns-clause-legal c =
    let made = c.loop-call.invariant.made in
    hands_legal c.args.lane.now c.loop-call.lane c.loop-call.replies.items made.0 made.2 made.3
