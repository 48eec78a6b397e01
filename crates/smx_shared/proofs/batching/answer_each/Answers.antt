use Rattle.std.proofs.Common.{◌≡◌, ◌++◌, ◌∷◌, List, [], length, length-append, refl, sym, ap, ◌∙◌, arith, append_assoc}
use Rattle.std.proofs.lemmas.List.{append-nil}
use Rattle.smx_lane.proofs.Calling.{ran_none}
use Rattle.smx_shared.proofs.ListServing.{brought_more}
use Rattle.smx_shared.proofs.batching.answer_each.Goals as goal

none_left : {X : Type 0} (xs : List X) → length xs ≡ 0 → xs ≡ []
none_left [] h = refl
none_left (x ∷ xs) h = absurd (omega (arith, h))

pub loop-response-init : goal.loop-response-init
loop-response-init c =
    let empty = c.requires.room.0 in
    record {
      made = ([], c.from_vec-left.ensures.items, rw empty refl, rw empty (ran_none c.args.lane.now));
      room = c.requires.room.1;
      limits = refl;
    }

pub push_reserved-requires : goal.push_reserved-requires
push_reserved-requires c =
    let i = c.loop-response.invariant in
    let next = c.in-Some.ensures.items in
    omega (arith, i.made.2, i.room, ap length i.made.1, length-append i.made.0 c.loop-response.left.items, ap length next, c.loop-response.settled.ok.0)

pub loop-response-preserved : goal.loop-response-preserved
loop-response-preserved c =
    let i = c.loop-response.invariant in
    let ps = i.made.0 in
    let p = c.in-Some.response in
    let next = c.in-Some.ensures.items in
    let items = c.push_reserved.ensures.items in
    record {
      made = (
        ps ++ p ∷ [],
        append_assoc ps (p ∷ []) c.pop_front.new.self.items ∙ ap (λ xs. ps ++ xs) (sym next) ∙ i.made.1,
        omega (arith, c.push_reserved.ensures.len, i.made.2, length-append ps (p ∷ []), c.push_reserved.new.self.ok.0, c.loop-response.settled.ok.0),
        rw items (brought_more c.args.by c.args.lane.now c.loop-response.lane c.answer_response.new.self ps c.loop-response.settled.items p c.answer_response.result i.made.2 i.made.3
            c.answer_response.ensures.answered c.answer_response.ensures.ordinal),
      );
      room = omega (arith, c.push_reserved.ensures.capacity, i.room);
      limits = c.answer_response.ensures.limits ∙ i.limits;
    }

pub returns : goal.returns
returns c =
    let i = c.loop-response.invariant in
    let left = c.loop-response.left in
    let none = none_left left.items (omega (arith, c.in_default.ensures.cases.0, left.ok.0)) in
    let all = sym (append-nil i.made.0) ∙ ap (λ xs. i.made.0 ++ xs) (sym none) ∙ i.made.1 in
    record { ran = rw (← all) i.made.3; limits = i.limits }
