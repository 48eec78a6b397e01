use Rattle.std.proofs.Common.{◌≡◌, ◌++◌, ◌∷◌, List, [], length, length-append, refl, sym, ap, ◌∙◌, arith, append_assoc}
use Rattle.std.proofs.lemmas.List.{append-nil}
use Rattle.smx_shared.specs.Landings.{accepted_each}
use Rattle.smx_shared.specs.Offers.{accepted_by}
use Rattle.smx_shared.proofs.ListSubmitting.{accepted_push, each_more}
use Rattle.smx_shared.proofs.accepting.accept_each.Goals as goal

none_left : {X : Type 0} (xs : List X) → length xs ≡ 0 → xs ≡ []
none_left [] h = refl
none_left (x ∷ xs) h = absurd (omega (arith, h))

pub loop-offer-init : goal.loop-offer-init
loop-offer-init c =
    let empty = c.requires.room.0 in
    record {
      made = ([], c.from_vec-left.ensures.items, rw empty refl, rw empty refl, omega arith);
      may = c.requires.may;
      some = c.requires.first.0;
      top = c.requires.first.1;
      room = c.requires.room.1;
      limits = refl;
    }

pub loop-offer-preserved : goal.loop-offer-preserved
loop-offer-preserved c =
    let i = c.loop-offer.invariant in
    let os = i.made.0 in
    let ls = c.loop-offer.landings.items in
    let o = c.in-Some.offer in
    let one = c.accept_one-ordinal.ensures in
    let l = one.landed.0 in
    let items = one.landed.1 in
    let push = accepted_push os ls o l i.made.2 in
    record {
      made = (
        os ++ o ∷ [],
        append_assoc os (o ∷ []) c.pop_front.new.self.items ∙ ap (λ xs. os ++ xs) (sym c.in-Some.ensures.items) ∙ i.made.1,
        omega (arith, ap length items, i.made.2, length-append os (o ∷ []), length-append ls (l ∷ [])),
        rw items (each_more c.args.by c.args.client c.args.first c.loop-offer.ordinal os ls o l c.args.lane.now c.loop-offer.lane c.accept_one-ordinal.new.lane i.made.3 i.made.4 one.landed.2 one.landed.3),
        rw items (omega (arith, one.landed.4, i.made.4, ap length push, length-append (accepted_each os ls) (accepted_by o l.landed))),
      );
      may = one.may;
      some = omega (arith, one.top, i.some);
      top = one.top.1;
      room = omega (arith, one.capacity, i.room);
      limits = one.limits ∙ i.limits;
    }

pub returns : goal.returns
returns c =
    let i = c.loop-offer.invariant in
    let left = c.loop-offer.left in
    let none = none_left left.items (omega (arith, c.in_default.ensures.cases.0, left.ok.0)) in
    let all = sym (append-nil i.made.0) ∙ ap (λ xs. i.made.0 ++ xs) (sym none) ∙ i.made.1 in
    record { each = rw (← all) i.made.3; limits = i.limits; next = rw (← all) i.made.4; top = i.top }
