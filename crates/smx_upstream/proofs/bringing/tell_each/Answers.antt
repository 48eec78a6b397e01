use Rattle.std.proofs.Common.{◌≡◌, ◌++◌, ◌∷◌, [], List, length, refl, sym, ap, ◌∙◌, append_assoc, arith}
use Rattle.std.proofs.lemmas.List.{append-nil}
use Rattle.smx_lane.specs.declared.settled.Settled.{Settled}
use Rattle.smx_upstream.specs.Events.{answer_tells, settled_tells}
use Rattle.smx_upstream.proofs.Telling.{told_none, told_push}
use Rattle.smx_upstream.proofs.bringing.tell_each.Goals as goal

none_left : {X : Type 0} (xs : List X) → length xs ≡ 0 → xs ≡ []
none_left [] h = refl
none_left (x ∷ xs) h = absurd (omega (arith, h))

pub loop-one-init : goal.loop-one-init
loop-one-init g c = record {
  asked = refl;
  made = ([], c.from_vec-left.ensures.items, told_none (λ (s : Settled). answer_tells c.args.lane s.answered) _ [] refl);
}

pub loop-one-preserved : goal.loop-one-preserved
loop-one-preserved g c =
    let i = c.loop-one.invariant in
    let ss = i.made.0 in
    let one = c.in-Some.one in
    let next = c.in-Some.ensures.items in
    record {
      asked = c.tell_one.ensures.asked ∙ i.asked;
      made = (
        ss ++ one ∷ [],
        append_assoc ss (one ∷ []) c.pop_front.new.self.items ∙ ap (λ xs. ss ++ xs) (sym next) ∙ i.made.1,
        told_push (λ (s : Settled). answer_tells c.args.lane s.answered) _ _ _ ss _ one refl c.tell_one.ensures.told i.made.2,
      );
    }

pub loop-one-preserved-in-Some : goal.loop-one-preserved-in-Some
loop-one-preserved-in-Some g c =
    let i = c.loop-one.invariant in
    let ss = i.made.0 in
    let one = c.in-Some.one in
    let next = c.in-Some.ensures.items in
    record {
      asked = c.tell_one.ensures.asked ∙ i.asked;
      made = (
        ss ++ one ∷ [],
        append_assoc ss (one ∷ []) c.pop_front.new.self.items ∙ ap (λ xs. ss ++ xs) (sym next) ∙ i.made.1,
        told_push (λ (s : Settled). answer_tells c.args.lane s.answered) _ _ _ ss _ one refl c.tell_one.ensures.told i.made.2,
      );
    }

pub returns-clause-asked : goal.returns-clause-asked
returns-clause-asked g c = c.loop-one.invariant.asked

pub returns-clause-told : goal.returns-clause-told
returns-clause-told g c =
    let made = c.loop-one.invariant.made in
    let left = c.loop-one.left in
    let none = none_left left.items (omega (arith, c.in_default.ensures.cases.0, left.ok.0)) in
    let all = sym (append-nil made.0) ∙ ap (λ xs. made.0 ++ xs) (sym none) ∙ made.1 in
    made.2 ∙ ap (λ ss. g.G.Gate.told c.args.gate.now ++ settled_tells c.args.lane ss) all
