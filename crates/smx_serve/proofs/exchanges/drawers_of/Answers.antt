use Rattle.std.proofs.Common.{◌≡◌, suc, List, ◌∷◌, All, slice_get, Some, ap, ◌∙◌, subst, arith}
use Rattle.std.specs.Arc.{arc_value}
use Rattle.smx_shared.specs.declared.tap.Tap.{Tap}
use Rattle.smx_serve.proofs.exchanges.drawers_of.Goals as goal

first : {X : Type 0} (P : X → Type 0) (x : X) (xs all : List X) → all ≡ x ∷ xs → All P all → P x
first P x xs all e h = (subst (All P) e h) 0 x (omega arith)

others : {X : Type 0} (P : X → Type 0) (x : X) (xs all : List X) → all ≡ x ∷ xs → All P all → All P xs
others P x xs all e h = λ k d within. (subst (All P) e h) (suc k) d (omega arith)

pub invariant_of-push : goal.invariant_of-push
invariant_of-push c = record {
  fits = ap (λ ls. slice_get ls c.in-Some.tap.lane) c.in_ok-try_clone.ensures
      ∙ first (λ (t : Tap). slice_get (arc_value c.args.at.now) t.lane ≡ Some t.front.lock) c.in-Some.tap c.next.new.self.rest.items c.loop-tap.tap-iterator.rest.items c.in-Some.ensures.steps.0 c.loop-tap.invariant;
}

pub loop-tap-preserved : goal.loop-tap-preserved
loop-tap-preserved c = others (λ (t : Tap). slice_get (arc_value c.args.at.now) t.lane ≡ Some t.front.lock) c.in-Some.tap c.next.new.self.rest.items c.loop-tap.tap-iterator.rest.items c.in-Some.ensures.steps.0 c.loop-tap.invariant
