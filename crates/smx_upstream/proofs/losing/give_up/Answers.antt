use Rattle.std.proofs.Common.{◌≡◌, ◌+◌, ◌++◌, ◌∷◌, [], List, ℕ, length, refl, sym, ap, ◌∙◌, subst}
use Rattle.std.proofs.lemmas.List.{length-append}
use Rattle.smx_history.specs.declared.reply.Failed.{Failed}
use Rattle.smx_turns.specs.Runs.{Runs}
use Rattle.smx_turns.proofs.Chains.{runs_none, runs_push}
use Rattle.smx_upstream.specs.Events.{failed_tells}
use Rattle.smx_upstream.specs.Losing.{GivesUp}
use Rattle.smx_upstream.proofs.Telling.{told_none, told_push}
use Rattle.smx_upstream.proofs.losing.give_up.Goals as goal

pub loop-failed-init : goal.loop-failed-init
loop-failed-init g c = record {
  lane = refl;
  lock = refl;
  runs = subst (λ (x : List Failed). Runs GivesUp c.args.tap.now.front x c.args.tap.now.front) (sym c.new-given.ensures) (runs_none GivesUp c.args.tap.now.front);
  count = ap {B = ℕ} (λ (x : List Failed). length x) c.new-given.ensures;
  known = refl;
  told = told_none (failed_tells c.args.tap.now.lane) _ _ c.new-given.ensures;
  asked = refl;
}

one_more : (xs ys : List Failed) (x : Failed) (n : ℕ) → ys ≡ xs ++ x ∷ [] → length xs ≡ n → length ys ≡ n + 1
one_more xs ys x n grown count = ap {B = ℕ} (λ (l : List Failed). length l) grown ∙ length-append xs (x ∷ []) ∙ ap {B = ℕ} (λ (k : ℕ). k + 1) count

pub loop-failed-preserved : goal.loop-failed-preserved
loop-failed-preserved g c = record {
  lane = c.fail.ensures.same.0 ∙ c.loop-failed.invariant.lane;
  lock = c.fail.ensures.same.1 ∙ c.loop-failed.invariant.lock;
  runs = runs_push GivesUp _ _ _ _ _ c.in-Ok.one c.and-given.ensures c.in-Ok.ensures.served c.loop-failed.invariant.runs;
  count = one_more _ _ c.in-Ok.one _ c.and-given.ensures c.loop-failed.invariant.count;
  known = c.fail.ensures.known ∙ c.loop-failed.invariant.known;
  told = told_push (failed_tells c.args.tap.now.lane) _ _ _ _ _ c.in-Ok.one c.and-given.ensures
      (c.tell_of.ensures.told ∙ ap (λ n. g.G.Gate.told c.loop-failed.gate ++ failed_tells n c.in-Ok.one) c.lane-lane.ensures) c.loop-failed.invariant.told;
  asked = c.tell_of.ensures.asked ∙ c.loop-failed.invariant.asked;
}
