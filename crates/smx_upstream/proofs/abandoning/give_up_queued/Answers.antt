use Rattle.std.proofs.Common.{◌≡◌, ◌≢◌, ◌+◌, ◌++◌, ◌∷◌, [], ℕ, length, List, Some, refl, sym, ap, ◌∙◌, subst, arith}
use Rattle.std.proofs.lemmas.List.{length-append}
use Rattle.smx_lock.specs.Fronts.{Front}
use Rattle.smx_history.specs.declared.limits.Limits.{Limits}
use Rattle.smx_history.specs.declared.note.Note.{Note}
use Rattle.smx_turns.specs.Runs.{Runs}
use Rattle.smx_turns.proofs.Chains.{runs_none, runs_push}
use Rattle.smx_upstream.specs.declared.abandoning.AbandonEnd.{AbandonEnd}
use Rattle.smx_upstream.specs.declared.abandoning.AbandonEnd.TheVariants.{Emptied, StaysDown, Spent, Left}
use Rattle.smx_upstream.specs.declared.abandoning.Round.{Round}
use Rattle.smx_upstream.specs.declared.event.Rise.{Rise}
use Rattle.smx_upstream.specs.Abandoning.{GoesRound, EndsFor, EndsRounds, HasEmptied, IsSpentIn}
use Rattle.smx_upstream.specs.Events.{lost_tells, rounds_tells}
use Rattle.smx_upstream.proofs.Emptied.{leaves_none}
use Rattle.smx_upstream.proofs.Telling.{count_push, told_none, told_push}
use Rattle.smx_upstream.proofs.abandoning.give_up_queued.Goals as goal

ends_same : (f : Front Note Limits) (e : AbandonEnd) → ((rise : Rise) → e ≢ StaysDown rise) → EndsRounds f f e
ends_same f Emptied stays = refl
ends_same f (StaysDown rise) stays = absurd (stays rise refl)
ends_same f Spent stays = refl
ends_same f Left stays = refl

one_more : (xs ys : List Round) (x : Round) (n : ℕ) → ys ≡ xs ++ x ∷ [] → length xs ≡ n → length ys ≡ n + 1
one_more xs ys x n grown count = ap {B = ℕ} (λ (l : List Round). length l) grown ∙ length-append xs (x ∷ []) ∙ ap {B = ℕ} (λ (k : ℕ). k + 1) count

why_last : (xs ys : List Round) (x : Round) (e : AbandonEnd) → ys ≡ xs ++ x ∷ [] → (e ≡ Emptied → HasEmptied x) → (e ≡ Spent → IsSpentIn x) → ((rise : Rise) → e ≢ StaysDown rise) → e ≢ Left → EndsFor ys e
why_last xs ys x Emptied grown emptied spent stays left = (xs, x, grown, emptied refl)
why_last xs ys x (StaysDown rise) grown emptied spent stays left = absurd (stays rise refl)
why_last xs ys x Spent grown emptied spent stays left = (xs, x, grown, spent refl)
why_last xs ys x Left grown emptied spent stays left = absurd (left refl)

pub loop-made-init : goal.loop-made-init
loop-made-init g c = record {
  lane = refl;
  lock = refl;
  failed = omega arith;
  made = ap {B = ℕ} (λ (x : List Round). length x) c.new-rounds.ensures;
  count = ap (λ l. length (rounds_tells c.args.tap.now.lane l)) (sym c.new-rounds.ensures);
  told = told_none (λ r. lost_tells c.args.tap.now.lane r.lost) _ _ c.new-rounds.ensures;
  asked = refl;
  runs = subst (λ (x : List Round). Runs (GoesRound c.args.now) c.args.tap.now.front x c.args.tap.now.front) (sym c.new-rounds.ensures) (runs_none (GoesRound c.args.now) c.args.tap.now.front);
}

pub loop-made-preserved : goal.loop-made-preserved
loop-made-preserved g c = record {
  lane = c.make_round.ensures.lock.0 ∙ c.loop-made.invariant.lane;
  lock = c.make_round.ensures.lock.1 ∙ c.loop-made.invariant.lock;
  failed = omega (arith, c.in-Ok.ensures.few, c.loop-made.invariant.failed);
  made = one_more _ _ c.in-Ok.made _ c.and-rounds.ensures c.loop-made.invariant.made;
  count = count_push c.args.tap.now.lane _ _ _ c.in-Ok.made c.and-rounds.ensures c.loop-made.invariant.count c.in-Ok.ensures.count;
  told = told_push (λ r. lost_tells c.args.tap.now.lane r.lost) _ _ _ _ _ c.in-Ok.made c.and-rounds.ensures
      (c.in-Ok.ensures.told ∙ ap (λ n. g.G.Gate.told c.loop-made.gate ++ lost_tells n c.in-Ok.made.lost) c.loop-made.invariant.lane) c.loop-made.invariant.told;
  asked = c.make_round.ensures.asked ∙ c.loop-made.invariant.asked;
  runs = runs_push (GoesRound c.args.now) _ _ _ _ _ c.in-Ok.made c.and-rounds.ensures c.in-Ok.ensures.round c.loop-made.invariant.runs;
}

pub returns-in-Some-clause-rounds : goal.returns-in-Some-clause-rounds
returns-in-Some-clause-rounds g c = record {
  last = c.make_round.new.tap.front;
  runs = runs_push (GoesRound c.args.now) _ _ _ _ _ c.in-Ok.made c.and-rounds.ensures c.in-Ok.ensures.round c.loop-made.invariant.runs;
  ends = ends_same c.make_round.new.tap.front c.in-Some.end (λ rise same. c.end_of.ensures.none_stays rise (c.in-Some.is ∙ ap Some same));
  why = why_last _ _ c.in-Ok.made c.in-Some.end c.and-rounds.ensures
      (λ e. c.end_of.ensures.emptied (c.in-Some.is ∙ ap Some e)) (λ e. c.end_of.ensures.spent (c.in-Some.is ∙ ap Some e))
      (λ rise same. c.end_of.ensures.none_stays rise (c.in-Some.is ∙ ap Some same)) (λ e. c.end_of.ensures.none_left (c.in-Some.is ∙ ap Some e));
}

pub returns-in-Some-clause-settled : goal.returns-in-Some-clause-settled
returns-in-Some-clause-settled g c = λ e.
    leaves_none c.args.now c.args.tap.now.front c.loop-made.tap.front c.make_round.new.tap.front c.loop-made.rounds c.in-Ok.made c.loop-made.invariant.runs c.in-Ok.ensures.round (c.end_of.ensures.emptied (c.in-Some.is ∙ ap Some e))

pub returns-in-Some-clause-count : goal.returns-in-Some-clause-count
returns-in-Some-clause-count g c = count_push c.args.tap.now.lane _ _ _ c.in-Ok.made c.and-rounds.ensures c.loop-made.invariant.count c.in-Ok.ensures.count

pub returns-in-Some-clause-told : goal.returns-in-Some-clause-told
returns-in-Some-clause-told g c = told_push (λ r. lost_tells c.args.tap.now.lane r.lost) _ _ _ _ _ c.in-Ok.made c.and-rounds.ensures
    (c.in-Ok.ensures.told ∙ ap (λ n. g.G.Gate.told c.loop-made.gate ++ lost_tells n c.in-Ok.made.lost) c.loop-made.invariant.lane) c.loop-made.invariant.told
