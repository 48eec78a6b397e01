use Rattle.std.proofs.Common.{List, refl, sym, ◌∙◌, subst}
use Rattle.smx_lane.specs.declared.sent.Sent.{Sent}
use Rattle.smx_turns.specs.Runs.{Runs}
use Rattle.smx_turns.proofs.Chains.{runs_none, runs_push}
use Rattle.smx_upstream.specs.Abandoning.{TakesOne}
use Rattle.smx_upstream.proofs.abandoning.take_all.Goals as goal

pub loop-taken-init : goal.loop-taken-init
loop-taken-init g c = record {
  lane = refl;
  lock = refl;
  runs = subst (λ (x : List Sent). Runs (TakesOne c.args.now) c.args.tap.now.front x c.args.tap.now.front) (sym c.new-taken.ensures) (runs_none (TakesOne c.args.now) c.args.tap.now.front);
}

pub loop-taken-preserved : goal.loop-taken-preserved
loop-taken-preserved g c = record {
  lane = c.take.ensures.same.0 ∙ c.loop-taken.invariant.lane;
  lock = c.take.ensures.same.1 ∙ c.loop-taken.invariant.lock;
  runs = runs_push (TakesOne c.args.now) _ _ _ _ _ c.in-Ok.sent c.and-taken.ensures c.in-Ok.ensures.served c.loop-taken.invariant.runs;
}
