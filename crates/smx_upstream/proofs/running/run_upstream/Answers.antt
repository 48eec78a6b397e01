use Rattle.std.proofs.Common.{rules, [], refl, ◌∙◌, sym, Ok, Err}
use Rattle.std.proofs.lemmas.List.{append-nil}
use Rattle.smx_turns.specs.declared.end.TurnEnd.TheVariants.{Filled, Idle, Done}
use denote.Param.Always.{mut_next}
use Rattle.smx_turns.proofs.Chains.{ran_none, runs_none}
use Rattle.smx_turns.proofs.Filters.{ran_turn}
use Rattle.smx_upstream.specs.Events.{worth}
use Rattle.smx_upstream.specs.May.{May}
use Rattle.smx_upstream.specs.Standing.{Does}
use Rattle.smx_turns.proofs.Rounding.{last_one, round_more, end_as}
use Rattle.smx_session.specs.Moments.{is_bound}
use Rattle.smx_upstream.specs.Phases.{phase_of}
use Rattle.smx_upstream.specs.Quiet.{are_all_quiet}
use Rattle.smx_upstream.specs.Working.{before_turn}
use Rattle.smx_upstream.proofs.Cells.{over_at}
use Rattle.smx_upstream.proofs.Clocking.{clocked_more, clocked_out}
use Rattle.smx_upstream.proofs.running.run_upstream.Goals as goal

pub loop-turn-init : goal.loop-turn-init
loop-turn-init g c = record {
  clock = λ x. x;
  held = c.requires.none;
  lock = c.requires.lock;
  first = refl;
  ends = sym (append-nil _);
  clocked = ([], runs_none _ _);
  ran = ran_none Does _ _ _ _ refl refl;
}

pub returns-in-Ok-Done-clause-ran : goal.returns-in-Ok-Done-clause-ran
returns-in-Ok-Done-clause-ran g c = ran_turn Does worth May _ _ _ _ _ _ c.loop-turn.invariant.ran c.turn.ensures.changes

pub returns-in-Ok-Idle-clause-ran : goal.returns-in-Ok-Idle-clause-ran
returns-in-Ok-Idle-clause-ran g c = ran_turn Does worth May _ _ _ _ _ _ c.loop-turn.invariant.ran c.turn.ensures.changes

pub returns-in-Err-clause-ran : goal.returns-in-Err-clause-ran
returns-in-Err-clause-ran g c = ran_turn Does worth May _ _ _ _ _ _ c.loop-turn.invariant.ran c.turn.ensures.changes

pub loop-turn-preserved : goal.loop-turn-preserved
loop-turn-preserved g c = record {
  clock = λ a. mut_next g.C.FnMut _ _ _ _ _ c.clock-now.ensures refl (c.loop-turn.invariant.clock a);
  held = c.in-Ok-Worked.ensures.held;
  lock = c.turn.ensures.lock;
  first = c.turn.ensures.first ∙ c.loop-turn.invariant.first;
  ends = round_more _ _ _ _ (end_as _ _ _ _ c.in-Ok-Worked.field-0-is c.in-Ok-Worked.ensures.ends) c.loop-turn.invariant.ends;
  clocked = clocked_more _ _ _ _ _ _ _ _ c.turn.result c.loop-turn.invariant.clocked c.clock-now.ensures c.turn.ensures.order c.turn.ensures.changes c.turn.ensures.failures c.turn.ensures.ends;
  ran = ran_turn Does worth May _ _ _ _ _ _ c.loop-turn.invariant.ran c.turn.ensures.changes;
}

pub returns-in-Err-clause-held : goal.returns-in-Err-clause-held
returns-in-Err-clause-held g c = λ none. absurd (none _ refl)

pub returns-in-Ok-Idle-clause-ends : goal.returns-in-Ok-Idle-clause-ends
returns-in-Ok-Idle-clause-ends g c = (c.loop-turn._turn, (search rules), last_one _ _ _ _ (Ok Idle) (end_as _ _ _ _ c.in-Ok-Idle.field-0-is c.in-Ok-Idle.ensures.ends) c.loop-turn.invariant.ends)

pub returns-in-Ok-Done-clause-ends : goal.returns-in-Ok-Done-clause-ends
returns-in-Ok-Done-clause-ends g c = (c.loop-turn._turn, (search rules), last_one _ _ _ _ (Ok Done) (end_as _ _ _ _ c.in-Ok-Done.field-0-is c.in-Ok-Done.ensures.ends) c.loop-turn.invariant.ends)

pub returns-in-Err-clause-ends : goal.returns-in-Err-clause-ends
returns-in-Err-clause-ends g c = (c.loop-turn._turn, (search rules), last_one _ _ _ _ (Err c.in-Err.fault) c.in-Err.ensures.ends c.loop-turn.invariant.ends)

pub returns-in-Ok-Done-clause-clocked : goal.returns-in-Ok-Done-clause-clocked
returns-in-Ok-Done-clause-clocked g c = clocked_out _ _ _ _ _ _ _ _ _ _ (clocked_more _ _ _ _ _ _ _ _ c.turn.result c.loop-turn.invariant.clocked c.clock-now.ensures c.turn.ensures.order c.turn.ensures.changes c.turn.ensures.failures c.turn.ensures.ends)

pub returns-in-Ok-Idle-clause-clocked : goal.returns-in-Ok-Idle-clause-clocked
returns-in-Ok-Idle-clause-clocked g c = clocked_out _ _ _ _ _ _ _ _ _ _ (clocked_more _ _ _ _ _ _ _ _ c.turn.result c.loop-turn.invariant.clocked c.clock-now.ensures c.turn.ensures.order c.turn.ensures.changes c.turn.ensures.failures c.turn.ensures.ends)

pub returns-in-Err-clause-clocked : goal.returns-in-Err-clause-clocked
returns-in-Err-clause-clocked g c = clocked_out _ _ _ _ _ _ _ _ _ _ (clocked_more _ _ _ _ _ _ _ _ c.turn.result c.loop-turn.invariant.clocked c.clock-now.ensures c.turn.ensures.order c.turn.ensures.changes c.turn.ensures.failures c.turn.ensures.ends)

pub returns-clause-clocked : goal.returns-clause-clocked
returns-clause-clocked g c = clocked_out _ _ _ _ _ _ _ _ _ _ c.loop-turn.invariant.clocked

pub returns-in-Ok-Done-clause-left : goal.returns-in-Ok-Done-clause-left
returns-in-Ok-Done-clause-left g c = λ left. (before_turn c.clock-now.result c.loop-turn.worker, refl, over_at (is_bound c.turn.new.self.stand.session.state) (are_all_quiet c.turn.new.self.steps) _ (phase_of (before_turn c.clock-now.result c.loop-turn.worker) c.turn.new.self.steps) c.in-Ok-Done.field-0-is c.in-Ok-Done.ensures.order)

pub returns-in-Ok-Filled-clause-ran : goal.returns-in-Ok-Filled-clause-ran
returns-in-Ok-Filled-clause-ran g c = ran_turn Does worth May _ _ _ _ _ _ c.loop-turn.invariant.ran c.turn.ensures.changes

pub returns-in-Ok-Filled-clause-ends : goal.returns-in-Ok-Filled-clause-ends
returns-in-Ok-Filled-clause-ends g c = (c.loop-turn._turn, (search rules), last_one _ _ _ _ (Ok Filled) (end_as _ _ _ _ c.in-Ok-Filled.field-0-is c.in-Ok-Filled.ensures.ends) c.loop-turn.invariant.ends)

pub returns-in-Ok-Filled-clause-clocked : goal.returns-in-Ok-Filled-clause-clocked
returns-in-Ok-Filled-clause-clocked g c = clocked_out _ _ _ _ _ _ _ _ _ _ (clocked_more _ _ _ _ _ _ _ _ c.turn.result c.loop-turn.invariant.clocked c.clock-now.ensures c.turn.ensures.order c.turn.ensures.changes c.turn.ensures.failures c.turn.ensures.ends)
