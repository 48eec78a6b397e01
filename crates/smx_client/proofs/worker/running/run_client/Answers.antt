use Rattle.std.proofs.Common.{rules, [], refl, sym, Ok, Err}
use Rattle.std.proofs.lemmas.List.{append-nil}
use Rattle.smx_turns.specs.declared.end.TurnEnd.TheVariants.{Idle, Done}
use Rattle.smx_turns.proofs.Chains.{ran_none, ran_more, runs_none}
use Rattle.smx_client.specs.Parts.{Does}
use Rattle.smx_turns.proofs.Rounding.{last_one, round_more, end_as}
use Rattle.smx_client.proofs.Coursing.{turned_more}
use Rattle.smx_client.proofs.worker.running.run_client.Goals as goal

pub loop-turn-init : goal.loop-turn-init
loop-turn-init g c = record {
  locks = refl;
  origin = refl;
  goes_on = c.requires.goes_on;
  ends = sym (append-nil _);
  turned = ([], runs_none _ _);
  ran = ran_none Does _ _ _ _ refl refl;
}

pub loop-turn-preserved : goal.loop-turn-preserved
loop-turn-preserved g c = record {
  locks = search rules;
  origin = search rules;
  goes_on = search rules;
  ends = round_more _ _ _ _ (end_as _ _ _ _ c.in-Ok-Worked.field-0-is c.in-Ok-Worked.ensures.ends) c.loop-turn.invariant.ends;
  turned = turned_more g.L.Link.offered g.L.Link.polls g.L.Link.failures c.args.now _ _ _ c.turn.result c.loop-turn.invariant.turned c.turn.ensures.changes c.turn.ensures.order c.turn.ensures.ends;
  ran = ran_more Does _ _ _ _ _ _ _ c.loop-turn.invariant.ran c.in-Ok-Worked.ensures.events c.in-Ok-Worked.ensures.runs;
}

pub returns-in-Ok-Idle-clause-ends : goal.returns-in-Ok-Idle-clause-ends
returns-in-Ok-Idle-clause-ends g c = (c.loop-turn._turn, (search rules), last_one _ _ _ _ (Ok Idle) (end_as _ _ _ _ c.in-Ok-Idle.field-0-is c.in-Ok-Idle.ensures.ends) c.loop-turn.invariant.ends)

pub returns-in-Ok-Idle-clause-ran : goal.returns-in-Ok-Idle-clause-ran
returns-in-Ok-Idle-clause-ran g c = ran_more Does _ _ _ _ _ _ _ c.loop-turn.invariant.ran c.in-Ok-Idle.ensures.events c.in-Ok-Idle.ensures.runs

pub returns-in-Ok-Done-clause-ends : goal.returns-in-Ok-Done-clause-ends
returns-in-Ok-Done-clause-ends g c = (c.loop-turn._turn, (search rules), last_one _ _ _ _ (Ok Done) (end_as _ _ _ _ c.in-Ok-Done.field-0-is c.in-Ok-Done.ensures.ends) c.loop-turn.invariant.ends)

pub returns-in-Ok-Done-clause-ran : goal.returns-in-Ok-Done-clause-ran
returns-in-Ok-Done-clause-ran g c = ran_more Does _ _ _ _ _ _ _ c.loop-turn.invariant.ran c.in-Ok-Done.ensures.events c.in-Ok-Done.ensures.runs

pub returns-in-Err-clause-ends : goal.returns-in-Err-clause-ends
returns-in-Err-clause-ends g c = (c.loop-turn._turn, (search rules), last_one _ _ _ _ (Err c.in-Err.fault) c.in-Err.ensures.ends c.loop-turn.invariant.ends)

pub returns-in-Err-clause-ran : goal.returns-in-Err-clause-ran
returns-in-Err-clause-ran g c = ran_more Does _ _ _ _ _ _ _ c.loop-turn.invariant.ran c.in-Err.ensures.events c.in-Err.ensures.runs

pub returns-in-Err-clause-goes_on : goal.returns-in-Err-clause-goes_on
returns-in-Err-clause-goes_on g c = λ other. absurd (other _ refl)

pub returns-in-Ok-Idle-clause-turned : goal.returns-in-Ok-Idle-clause-turned
returns-in-Ok-Idle-clause-turned g c = turned_more g.L.Link.offered g.L.Link.polls g.L.Link.failures c.args.now _ _ _ c.turn.result c.loop-turn.invariant.turned c.turn.ensures.changes c.turn.ensures.order c.turn.ensures.ends

pub returns-in-Ok-Done-clause-turned : goal.returns-in-Ok-Done-clause-turned
returns-in-Ok-Done-clause-turned g c = turned_more g.L.Link.offered g.L.Link.polls g.L.Link.failures c.args.now _ _ _ c.turn.result c.loop-turn.invariant.turned c.turn.ensures.changes c.turn.ensures.order c.turn.ensures.ends

pub returns-in-Err-clause-turned : goal.returns-in-Err-clause-turned
returns-in-Err-clause-turned g c = turned_more g.L.Link.offered g.L.Link.polls g.L.Link.failures c.args.now _ _ _ c.turn.result c.loop-turn.invariant.turned c.turn.ensures.changes c.turn.ensures.order c.turn.ensures.ends
