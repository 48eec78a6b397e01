use Rattle.smx_turns.specs.declared.step.Step.TheVariants.{Asked}
use Rattle.smx_client.proofs.Cells.{phase_more}
use Rattle.smx_turns.proofs.Scenes.{step_more, asks}
use Rattle.smx_client.specs.Events.{worth}
use Rattle.smx_client.specs.Parts.{Does}
use Rattle.smx_client.specs.Turns.{May}
use Rattle.smx_client.proofs.ledger.ask.Goals as goal

pub returns-clause-phase : goal.returns-clause-phase
returns-clause-phase g c = λ t p was. phase_more t _ _ (Asked c.args.point c.at-answer.result) p c.push.ensures was

pub returns-clause-leads : goal.returns-clause-leads
returns-clause-leads g c = λ queries events parts unsent offered polls failures base was.
    step_more Does worth May c.args.turn _ _ _ _ (Asked c.args.point c.at-answer.result) base c.push.ensures tt
    (asks _ _ _ _ queries events parts unsent offered polls failures _ c.at-answer.ensures.asked c.at-answer.ensures.told) was
