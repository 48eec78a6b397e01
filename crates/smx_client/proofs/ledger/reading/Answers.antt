use Rattle.smx_turns.specs.declared.step.Step.TheVariants.{Read}
use Rattle.smx_client.proofs.Cells.{phase_more}
use Rattle.smx_turns.proofs.Scenes.{step_more}
use Rattle.smx_client.specs.Events.{worth}
use Rattle.smx_client.specs.Parts.{Does}
use Rattle.smx_client.specs.Turns.{May}
use Rattle.smx_client.proofs.ledger.reading.Goals as goal

pub returns-clause-phase : goal.returns-clause-phase
returns-clause-phase c = λ t p was. phase_more t _ _ (Read c.args.answer) p c.push.ensures was

pub returns-clause-leads : goal.returns-clause-leads
returns-clause-leads c = λ n a b acts base was. step_more Does worth May n a b _ _ (Read c.args.answer) base c.push.ensures tt acts was
