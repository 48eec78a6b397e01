use Rattle.smx_slots.proofs.Turning.{waits}
use Rattle.smx_slots.proofs.line.is_in_turn.Goals as goal

pub returns : goal.returns
returns c = waits
