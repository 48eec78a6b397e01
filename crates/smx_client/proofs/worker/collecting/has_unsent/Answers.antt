use Rattle.smx_turns.proofs.Wires.{clear_so}
use Rattle.smx_client.proofs.worker.collecting.has_unsent.Goals as goal

pub returns : goal.returns
returns g c = clear_so _ _ c.is_clear.ensures
