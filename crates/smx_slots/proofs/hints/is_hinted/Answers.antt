use Rattle.smx_slots.proofs.Hinting.{hinted}
use Rattle.smx_slots.proofs.hints.is_hinted.Goals as goal

pub returns : goal.returns
returns c = hinted
