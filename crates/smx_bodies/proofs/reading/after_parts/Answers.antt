use Rattle.smx_bodies.proofs.Bodily.{rest_found, rest_only, rest_cut}
use Rattle.smx_bodies.proofs.reading.after_parts.Goals as goal

pub returns-clause-found : goal.returns-clause-found
returns-clause-found c = rest_found _ _ _ c.rest_of.ensures

pub returns-clause-only : goal.returns-clause-only
returns-clause-only c = λ first rest parts same. rest_only _ _ _ c.rest_of.ensures first rest parts same

pub returns-clause-message : goal.returns-clause-message
returns-clause-message c = rest_cut _ _ _ c.rest_of.ensures
