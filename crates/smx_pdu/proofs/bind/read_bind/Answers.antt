use Rattle.smx_pdu.proofs.BodyLaws.{bind_found, bind_only, bind_fault, bind_first}
use Rattle.smx_pdu.proofs.bind.read_bind.Goals as goal

pub returns-clause-found : goal.returns-clause-found
returns-clause-found c = bind_found _ _ c.bind_of.ensures

pub returns-clause-only : goal.returns-clause-only
returns-clause-only c = λ said h. bind_only _ _ c.bind_of.ensures said h

pub returns-clause-fault : goal.returns-clause-fault
returns-clause-fault c = bind_fault _ _ c.bind_of.ensures

pub returns-clause-first : goal.returns-clause-first
returns-clause-first c = λ e h. bind_first _ _ c.bind_of.ensures e h
