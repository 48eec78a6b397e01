use Rattle.smx_pdu.proofs.BodyLaws.{destination_found, destination_only, destination_fault, destination_first}
use Rattle.smx_pdu.proofs.destination.read_destination.Goals as goal

pub returns-clause-found : goal.returns-clause-found
returns-clause-found c = destination_found _ _ c.destination_of.ensures

pub returns-clause-only : goal.returns-clause-only
returns-clause-only c = λ said h. destination_only _ _ c.destination_of.ensures said h

pub returns-clause-fault : goal.returns-clause-fault
returns-clause-fault c = destination_fault _ _ c.destination_of.ensures

pub returns-clause-first : goal.returns-clause-first
returns-clause-first c = λ e h. destination_first _ _ c.destination_of.ensures e h
