use Rattle.std.proofs.Common.{◌≡◌}
use Rattle.smx_frame.specs.declared.fault.FrameFault.TheVariants.{Below16, AboveMax, NoMemory}
use Rattle.smx_lines.proofs.Receiving.{receiving_fault, receiving_smaller, fault_by}
use Rattle.smx_lines.proofs.receive.receive.Goals as goal

pub loop-pdu-smaller : goal.loop-pdu-smaller
loop-pdu-smaller c = receiving_smaller _ _ _ _ c.in-Ok-Some.field-0 c.in-Ok-Some.pdu c.in-Ok-Some.field-0-is c.in-Ok-Some.ensures.some

pub returns-in-Err-Below16 : goal.returns-in-Err-Below16
returns-in-Err-Below16 c =
    let fault = fault_by _ _ c.in-Err-Below16.field-0 Below16 c.in-Err-Below16.ensures.only c.in-Err-Below16.field-0-is (λ e. let x : Below16 ≡ NoMemory = e in cc) in
    receiving_fault _ _ _ c.args.octets.now c.loop-pdu.pdus.items Below16 c.loop-pdu.invariant fault (c.in-Err-Below16.ensures.faults Below16 fault).1

pub returns-in-Err-AboveMax : goal.returns-in-Err-AboveMax
returns-in-Err-AboveMax c =
    let fault = fault_by _ _ c.in-Err-AboveMax.field-0 AboveMax c.in-Err-AboveMax.ensures.only c.in-Err-AboveMax.field-0-is (λ e. let x : AboveMax ≡ NoMemory = e in cc) in
    receiving_fault _ _ _ c.args.octets.now c.loop-pdu.pdus.items AboveMax c.loop-pdu.invariant fault (c.in-Err-AboveMax.ensures.faults AboveMax fault).1
