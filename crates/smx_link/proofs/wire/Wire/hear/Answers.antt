use Rattle.std.proofs.Common.{arith, length, length-append, ap}
use Rattle.smx_pdu.specs.Pdu.{spelling}
use Rattle.smx_pdu.proofs.Spelling.{length-spelling}
use Rattle.smx_link.proofs.wire.Wire.hear.Goals as goal

pub returns-in-Ok-Some-clause-less : goal.returns-in-Ok-Some-clause-less
returns-in-Ok-Some-clause-less g c =
    let t = rw c.in-Ok-Some.field-0-is at c.in-Ok-Some.ensures.some in
    let e = t.0.1 in
    rw (← c.self.view_is) (omega (arith, ap length e, length-append (spelling c.in-Ok-Some.pdu) c.next_pdu.new.self.stream.rest, length-spelling c.in-Ok-Some.pdu))
