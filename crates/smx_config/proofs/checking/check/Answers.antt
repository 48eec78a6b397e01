use Rattle.std.proofs.Common.{Err, inr, refl}
use Rattle.smx_config.specs.declared.fault.ConfigFault.TheVariants.{NoMemory}
use Rattle.smx_config.proofs.checking.check.Goals as goal

pub returns-in-Ok-reject-clause-ok : goal.returns-in-Ok-reject-clause-ok
returns-in-Ok-reject-clause-ok g c = (Err NoMemory, inr refl, refl, c.in-Ok-reject.ensures.ok)

pub returns-in-Err-reject-clause-err : goal.returns-in-Err-reject-clause-err
returns-in-Err-reject-clause-err g c =
    let front = c.in-Err-reject.ensures.err in
    (Err NoMemory, front.0, front.1, inr refl, front.2, front.3)
