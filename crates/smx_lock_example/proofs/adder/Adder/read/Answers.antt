use Rattle.smx_lock_example.proofs.Adds.{may_stay}
use Rattle.smx_lock_example.proofs.adder.Adder.read.Goals as goal

pub hold-requires-clause-leaves : goal.hold-requires-clause-leaves
hold-requires-clause-leaves g c h count w found did = may_stay c.self.inside.seat h w found did.0
