use Rattle.smx_lock_example.proofs.Adds.{may}
use Rattle.smx_lock_example.proofs.adder.Adder.add.Goals as goal

pub hold-requires-clause-leaves : goal.hold-requires-clause-leaves
hold-requires-clause-leaves g c h done w found did = may c.self.inside.seat h w c.args.amount done found did
