use Rattle.crossbeam_queue.specs.Passes.{view}
use Rattle.smx_box.proofs.BoxRules.{learns}
use Rattle.smx_box.proofs.end.End.count.Goals as goal

pub len_as-requires-clause-rule : goal.len_as-requires-clause-rule
len_as-requires-clause-rule g c = learns _ (view c.self.inside.pass) c.self.invariant.1.0
