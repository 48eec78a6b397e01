use Rattle.smx_shared.specs.Batches.{TakesAll}
use Rattle.smx_shared.proofs.ListServing.{all_known}
use Rattle.smx_shared.proofs.tap.Tap.take_all.Goals as goal
use Rattle.smx_shared.proofs.tap.Tap.take_all.Goals.{in-Ok, in-Err}

pub returns-clause-known : goal.returns-clause-known
returns-clause-known g c =
    let f = c.self.inside.seat in
    let h = c.take_all.new.self in
    let served : TakesAll f h c.args.now c.match-take_all.result = elim c.match-take_all.branch [
      | in-Ok w ↦ rw w.result-is w.in-Ok.ensures.served
      | in-Err w ↦ rw w.result-is w.in-Err.ensures.served
    ] in
    rw (← c.self.view_is) (all_known f h c.args.now c.match-take_all.result served)
