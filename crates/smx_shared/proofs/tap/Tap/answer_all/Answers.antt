use Rattle.smx_shared.specs.Batches.{BringsAll}
use Rattle.smx_shared.proofs.ListServing.{all_answers_known}
use Rattle.smx_shared.proofs.tap.Tap.answer_all.Goals as goal
use Rattle.smx_shared.proofs.tap.Tap.answer_all.Goals.{in-Ok, in-Err}

pub returns-clause-known : goal.returns-clause-known
returns-clause-known g c =
    let f = c.self.inside.seat in
    let h = c.answer_all.new.self in
    let served : BringsAll f h c.args.responses.items c.match-answer_all.result = elim c.match-answer_all.branch [
      | in-Ok w ↦ rw w.result-is w.in-Ok.ensures.served
      | in-Err w ↦ rw w.result-is w.in-Err.ensures.served
    ] in
    rw (← c.self.view_is) (all_answers_known f h c.args.responses.items c.match-answer_all.result served)
