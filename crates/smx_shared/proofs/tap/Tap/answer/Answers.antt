use Rattle.std.proofs.Common.{ap}
use Rattle.smx_shared.specs.Serving.{Brings}
use Rattle.smx_shared.proofs.Knowing.{answers_known}
use Rattle.smx_shared.proofs.tap.Tap.answer.Goals as goal
use Rattle.smx_shared.proofs.tap.Tap.answer.Goals.{in-Ok, in-Err}

pub returns-clause-known : goal.returns-clause-known
returns-clause-known g c =
    let f = c.self.inside.seat in
    let h = c.hold.new.self in
    let served : Brings f h c.args.response c.match-hold.result = elim c.match-hold.branch [
      | in-Ok w ↦ rw w.result-is w.in-Ok.ensures.served
      | in-Err w ↦ rw w.result-is (ap (λ m. m.response) w.in-Err.ensures.served.0, w.in-Err.ensures.served.1)
    ] in
    rw (← c.self.view_is) (answers_known f h c.args.response c.match-hold.result served)
