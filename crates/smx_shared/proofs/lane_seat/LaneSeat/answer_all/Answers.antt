use Rattle.std.proofs.Common.{subst, ap}
use Rattle.smx_shared.specs.Batches.{BringsAll}
use Rattle.smx_shared.proofs.ListServing.{brought_may, brought_serves}
use Rattle.smx_shared.proofs.lane_seat.LaneSeat.answer_all.Goals.{in-Ok, in-Err}
use Rattle.smx_shared.proofs.lane_seat.LaneSeat.answer_all.Goals as goal

pub hold-requires-clause-leaves : goal.hold-requires-clause-leaves
hold-requires-clause-leaves g c h answer w found did = brought_may h w c.args.responses.items answer.settled.items did found.fixed found.agrees

pub returns-clause-served : goal.returns-clause-served
returns-clause-served g c =
    let new = c.hold.new.self in
    subst (λ f. BringsAll f new c.args.responses.items c.match-hold.result) c.self.view_is
    (elim c.match-hold.branch [
      | in-Ok w ↦ rw w.result-is (brought_serves c.self.inside.seat new c.args.responses.items w.in-Ok.field-0.settled w.in-Ok.ensures.done)
      | in-Err w ↦ rw w.result-is (ap (λ s. s.responses.items) w.in-Err.ensures.back, w.in-Err.ensures.spent)
    ])
