use Rattle.std.proofs.Common.{subst}
use Rattle.smx_lane.specs.declared.call.Call.TheVariants as call
use Rattle.smx_lane.specs.declared.call.Reply.TheVariants as reply
use Rattle.smx_shared.specs.Serving.{CallServes, Turns}
use Rattle.smx_shared.proofs.Knowing.{turn_known, turns_of, stays_of}
use Rattle.smx_shared.proofs.tap.Tap.turn_over.Goals as goal
use Rattle.smx_shared.proofs.tap.Tap.turn_over.Goals.{in-Ok-Ok, in-Ok-Err, in-Err}

pub returns-clause-served : goal.returns-clause-served
returns-clause-served g c =
    let f = c.self.inside.seat in
    let h = c.hold.new.self in
    rw (← c.self.view_is) (elim c.match-hold.branch [
      | in-Ok-Ok w ↦ rw w.result-is (turns_of f h c.args.least _ (subst (λ r. CallServes f h (call.TurnOver f.number c.args.least) (reply.TurnedOver r)) w.in-Ok-Ok.field-0-is w.in-Ok-Ok.ensures.served))
      | in-Ok-Err w ↦ rw w.result-is (stays_of f h c.args.least _ (subst (λ r. CallServes f h (call.TurnOver f.number c.args.least) (reply.TurnedOver r)) w.in-Ok-Err.field-0-is w.in-Ok-Err.ensures.served))
      | in-Err w ↦ rw w.result-is w.in-Err.ensures.served.1
    ])

pub returns-clause-known : goal.returns-clause-known
returns-clause-known g c =
    let f = c.self.inside.seat in
    let h = c.hold.new.self in
    let served : Turns (λ es. es.items) f h c.args.least c.match-hold.result = elim c.match-hold.branch [
      | in-Ok-Ok w ↦ rw w.result-is (turns_of f h c.args.least _ (subst (λ r. CallServes f h (call.TurnOver f.number c.args.least) (reply.TurnedOver r)) w.in-Ok-Ok.field-0-is w.in-Ok-Ok.ensures.served))
      | in-Ok-Err w ↦ rw w.result-is (stays_of f h c.args.least _ (subst (λ r. CallServes f h (call.TurnOver f.number c.args.least) (reply.TurnedOver r)) w.in-Ok-Err.field-0-is w.in-Ok-Err.ensures.served))
      | in-Err w ↦ rw w.result-is w.in-Err.ensures.served.1
    ] in
    rw (← c.self.view_is) (turn_known f h c.args.least c.match-hold.result served)
