use Rattle.std.proofs.Common.{subst}
use Rattle.smx_lock.specs.Fronts.{Refused}
use Rattle.smx_shared.specs.Serving.{TriesTake, TakeServes}
use Rattle.smx_shared.proofs.Knowing.{tries_known}
use Rattle.smx_shared.proofs.tap.Tap.try_take.Goals as goal
use Rattle.smx_shared.proofs.tap.Tap.try_take.Goals.{in-Ok-Ok, in-Ok-Err, in-Err-default-Spent, in-Err-default-Busy}

pub returns-clause-known : goal.returns-clause-known
returns-clause-known c =
    let f = c.self.inside.seat in
    let h = c.try_hold.new.self in
    let served : TriesTake f h c.args.now c.match-try_hold.result = elim c.match-try_hold.branch [
      | in-Ok-Ok w ↦ rw w.result-is (subst (TakeServes f h c.args.now) w.in-Ok-Ok.field-0-is w.in-Ok-Ok.ensures.served)
      | in-Ok-Err w ↦ rw w.result-is (subst (TakeServes f h c.args.now) w.in-Ok-Err.field-0-is w.in-Ok-Err.ensures.served)
      | in-Err-default-Spent w ↦ rw w.result-is (subst (Refused f h) w.in-Err-default-Spent.field-0-1-is w.in-Err-default-Spent.ensures.served.1)
      | in-Err-default-Busy w ↦ rw w.result-is (subst (Refused f h) w.in-Err-default-Busy.field-0-1-is w.in-Err-default-Busy.ensures.served.1)
    ] in
    rw (← c.self.view_is) (tries_known f h c.args.now c.match-try_hold.result served)
