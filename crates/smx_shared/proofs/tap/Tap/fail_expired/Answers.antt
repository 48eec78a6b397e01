use Rattle.std.proofs.Common.{subst}
use Rattle.smx_shared.specs.Serving.{Expires, ExpiryServes}
use Rattle.smx_shared.proofs.Knowing.{expiry_known}
use Rattle.smx_shared.proofs.tap.Tap.fail_expired.Goals as goal
use Rattle.smx_shared.proofs.tap.Tap.fail_expired.Goals.{in-Ok-Ok, in-Ok-Err, in-Err}

pub returns-clause-known : goal.returns-clause-known
returns-clause-known g c =
    let f = c.self.inside.seat in
    let h = c.hold.new.self in
    let served : Expires f h c.args.now c.args.age c.match-hold.result = elim c.match-hold.branch [
      | in-Ok-Ok w ↦ rw w.result-is (subst (ExpiryServes f h c.args.now c.args.age) w.in-Ok-Ok.field-0-is w.in-Ok-Ok.ensures.served)
      | in-Ok-Err w ↦ rw w.result-is (subst (ExpiryServes f h c.args.now c.args.age) w.in-Ok-Err.field-0-is w.in-Ok-Err.ensures.served)
      | in-Err w ↦ rw w.result-is w.in-Err.ensures.served.1
    ] in
    rw (← c.self.view_is) (expiry_known f h c.args.now c.args.age c.match-hold.result served)
