use Rattle.std.proofs.Common.{arith, ◌≡◌, ◌≤◌, length}
use Rattle.std.proofs.lemmas.Bool.Decides.{nat_tests}
use Rattle.smx_link.proofs.Octets.{none_left, all_dropped}
use Rattle.smx_link.proofs.wire.Wire.is_clear.Goals as goal

pub returns : goal.returns
returns g c =
    let i = c.self.inside in
    let count : c.len.result ≡ length i.waiting.items = omega (arith, i.waiting.ok.0, c.len.ensures) in
    let within : i.sent ≤ length i.waiting.items = omega (arith, i.waiting.ok.0, c.self.invariant.0.0) in
    rw (← c.self.view_is) (λ t. none_left i.sent i.waiting.items (grind (arith, nat_tests)), λ e. let s = all_dropped i.sent i.waiting.items within e in grind (arith, nat_tests))
