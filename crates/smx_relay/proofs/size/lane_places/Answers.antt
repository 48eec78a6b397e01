use Rattle.std.proofs.Common.{◌+◌, ◌*◌, ◌^◌, refl, arith}
use Rattle.std.proofs.lemmas.Nat.{mul-le}
use Rattle.smx_relay.proofs.Sizing.{min_le}
use Rattle.smx_relay.proofs.size.lane_places.Goals as goal

pub returns-clause-value : goal.returns-clause-value
returns-clause-value c = rw c.min-clients.ensures refl

pub returns-clause-small : goal.returns-clause-small
returns-clause-small c =
    let least = c.min-clients.ensures in
    let le = min_le c.args.clients c.args.limits.history in
    omega (arith, mul-le c.min-clients.result (c.args.limits.client + 4) (2 ^ 32) (2 ^ 32 + 4) (omega (arith, least, le)) (omega arith))
