use Rattle.std.proofs.Common.{◌≡◌, ◌+◌, ◌*◌, ◌^◌, length, refl, sym, ◌∙◌, arith}
use Rattle.std.proofs.lemmas.Nat.{mul-le}
use Rattle.smx_lines.specs.Lanes.{IsLane, lasts}
use Rattle.smx_lines.proofs.Lanes.{zip-length}
use Rattle.smx_relay.proofs.size.places.Goals as goal

pub overflow_mul-result : goal.overflow_mul-result
overflow_mul-result c = omega (arith, mul-le c.len.result c.lane_places.result (2 ^ 63) (2 ^ 64 + 2 ^ 35) (omega arith) (omega arith))

pub overflow_mul-result-2 : goal.overflow_mul-result-2
overflow_mul-result-2 c = omega (arith, mul-le c.len-clients.result c.client_places.result (2 ^ 63) (2 ^ 34) (omega arith) (omega arith))

pub overflow_add-result : goal.overflow_add-result
overflow_add-result c =
    let lanes = mul-le c.len.result c.lane_places.result (2 ^ 63) (2 ^ 64 + 2 ^ 35) (omega arith) (omega arith) in
    let clients = mul-le c.len-clients.result c.client_places.result (2 ^ 63) (2 ^ 34) (omega arith) (omega arith) in
    omega (arith, lanes, clients)

pub returns : goal.returns
returns c = λ s stands.
    let state = c.args.state.now in
    let lanes = zip-length (IsLane s.limits (lasts s.clients)) s.lanes state.lanes.items stands.lanes in
    rw (c.lane_places.ensures.value, c.client_places.ensures.value, lanes, ← stands.limits, ← stands.clients, ← stands.routes.places_are, c.len.ensures, c.len-clients.ensures, state.lanes.ok.0, state.clients.list.ok.0) refl
