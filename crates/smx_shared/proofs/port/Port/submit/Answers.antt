use Rattle.std.proofs.Common.{sym, refl, ◌∙◌, ap, subst, arith, ◌∷◌, [], ◌-◌, ◌%◌}
use Rattle.smx_shared.specs.Views.{PortView}
use Rattle.smx_shared.specs.Submits.{request_of, AcceptsOn, StopsOn, start_of}
use Rattle.smx_shared.specs.Ports.{IsMemberBy}
use Rattle.smx_shared.specs.Steps.{IsBelow, offer_of}
use Rattle.smx_shared.proofs.PortInvariants.{port_below, port_grows, port_quiet, accepted_more, accepted_none, accepted_quiet}
use Rattle.smx_shared.proofs.Submitting.{accepts_grows, accepts_locks, refuses, stops_grows, stops_locks}
use Rattle.smx_shared.proofs.port.Port.submit.Goals as goal

pub try_ring-requires-clause-own : goal.try_ring-requires-clause-own
try_ring-requires-clause-own g c k f at =
    let v : PortView = (record { client = c.self.inside.client; first = c.self.inside.first; next = c.self.inside.next; fronts = c.self.inside.seats.items }) in
    subst (λ r. IsMemberBy r.client f × IsBelow r.ordinal f) (sym c.named-request.ensures) (c.self.invariant.member k f at, port_below v k f c.self.invariant at)

pub invariant_of-self : goal.invariant_of-self
invariant_of-self g c =
    let v : PortView = (record { client = c.self.inside.client; first = c.self.inside.first; next = c.self.inside.next; fronts = c.self.inside.seats.items }) in
    let new = c.try_ring.new.seats.items in
    let ok = subst (λ r. AcceptsOn ((c.self.inside.next - 1) % c.len.result) r v.fronts new c.in-Ok.lane) c.named-request.ensures c.in-Ok.ensures.ok in
    port_grows v (record { lane = c.in-Ok.lane; offer = c.args.offer } ∷ []) new c.self.invariant (accepts_grows ((c.self.inside.next - 1) % c.len.result) v.client v.next c.args.offer v.fronts new c.in-Ok.lane ok) (omega (arith, c.if-self-gt-MOST.false))

pub invariant_of-self-in-Err : goal.invariant_of-self-in-Err
invariant_of-self-in-Err g c =
    let v : PortView = (record { client = c.self.inside.client; first = c.self.inside.first; next = c.self.inside.next; fronts = c.self.inside.seats.items }) in
    port_quiet v c.try_ring.new.seats.items c.self.invariant (stops_grows v.client v.next ((c.self.inside.next - 1) % c.len.result) c.named-request.result v.fronts c.try_ring.new.seats.items c.in-Err.fault c.in-Err.ensures.err.1)

pub returns-in-Ok-clause-ok : goal.returns-in-Ok-clause-ok
returns-in-Ok-clause-ok g c =
    let v : PortView = (record { client = c.self.inside.client; first = c.self.inside.first; next = c.self.inside.next; fronts = c.self.inside.seats.items }) in
    let new = c.try_ring.new.seats.items in
    let ok = subst (λ r. AcceptsOn ((c.self.inside.next - 1) % c.len.result) r v.fronts new c.in-Ok.lane) c.named-request.ensures c.in-Ok.ensures.ok in
    let ok' : AcceptsOn (start_of v) (request_of v c.args.offer) v.fronts new c.in-Ok.lane =
    subst (λ n. AcceptsOn ((c.self.inside.next - 1) % n) (request_of v c.args.offer) v.fronts new c.in-Ok.lane) (c.len.ensures ∙ c.self.inside.seats.ok.0) ok in
    rw (← c.self.view_is) (ok', refl)

pub returns-in-Err-clause-err : goal.returns-in-Err-clause-err
returns-in-Err-clause-err g c =
    let v : PortView = (record { client = c.self.inside.client; first = c.self.inside.first; next = c.self.inside.next; fronts = c.self.inside.seats.items }) in
    let new = c.try_ring.new.seats.items in
    let err = subst (λ r. StopsOn ((c.self.inside.next - 1) % c.len.result) r v.fronts new c.in-Err.fault) c.named-request.ensures c.in-Err.ensures.err.1 in
    let err' : StopsOn (start_of v) (request_of v c.args.offer) v.fronts new c.in-Err.fault =
    subst (λ n. StopsOn ((c.self.inside.next - 1) % n) (request_of v c.args.offer) v.fronts new c.in-Err.fault) (c.len.ensures ∙ c.self.inside.seats.ok.0) err in
    rw (← c.self.view_is) (c.unnamed.ensures ∙ ap offer_of (c.in-Err.ensures.err.0 ∙ c.named-request.ensures), refuses v c.args.offer new c.in-Err.fault err')

pub returns-in-Ok-clause-listed : goal.returns-in-Ok-clause-listed
returns-in-Ok-clause-listed g c =
    let v : PortView = (record { client = c.self.inside.client; first = c.self.inside.first; next = c.self.inside.next; fronts = c.self.inside.seats.items }) in
    let new = c.try_ring.new.seats.items in
    let ok = subst (λ r. AcceptsOn ((c.self.inside.next - 1) % c.len.result) r v.fronts new c.in-Ok.lane) c.named-request.ensures c.in-Ok.ensures.ok in
    rw (← c.self.view_is) (λ all has. accepted_more v (record { lane = c.in-Ok.lane; offer = c.args.offer } ∷ []) all new has (accepts_grows ((c.self.inside.next - 1) % c.len.result) v.client v.next c.args.offer v.fronts new c.in-Ok.lane ok))

pub returns-in-Err-clause-listed : goal.returns-in-Err-clause-listed
returns-in-Err-clause-listed g c =
    let v : PortView = (record { client = c.self.inside.client; first = c.self.inside.first; next = c.self.inside.next; fronts = c.self.inside.seats.items }) in
    rw (← c.self.view_is) (λ all has. accepted_none (record { client = v.client; first = v.first; next = v.next; fronts = c.try_ring.new.seats.items }) all
    (accepted_quiet v all c.try_ring.new.seats.items has (stops_grows v.client v.next ((c.self.inside.next - 1) % c.len.result) c.named-request.result v.fronts c.try_ring.new.seats.items c.in-Err.fault c.in-Err.ensures.err.1)))

pub returns-in-Ok-clause-locks : goal.returns-in-Ok-clause-locks
returns-in-Ok-clause-locks g c =
    rw (← c.self.view_is) (accepts_locks ((c.self.inside.next - 1) % c.len.result) c.named-request.result c.self.inside.seats.items c.try_ring.new.seats.items c.in-Ok.lane c.in-Ok.ensures.ok)

pub returns-in-Err-clause-locks : goal.returns-in-Err-clause-locks
returns-in-Err-clause-locks g c =
    rw (← c.self.view_is) (stops_locks ((c.self.inside.next - 1) % c.len.result) c.named-request.result c.self.inside.seats.items c.try_ring.new.seats.items c.in-Err.fault c.in-Err.ensures.err.1)
