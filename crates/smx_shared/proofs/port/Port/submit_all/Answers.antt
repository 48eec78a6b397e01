use Rattle.std.proofs.Common.{◌+◌, ◌++◌, refl, sym, subst, length, set, arith}
use Rattle.std.proofs.lemmas.Option.{slice_get_read}
use Rattle.smx_shared.specs.Landings.{accepted_each}
use Rattle.smx_shared.specs.Ports.{HasAccepted, IsPort}
use Rattle.smx_shared.specs.Views.{PortView}
use Rattle.smx_shared.proofs.ListSubmitting.{list_grows, spent_grows}
use Rattle.smx_shared.proofs.OwnNotes.{present_for}
use Rattle.smx_shared.proofs.PortInvariants.{accepted_more, accepted_none, accepted_quiet, port_below, port_grows, port_quiet}
use Rattle.smx_shared.proofs.port.Port.submit_all.Goals as goal

pub submit_all-requires-clause-may : goal.submit_all-requires-clause-may
submit_all-requires-clause-may g c h found =
    let v : PortView = (record { client = c.self.inside.client; first = c.self.inside.first; next = c.self.inside.next; fronts = c.self.inside.seats.items }) in
    let f = c.index_mut.result.now in
    let at = slice_get_read v.fronts (length v.fronts) 0 f refl c.self.invariant.lanes.0 c.index_mut.ensures.value in
    present_for f h v.client v.next found (c.self.invariant.member 0 f at) (port_below v 0 f c.self.invariant at)

pub invariant_of-self : goal.invariant_of-self
invariant_of-self g c =
    let v : PortView = (record { client = c.self.inside.client; first = c.self.inside.first; next = c.self.inside.next; fronts = c.self.inside.seats.items }) in
    let f = c.index_mut.result.now in
    let at = slice_get_read v.fronts (length v.fronts) 0 f refl c.self.invariant.lanes.0 c.index_mut.ensures.value in
    let served = c.in-Ok.ensures.served in
    let grows = list_grows v.client v.next c.args.offers.items c.in-Ok.field-0.landings.items v.fronts _ f c.submit_all.new.self c.self.invariant.lanes.0 at refl served.0 in
    subst (λ n. IsPort (record { client = v.client; first = v.first; next = n; fronts = set v.fronts 0 c.submit_all.new.self })) (sym served.1)
    (port_grows v (accepted_each c.args.offers.items c.in-Ok.field-0.landings.items) _ c.self.invariant grows (omega (arith, served.1, served.2)))

pub invariant_of-self-in-Err : goal.invariant_of-self-in-Err
invariant_of-self-in-Err g c =
    let v : PortView = (record { client = c.self.inside.client; first = c.self.inside.first; next = c.self.inside.next; fronts = c.self.inside.seats.items }) in
    let f = c.index_mut.result.now in
    let at = slice_get_read v.fronts (length v.fronts) 0 f refl c.self.invariant.lanes.0 c.index_mut.ensures.value in
    let grows = spent_grows v.client v.next v.fronts _ f c.submit_all.new.self at refl c.in-Err.ensures.served.1 in
    port_quiet v _ c.self.invariant grows

pub returns-in-Ok-clause-listed : goal.returns-in-Ok-clause-listed
returns-in-Ok-clause-listed g c =
    let v : PortView = (record { client = c.self.inside.client; first = c.self.inside.first; next = c.self.inside.next; fronts = c.self.inside.seats.items }) in
    let f = c.index_mut.result.now in
    let at = slice_get_read v.fronts (length v.fronts) 0 f refl c.self.invariant.lanes.0 c.index_mut.ensures.value in
    let served = c.in-Ok.ensures.served in
    let grows = list_grows v.client v.next c.args.offers.items c.in-Ok.field-0.landings.items v.fronts _ f c.submit_all.new.self c.self.invariant.lanes.0 at refl served.0 in
    rw (← c.self.view_is) (λ all has. subst (λ n. HasAccepted (record { client = v.client; first = v.first; next = n; fronts = set v.fronts 0 c.submit_all.new.self }) (all ++ accepted_each c.args.offers.items c.in-Ok.field-0.landings.items)) (sym served.1)
    (accepted_more v (accepted_each c.args.offers.items c.in-Ok.field-0.landings.items) all _ has grows))

pub returns-in-Err-clause-listed : goal.returns-in-Err-clause-listed
returns-in-Err-clause-listed g c =
    let v : PortView = (record { client = c.self.inside.client; first = c.self.inside.first; next = c.self.inside.next; fronts = c.self.inside.seats.items }) in
    let f = c.index_mut.result.now in
    let at = slice_get_read v.fronts (length v.fronts) 0 f refl c.self.invariant.lanes.0 c.index_mut.ensures.value in
    let grows = spent_grows v.client v.next v.fronts _ f c.submit_all.new.self at refl c.in-Err.ensures.served.1 in
    rw (← c.self.view_is) (λ all has. accepted_none (record { client = v.client; first = v.first; next = v.next; fronts = _ }) all (accepted_quiet v all _ has grows))
