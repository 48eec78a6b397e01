use Rattle.std.proofs.Common.{refl, length, ◌<◌}
use Rattle.std.proofs.lemmas.Option.{slice_get_read}
use Rattle.smx_shared.specs.Views.{PortView}
use Rattle.smx_shared.specs.Serving.{Waited}
use Rattle.smx_shared.specs.Batches.{CollectsServe}
use Rattle.smx_shared.proofs.OwnNotes.{own_rows_by}
use Rattle.smx_shared.proofs.PortInvariants.{collects_grow, port_quiet, accepted_quiet, on_locks}
use Rattle.smx_shared.proofs.port.Port.collect_all.Goals as goal
use Rattle.smx_shared.proofs.port.Port.collect_all.Goals.{in-Ok, in-Err}

pub collect_all-requires-clause-may : goal.collect_all-requires-clause-may
collect_all-requires-clause-may g c h found =
    let within : c.args.lane < length c.self.inside.seats.items = rw (← c.self.view_is) at (c.requires.lane) in
    let at = slice_get_read c.self.inside.seats.items (length c.self.inside.seats.items) c.args.lane c.index_mut.result.now refl within c.index_mut.ensures.value in
    own_rows_by c.index_mut.result.now h c.self.inside.client found (c.self.invariant.member c.args.lane c.index_mut.result.now at)

pub invariant_of-self : goal.invariant_of-self
invariant_of-self g c =
    let v : PortView = (record { client = c.self.inside.client; first = c.self.inside.first; next = c.self.inside.next; fronts = c.self.inside.seats.items }) in
    let within : c.args.lane < length c.self.inside.seats.items = rw (← c.self.view_is) at (c.requires.lane) in
    let at = slice_get_read c.self.inside.seats.items (length c.self.inside.seats.items) c.args.lane c.index_mut.result.now refl within c.index_mut.ensures.value in
    let f = c.index_mut.result.now in
    let h = c.collect_all.new.self in
    let served : Waited (CollectsServe f h c.self.inside.client) f h c.match-collect_all.result = elim c.match-collect_all.branch [
      | in-Ok w ↦ rw w.result-is w.in-Ok.ensures.served
      | in-Err w ↦ rw w.result-is w.in-Err.ensures.served
    ] in
    port_quiet v _ c.self.invariant (collects_grow v.client v.next c.args.lane v.fronts _ f h c.match-collect_all.result at refl served)

pub returns-clause-served : goal.returns-clause-served
returns-clause-served g c =
    let within : c.args.lane < length c.self.inside.seats.items = rw (← c.self.view_is) at (c.requires.lane) in
    let at = slice_get_read c.self.inside.seats.items (length c.self.inside.seats.items) c.args.lane c.index_mut.result.now refl within c.index_mut.ensures.value in
    let f = c.index_mut.result.now in
    let h = c.collect_all.new.self in
    let served : Waited (CollectsServe f h c.self.inside.client) f h c.match-collect_all.result = elim c.match-collect_all.branch [
      | in-Ok w ↦ rw w.result-is w.in-Ok.ensures.served
      | in-Err w ↦ rw w.result-is w.in-Err.ensures.served
    ] in
    rw (← c.self.view_is) (f, h, at, refl, c.collect_all.ensures.lock, served)

pub returns-clause-listed : goal.returns-clause-listed
returns-clause-listed g c =
    let v : PortView = (record { client = c.self.inside.client; first = c.self.inside.first; next = c.self.inside.next; fronts = c.self.inside.seats.items }) in
    let within : c.args.lane < length c.self.inside.seats.items = rw (← c.self.view_is) at (c.requires.lane) in
    let at = slice_get_read c.self.inside.seats.items (length c.self.inside.seats.items) c.args.lane c.index_mut.result.now refl within c.index_mut.ensures.value in
    let f = c.index_mut.result.now in
    let h = c.collect_all.new.self in
    let served : Waited (CollectsServe f h c.self.inside.client) f h c.match-collect_all.result = elim c.match-collect_all.branch [
      | in-Ok w ↦ rw w.result-is w.in-Ok.ensures.served
      | in-Err w ↦ rw w.result-is w.in-Err.ensures.served
    ] in
    rw (← c.self.view_is) (λ all has. accepted_quiet v all _ has (collects_grow v.client v.next c.args.lane v.fronts _ f h c.match-collect_all.result at refl served))

pub returns-clause-locks : goal.returns-clause-locks
returns-clause-locks g c =
    let within : c.args.lane < length c.self.inside.seats.items = rw (← c.self.view_is) at (c.requires.lane) in
    let at = slice_get_read c.self.inside.seats.items (length c.self.inside.seats.items) c.args.lane c.index_mut.result.now refl within c.index_mut.ensures.value in
    rw (← c.self.view_is) (on_locks c.args.lane c.self.inside.seats.items _ c.index_mut.result.now c.collect_all.new.self at refl c.collect_all.ensures.lock)
