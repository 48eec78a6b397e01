use Rattle.std.proofs.Common.{refl, length, ◌<◌}
use Rattle.std.proofs.lemmas.Option.{slice_get_read}
use Rattle.smx_shared.proofs.PortInvariants.{on_locks}
use Rattle.smx_shared.proofs.door.Door.load.Goals as goal

pub returns-clause-served : goal.returns-clause-served
returns-clause-served g c =
    let within : c.args.lane < length c.self.inside.seats.items = rw (← c.self.view_is) at (c.requires.lane) in
    let at = slice_get_read c.self.inside.seats.items (length c.self.inside.seats.items) c.args.lane c.index_mut.result.now refl within c.index_mut.ensures.value in
    rw (← c.self.view_is) (c.index_mut.result.now, c.load.new.self, at, refl, c.load.ensures.lock, c.load.ensures.served)

pub returns-clause-locks : goal.returns-clause-locks
returns-clause-locks g c =
    let within : c.args.lane < length c.self.inside.seats.items = rw (← c.self.view_is) at (c.requires.lane) in
    let at = slice_get_read c.self.inside.seats.items (length c.self.inside.seats.items) c.args.lane c.index_mut.result.now refl within c.index_mut.ensures.value in
    rw (← c.self.view_is) (on_locks c.args.lane c.self.inside.seats.items _ c.index_mut.result.now c.load.new.self at refl c.load.ensures.lock)
