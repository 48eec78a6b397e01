use Rattle.std.proofs.Common.{◌+◌, length, refl, arith}
use Rattle.smx_shared.specs.Views.{DoorView}
use Rattle.smx_shared.proofs.Entering.{made_mine, made_members, stops_locks, refused_entry}
use Rattle.smx_shared.proofs.door.Door.enter.Goals as goal
use Rattle.smx_shared.proofs.door.Door.enter.Goals.{in-Ok-admit_all, in-Err}

pub new-requires-clause-admitted : goal.new-requires-clause-admitted
new-requires-clause-admitted g c k f at =
    made_mine (length c.self.inside.seats.items) c.self.inside.next c.self.inside.seats.items c.admit_all.new.seats.items c.admit_all.new.made.items c.in-Ok-admit_all.ensures.ok (omega arith) k f at

pub retire_all-requires-clause-own : goal.retire_all-requires-clause-own
retire_all-requires-clause-own g c k f at =
    let stops = c.in-Err.ensures.err in
    made_members (length c.admit_all.new.made.items) c.self.inside.next c.self.inside.seats.items stops.0 c.admit_all.new.made.items stops.2 (omega (arith, stops.1)) k f at

pub returns-clause-err : goal.returns-clause-err
returns-clause-err g c =
    let v : DoorView = (record { next = c.self.inside.next; ordinal = c.self.inside.ordinal; fronts = c.self.inside.seats.items }) in
    let w : DoorView = (record { next = c.self.inside.next + 1; ordinal = c.self.inside.ordinal; fronts = c.admit_all.new.seats.items }) in
    elim c.match-admit_all.branch [
      | in-Ok-admit_all b ↦ rw b.result-is tt
      | in-Err b ↦ rw (b.result-is, ← c.self.view_is) (refused_entry v w b.in-Err.fault
          (record { client = c.self.inside.next; fronts = b.retire_all.new.seats.items; barred = b.in-Err.barred }) refl
          (length c.admit_all.new.made.items, c.admit_all.new.made.items, b.in-Err.ensures.err, b.retire_all.ensures.left))
    ]

pub returns-clause-locks : goal.returns-clause-locks
returns-clause-locks g c =
    elim c.match-admit_all.branch [
      | in-Ok-admit_all b ↦ rw (← c.self.view_is) b.in-Ok-admit_all.ensures.ok.locks
      | in-Err b ↦ rw (← c.self.view_is) (stops_locks (length c.admit_all.new.made.items) c.self.inside.next b.in-Err.fault c.self.inside.seats.items c.admit_all.new.seats.items c.admit_all.new.made.items b.in-Err.barred b.in-Err.ensures.err)
    ]
