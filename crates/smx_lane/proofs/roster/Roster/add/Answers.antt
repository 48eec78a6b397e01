use Rattle.smx_lane.proofs.ClientPlaces.{KeepsClientRows-same, rows-same}
use Rattle.smx_lane.proofs.ClientRows.{keys-rise}
use Rattle.smx_lane.proofs.roster.Roster.add.Goals as goal

pub push-requires-clause-above : goal.push-requires-clause-above
push-requires-clause-above c = keys-rise c.self.inside c.args.by c.args.client c.self.invariant (rw (← c.self.view_is) at c.requires)

pub invariant_of-self : goal.invariant_of-self
invariant_of-self c =
    let old = c.self.inside.table in
    let new = c.push.new.self in
    let same = c.in_err-push.ensures.err in
    let rows = rows-same old new same in
    record {
      table = KeepsClientRows-same old new c.self.invariant.table same;
      boxes = rw rows c.self.invariant.boxes;
      clients = rw rows c.self.invariant.clients;
      waiting = rw rows c.self.invariant.waiting;
    }
