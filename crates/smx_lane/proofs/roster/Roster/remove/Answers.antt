use Rattle.std.proofs.Common.{refl, arith}
use Rattle.smx_lane.specs.Private.ClientRows.{rows_of}
use Rattle.smx_lane.proofs.ClientRows.{has_place, row_waits, KeepsRows-removed, removed_row}
use Rattle.smx_lane.proofs.roster.Roster.remove.Goals as goal

pub overflow_sub-self : goal.overflow_sub-self
overflow_sub-self c =
    omega (arith, row_waits c.args.client (rows_of c.self.inside.table) c.remove-row.result c.remove-row.ensures.row, c.self.invariant.waiting, c.len.ensures.len)

pub invariant_of-self : goal.invariant_of-self
invariant_of-self c =
    let found = c.remove-row.ensures.row in
    let some = row_waits c.args.client (rows_of c.self.inside.table) c.remove-row.result found in
    KeepsRows-removed c.self.inside _ c.args.client c.remove-row.result c.self.invariant c.remove-row.ensures.keeps found refl c.remove-row.ensures.rows (omega (arith, some, c.self.invariant.waiting, c.len.ensures.len))

pub returns : goal.returns
returns c = rw (← c.self.view_is, c.remove-row.ensures.rows, removed_row c.args.client 0 (rows_of c.self.inside.table) c.self.invariant.clients) refl

pub remove-row-requires-clause-there : goal.remove-row-requires-clause-there
remove-row-requires-clause-there c = has_place c.self.inside c.args.client c.self.invariant (rw (← c.self.view_is) at c.requires)
