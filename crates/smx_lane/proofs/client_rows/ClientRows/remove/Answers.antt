use Rattle.std.proofs.Common.{sym, ◌∙◌, ap, is_some}
use Rattle.smx_lane.proofs.ClientPlaces.{placed, looked-up, KeepsClientRows-removed, rows-removed}
use Rattle.smx_lane.proofs.client_rows.ClientRows.remove.Goals as goal

pub remove-requires-2 : goal.remove-requires-2
remove-requires-2 c =
    let found = sym c.remove.ensures.value ∙ c.unwrap-at.ensures in
    let row = placed c.args.self.now c.args.client c.unwrap-at.result c.requires.keeps found in
    ap is_some row.1

pub returns-clause-keeps : goal.returns-clause-keeps
returns-clause-keeps c =
    let found = sym c.remove.ensures.value ∙ c.unwrap-at.ensures in
    KeepsClientRows-removed c.args.self.now _ c.args.client c.unwrap-at.result c.requires.keeps found c.remove.ensures.entries c.remove-2.ensures.updates

pub returns-clause-row : goal.returns-clause-row
returns-clause-row c =
    let found = sym c.remove.ensures.value ∙ c.unwrap-at.ensures in
    looked-up c.args.self.now c.args.client c.unwrap-at.result c.remove-2.result c.requires.keeps found c.remove-2.ensures.value

pub returns-clause-rows : goal.returns-clause-rows
returns-clause-rows c =
    let found = sym c.remove.ensures.value ∙ c.unwrap-at.ensures in
    rows-removed c.args.self.now c.remove-2.new.self c.remove.new.self.entries c.args.client c.unwrap-at.result c.requires.keeps found c.remove.ensures.entries c.remove-2.ensures.updates
