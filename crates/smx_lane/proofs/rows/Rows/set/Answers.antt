use Rattle.std.proofs.Common.{◌≡◌, ◌<◌, ◌∙◌, ap, arith, length, map, set}
use Rattle.std.specs.Prelude.{slice_index}
use Rattle.std.proofs.lemmas.List.{length-map}
use Rattle.std.proofs.lemmas.Grind.{get_or_default_zero}
use Rattle.slab.specs.Slab.{with_value}
use Rattle.smx_lane.specs.Private.Rows.{row_under}
use Rattle.smx_lane.proofs.Keys.{written}
use Rattle.smx_lane.proofs.rows.Rows.set.Goals as goal

pub returns : goal.returns
returns c =
    let slab = c.self.inside.slab in
    let keys = c.self.inside.keys.items in
    let within : c.args.at < length keys = omega (arith, rw (← c.self.view_is) at c.requires, length-map keys (row_under slab)) in
    let key : c.index.result.now ≡ slice_index keys c.args.at = c.index.ensures ∙ get_or_default_zero keys c.args.at c.index.result.now within in
    ap (λ k. map (row_under (with_value slab k c.args.row)) keys) key
    ∙ written slab keys c.args.at c.args.row within c.self.invariant.distinct c.self.invariant.present
    ∙ ap (λ rows. set rows c.args.at c.args.row) c.self.view_is
