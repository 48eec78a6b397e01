use Rattle.std.proofs.Common.{◌≡◌, ◌∙◌, ap, arith, length, replicate, None}
use Rattle.smx_lane.proofs.Keys.{all_empty}
use Rattle.smx_lane.proofs.rows.Rows.new.Goals as goal

pub returns : goal.returns
returns c =
    let count : length c.loop.keys.items ≡ c.args.places = omega arith in
    all_empty c.loop.slab c.loop.keys.items c.loop.invariant.5 ∙ ap (λ n. replicate n None) count
