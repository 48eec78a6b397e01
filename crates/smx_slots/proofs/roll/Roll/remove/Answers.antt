use Rattle.std.proofs.Common.{sym, subst}
use Rattle.smx_slots.specs.Rolls.{Listing}
use Rattle.smx_slots.specs.Private.Sorted.{IsAt}
use Rattle.smx_slots.proofs.Pairs.{slot_removed, none_kept}
use Rattle.smx_slots.proofs.roll.Roll.remove.Goals as goal

pub returns-in-Err-clause-removed : goal.returns-in-Err-clause-removed
returns-in-Err-clause-removed c = none_kept _ _ _ c.in-Err.ensures.absent

pub returns-clause-removed : goal.returns-clause-removed
returns-clause-removed c =
    let found : IsAt c.self.inside.rows.items c.args.client c.in-Ok.at = subst (λ (l : Listing). IsAt l.rows c.args.client c.in-Ok.at) (sym c.self.view_is) c.in-Ok.ensures.found in
    rw (c.remove.ensures.items, ← c.self.view_is) (slot_removed _ c.self.invariant.rising _ _ found)
