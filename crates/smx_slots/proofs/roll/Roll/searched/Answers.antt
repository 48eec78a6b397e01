use Rattle.std.proofs.Common.{sym, subst, arith}
use Rattle.std.proofs.lemmas.List.{get_or_default}
use Rattle.smx_slots.specs.Rolls.{Listing}
use Rattle.smx_slots.specs.Private.Sorted.{IsRising}
use Rattle.smx_slots.proofs.Pairs.{slot_at, no_slot}
use Rattle.smx_slots.proofs.roll.Roll.searched.Goals as goal

pub returns-in-Ok : goal.returns-in-Ok
returns-in-Ok c =
    let value = slot_at _ (subst (λ (l : Listing). IsRising l.rows) c.self.view_is c.self.invariant.rising) _ _ c.in-Ok.ensures.found in
    let read = get_or_default _ _ c.index.result.now (0, 0) c.in-Ok.ensures.found.within in
    grind (arith, c.self.view_is)

pub returns-in-Err : goal.returns-in-Err
returns-in-Err c = sym (no_slot _ _ _ c.in-Err.ensures.absent)
