use Rattle.std.proofs.Common.{◌≡◌, ◌<◌, ◌∙◌, true, length, None, refl, sym, subst, arith}
use Rattle.std.specs.List.{insert}
use Rattle.std.proofs.lemmas.Bool.{lt-ltb}
use Rattle.std.proofs.lemmas.Grind.{common_steps}
use Rattle.smx_slots.specs.Rolls.{Listing, slot_of}
use Rattle.smx_slots.specs.Private.Sorted.{IsGap, IsRising}
use Rattle.smx_slots.proofs.Pairs.{slot_at, no_slot, slot_inserted, rising_inserted}
use Rattle.smx_slots.proofs.roll.Roll.add.Goals as goal

pub returns-in_default-clause-may : goal.returns-in_default-clause-may
returns-in_default-clause-may c =
    let value = slot_at _ (subst (λ (l : Listing). IsRising l.rows) c.self.view_is c.self.invariant.rising) _ _ c.in_default.ensures.found in
    rw value refl

pub invariant_of-self : goal.invariant_of-self
invariant_of-self c =
    let rows = c.self.inside.rows.items in
    let gap : IsGap rows c.args.client c.in-Err.at = subst (λ (l : Listing). IsGap l.rows c.args.client c.in-Err.at) (sym c.self.view_is) c.in-Err.ensures.absent in
    let items : c.insert.new.self.items ≡ insert rows c.in-Err.at (c.args.client, c.args.slot) = grind (arith, common_steps, c.self.invariant.room) in
    record {
      rising = rw items (rising_inserted _ _ _ gap _ c.self.invariant.rising);
      room = grind (arith, common_steps, c.self.invariant.room);
    }

pub returns-clause-may : goal.returns-clause-may
returns-clause-may c =
    let rows = c.self.inside.rows.items in
    let gap : IsGap rows c.args.client c.in-Err.at = subst (λ (l : Listing). IsGap l.rows c.args.client c.in-Err.at) (sym c.self.view_is) c.in-Err.ensures.absent in
    let none : slot_of rows c.args.client ≡ None = no_slot _ _ _ gap in
    let low : length rows < c.self.inside.most = grind (arith, common_steps) in
    let inserted : c.is_ok-is_added.result ≡ true = grind (arith, common_steps, c.self.invariant.room, low) in
    rw (← c.self.view_is, none) (inserted ∙ sym (lt-ltb _ _ low))

pub returns-clause-added : goal.returns-clause-added
returns-clause-added c = λ yes.
    let rows = c.self.inside.rows.items in
    let gap : IsGap rows c.args.client c.in-Err.at = subst (λ (l : Listing). IsGap l.rows c.args.client c.in-Err.at) (sym c.self.view_is) c.in-Err.ensures.absent in
    let items : c.insert.new.self.items ≡ insert rows c.in-Err.at (c.args.client, c.args.slot) = grind (arith, common_steps, c.self.invariant.room) in
    rw (items, ← c.self.view_is) (slot_inserted _ _ _ gap _)
