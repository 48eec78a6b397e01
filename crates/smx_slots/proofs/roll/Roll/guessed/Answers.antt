use Rattle.std.proofs.Common.{◌≡◌, ℕ, get_or, sym, ap, ◌∙◌}
use Rattle.smx_slots.specs.Private.Sorted.{IsAt}
use Rattle.smx_slots.proofs.Pairs.{slot_at}
use Rattle.smx_slots.proofs.roll.Roll.guessed.Goals as goal

pub returns-in-Some : goal.returns-in-Some
returns-in-Some c =
    let rows = c.self.inside.rows.items in
    let guess : ℕ = c.in_ok-guess.field-0.now in
    let row = c.in-Some.field-0.now in
    let found = rw c.deref-2.ensures.value at c.in-Some.ensures.lookup.3 in
    let read : get_or rows guess (0, 0) ≡ row = sym (found.1 (0, 0)) in
    let at : IsAt rows c.args.client guess = record { within = found.0; is = ap (λ (r : ℕ × ℕ). r.0) read ∙ c.if-c-client.true } in
    rw (← c.self.view_is, ← read) (slot_at rows c.self.invariant.rising c.args.client guess at)
