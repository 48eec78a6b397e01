use Rattle.std.proofs.Common.{◌≡◌, ◌<◌, ◌∙◌, true, false, None, length, get_or, sym, arith}
use Rattle.smx_slots.specs.Ledger.{moves_to}
use Rattle.smx_slots.proofs.Moving.{is_there, here_moved, later_moved, none_moved}
use Rattle.smx_slots.proofs.accounts.key_moved.Goals as goal

pub loop-old-preserved : goal.loop-old-preserved
loop-old-preserved c =
    let low : c.loop-old.old < length c.args.moves.now = omega (arith, c.min-count.ensures, c.loop-old-test.true) in
    let within : c.loop-old.old < length c.args.keys.now = omega (arith, c.min-count.ensures, c.loop-old-test.true) in
    let other : moves_to c.args.index (get_or c.args.moves.now c.loop-old.old None) ≡ false = sym (is_there (get_or c.args.moves.now c.loop-old.old None) c.args.index) ∙ sym c.eq.ensures ∙ c.if-eq.false in
    later_moved c.args.moves.now c.args.keys.now c.loop-old.old c.args.index low within other ∙ c.loop-old.invariant

pub returns-then-eq-clause-moved : goal.returns-then-eq-clause-moved
returns-then-eq-clause-moved c =
    let low : c.loop-old.old < length c.args.moves.now = omega (arith, c.min-count.ensures, c.loop-old-test.true) in
    let within : c.loop-old.old < length c.args.keys.now = omega (arith, c.min-count.ensures, c.loop-old-test.true) in
    let here : moves_to c.args.index (get_or c.args.moves.now c.loop-old.old None) ≡ true = sym (is_there (get_or c.args.moves.now c.loop-old.old None) c.args.index) ∙ sym c.eq.ensures ∙ c.if-eq.true in
    sym (here_moved c.args.moves.now c.args.keys.now c.loop-old.old c.args.index low within here) ∙ c.loop-old.invariant

pub returns-clause-moved : goal.returns-clause-moved
returns-clause-moved c = sym (none_moved c.args.moves.now c.args.keys.now c.loop-old.old c.args.index (omega (arith, c.min-count.ensures, c.loop-old-test.false))) ∙ c.loop-old.invariant
