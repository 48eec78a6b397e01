use Rattle.std.proofs.Common.{◌≡◌, refl, sym, arith, length}
use Rattle.std.specs.Prelude.{replicate}
use Rattle.std.proofs.lemmas.Grind.{common_steps}
use Rattle.smx_slots.proofs.Counting.{keys_within, none_counted}
use Rattle.smx_slots.proofs.ledger.Ledger.new.Goals as goal

pub invariant_of-result : goal.invariant_of-result
invariant_of-result c =
    let count = length c.args.limits.now in
    let accounts : length c.in_ok-collect.field-0.items ≡ count = grind (arith, common_steps) in
    let unbound : c.in_ok-vec.field-0.items ≡ replicate count 0 = grind (arith, common_steps) in
    let idle : c.in_ok-vec-2.field-0.items ≡ replicate count 0 = grind (arith, common_steps) in
    record {
      clients = λ q. rw (c.new-2.ensures, c.in_ok-new.ensures q) (record { gone = refl; requests = refl });
      requests = λ key. rw c.new-2.ensures (none_counted count key _ idle);
      bound = λ key. rw c.new-2.ensures (none_counted count key _ unbound);
      total = rw c.new-2.ensures refl;
      keys = keys_within count _ _ c.in_ok-first_keys.ensures (sym accounts);
      requests_length = grind (arith, common_steps);
      bound_length = grind (arith, common_steps);
    }
