use Rattle.std.proofs.Common.{◌≡◌, ◌≢◌, ◌∙◌, ◌++◌, ◌∷◌, [], ℕ, List, sym, map, string_bytes, IsTrue, arith}
use Rattle.std.proofs.lemmas.Grind.{common_steps}
use Rattle.std.proofs.lemmas.List.{drop_all, map-append}
use Rattle.std.proofs.lemmas.List.Elements.{All-push}
use Rattle.std.proofs.lemmas.List.Quantifiers.{all_pairs_push}
use Rattle.smx_config.specs.declared.text.Text.TheVariants.{Prefix}
use Rattle.smx_config.specs.Keys.{is_text}
use Rattle.smx_config.specs.Settings.{prefix_in}
use Rattle.smx_config.proofs.Items.{prefixes_of-few, prefixes_of-long, stated_after-next}
use Rattle.smx_config.proofs.account.read_prefixes.Goals as goal

pub returns-then-values-gt-MAX_PREFIXES-clause-value : goal.returns-then-values-gt-MAX_PREFIXES-clause-value
returns-then-values-gt-MAX_PREFIXES-clause-value c = sym (prefixes_of-long c.args.values.now (omega arith))

pub loop-value-preserved : goal.loop-value-preserved
loop-value-preserved c =
    let old = map string_bytes c.loop-value.list.items in
    let said = string_bytes c.in-Some.prefix in
    let grown : map string_bytes c.push.new.self.items ≡ old ++ said ∷ [] = rw (c.in_ok-push.ensures.items, map-append string_bytes c.loop-value.list.items (c.in-Some.prefix ∷ [])) in
    record {
      stated = rw grown (c.loop-value.invariant.stated ∙ stated_after-next prefix_in old c.args.values.now c.loop-value.value-index c.value-item.result said (omega arith) (rw (← c.value-item.is, ← c.deref.ensures.value) (rw c.in-Some.is at c.in_ok-prefix.ensures.value)));
      count = grind (arith, common_steps);
      short = rw grown (All-push (λ (p : List ℕ). IsTrue (is_text Prefix p)) old said c.loop-value.invariant.short (rw c.in-Some.is at c.in_ok-prefix.ensures.short));
      distinct = rw grown (all_pairs_push (λ (p q : List ℕ). p ≢ q) old said c.loop-value.invariant.distinct (rw (← c.deref.ensures.value) (rw c.in-Some.is at c.in_ok-prefix.ensures.new)));
    }

pub returns-clause-value : goal.returns-clause-value
returns-clause-value c =
    rw (prefixes_of-few c.args.values.now (omega arith), c.loop-value.invariant.stated, drop_all c.loop-value.value-index c.args.values.now (omega arith))
