use Rattle.std.proofs.Common.{◌≡◌, ◌≢◌, [], length, drop, map, string_bytes, All, AllPairs, IsTrue}
use Rattle.toml.specs.View.{items_view}
use Rattle.smx_config.specs.declared.text.Text.TheVariants.{Prefix}
use Rattle.smx_config.specs.Keys.{is_text}
use Rattle.smx_config.specs.Settings.{stated_after, prefix_in}
use Rattle.smx_config.proofs.account.read_prefixes.Given as goal

abbrev pub invariant-loop-value : goal.invariant-loop-value
invariant-loop-value l = record {
  stated : stated_after prefix_in [] (items_view l.values) ≡ stated_after prefix_in (map string_bytes l.list.items) (items_view (drop l.value-index l.values));
  count : length l.list.items ≡ l.value-index;
  short : All (λ p. IsTrue (is_text Prefix p)) (map string_bytes l.list.items);
  distinct : AllPairs (λ p q. p ≢ q) (map string_bytes l.list.items);
}
