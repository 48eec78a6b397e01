use Rattle.std.proofs.Common.{◌≡◌, ◌≢◌, [], length, drop, AllPairs}
use Rattle.toml.specs.View.{items_view}
use Rattle.smx_config.specs.Settings.{stated_after, account_in}
use Rattle.smx_config.proofs.account.read_accounts.Given as goal

abbrev pub invariant-loop-value : goal.invariant-loop-value
invariant-loop-value l = record {
  stated : stated_after account_in [] (items_view l.values) ≡ stated_after account_in l.list.items (items_view (drop l.value-index l.values));
  count : length l.list.items ≡ l.value-index;
  distinct : AllPairs (λ a b. a.system_id ≢ b.system_id) l.list.items;
}
