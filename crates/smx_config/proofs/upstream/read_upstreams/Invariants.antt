use Rattle.std.proofs.Common.{◌≡◌, [], length, drop}
use Rattle.toml.specs.View.{items_view}
use Rattle.smx_config.specs.Settings.{stated_after, upstream_in}
use Rattle.smx_config.proofs.upstream.read_upstreams.Given as goal

abbrev pub invariant-loop-value : goal.invariant-loop-value
invariant-loop-value l = record {
  stated : stated_after upstream_in [] (items_view l.values) ≡ stated_after upstream_in l.list.items (items_view (drop l.value-index l.values));
  count : length l.list.items ≡ l.value-index;
}
