use Rattle.std.proofs.Common.{◌≡◌, ◌++◌, drop}
use Rattle.toml.specs.View.{items_view}
use Rattle.smx_config.specs.Unread.{names, unread_among}
use Rattle.smx_config.proofs.spelling.on_items.Given as goal

abbrev pub invariant-loop-value : goal.invariant-loop-value
invariant-loop-value l = record {
  index : l.index ≡ l.value-index;
  named : names l.all.items ++ unread_among l.section l.key l.index (items_view (drop l.value-index l.values)) ≡ names l.fn.all.items ++ unread_among l.section l.key 0 (items_view l.values);
}
