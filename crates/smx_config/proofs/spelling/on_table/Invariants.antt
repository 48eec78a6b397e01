use Rattle.std.proofs.Common.{◌≡◌, ◌++◌}
use Rattle.toml.specs.View.{members_view}
use Rattle.smx_config.specs.Unread.{names, unread_in}
use Rattle.smx_config.proofs.spelling.on_table.Given as goal

abbrev pub invariant-loop-key : goal.invariant-loop-key
invariant-loop-key l =
    (goal.iterator-loop-key).can_next l.key-iterator ×
    (goal.iterator-loop-key).is_finite l.key-iterator ×
    (names l.all.items ++ unread_in l.section l.place (members_view l.key-iterator) ≡ names l.fn.all.items ++ unread_in l.section l.place (members_view l.table.entries))
