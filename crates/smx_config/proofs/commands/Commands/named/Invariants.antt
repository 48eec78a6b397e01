use Rattle.std.proofs.Common.{◌≡◌, drop}
use Rattle.toml.specs.View.{items_view}
use Rattle.smx_config.specs.Choices.{no_commands}
use Rattle.smx_config.specs.Settings.{commands_after}
use Rattle.smx_config.proofs.commands.Commands.named.Given as goal

abbrev pub invariant-loop-value : goal.invariant-loop-value
invariant-loop-value l = commands_after no_commands (items_view l.values) ≡ commands_after l.so (items_view (drop l.value-index l.values))
