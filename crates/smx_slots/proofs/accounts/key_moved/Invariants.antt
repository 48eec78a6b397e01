use Rattle.std.proofs.Common.{◌≡◌, drop}
use Rattle.smx_slots.specs.Ledger.{key_moved}
use Rattle.smx_slots.proofs.accounts.key_moved.Given as goal

abbrev pub invariant-loop-old : goal.invariant-loop-old
invariant-loop-old l = key_moved (drop l.old l.moves) (drop l.old l.keys) l.index ≡ key_moved l.moves l.keys l.index
