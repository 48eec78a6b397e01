use Rattle.std.proofs.Common.{◌≡◌, ◌<◌, ◌≤◌, length, drop, []}
use Rattle.std.specs.Prelude.{All}
use Rattle.smx_slots.specs.Ledger.{accounts, key_moved, with_accounts}
use Rattle.smx_slots.proofs.accounts.accounts_of.Given as goal

abbrev pub invariant-loop-index : goal.invariant-loop-index
invariant-loop-index l = record {
  steps : with_accounts (key_moved l.moves l.keys) l.index (drop l.index l.limits) (accounts l.next.items l.all.items) ≡ with_accounts (key_moved l.moves l.keys) 0 l.limits (accounts [] l.table);
  within : All (λ key. key < length l.all.items) l.next.items;
  more : length l.table ≤ length l.all.items;
}
