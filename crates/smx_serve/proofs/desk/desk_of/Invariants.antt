use Rattle.std.proofs.Common.{◌≡◌, length}
use Rattle.smx_serve.proofs.desk.desk_of.Given as goal

-- each account has a list of prefixes
abbrev pub invariant-loop-account : goal.invariant-loop-account
invariant-loop-account l = length l.prefixes.items ≡ length l.accounts.items
