use Rattle.std.proofs.Common.{◌≡◌, take, length}
use Rattle.std.specs.Prelude.{◌↔◌}
use Rattle.smx_session.proofs.account.same_octets.Given as goal

-- no difference was met exactly where the pairs so far are of one list
abbrev pub invariant-loop-own : goal.invariant-loop-own
invariant-loop-own l = (l.differences ≡ 0) ↔ (take (length l.yielded) l.one ≡ take (length l.yielded) l.other)
