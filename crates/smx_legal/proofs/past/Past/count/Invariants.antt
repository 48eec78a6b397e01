use Rattle.std.proofs.Common.{◌≡◌, ◌≤◌, ◌+◌, ◌-◌, ◌*◌, ◌^◌, length, filter, take}
use Rattle.smx_legal.specs.Checks.{is_in, entries_in}
use Rattle.smx_legal.proofs.past.Past.count.Given as goal

abbrev pub invariant-loop-list : goal.invariant-loop-list
invariant-loop-list l =
    (l.list-items ≡ l.self.earlier.now)
    × (l.count ≡ length (filter (is_in l.part) (entries_in (take l.list-index l.list-items))) + length (filter (is_in l.part) l.self.since.now))
    × (l.count ≤ (l.list-index + 1) * (2 ^ 64 - 1))
