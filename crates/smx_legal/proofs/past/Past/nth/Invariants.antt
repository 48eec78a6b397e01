use Rattle.std.proofs.Common.{◌≡◌, ◌++◌, filter, slice_get, drop}
use Rattle.smx_legal.specs.Checks.{is_in, entries_in, entries_before}
use Rattle.smx_legal.proofs.past.Past.nth.Given as goal

abbrev pub invariant-loop-list : goal.invariant-loop-list
invariant-loop-list l =
    (l.list-items ≡ l.self.earlier.now)
    × (slice_get (filter (is_in l.part) (entries_in (drop l.list-index l.list-items) ++ l.self.since.now)) l.left ≡ slice_get (filter (is_in l.part) (entries_before l.self)) l.n)
