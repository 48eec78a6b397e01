use Rattle.std.proofs.Common.{◌≡◌, ◌+◌, length, filter, slice_get, drop}
use Rattle.smx_legal.specs.Checks.{is_in}
use Rattle.smx_legal.proofs.past.nth_in.Given as goal

abbrev pub invariant-loop-entry : goal.invariant-loop-entry
invariant-loop-entry l =
    (slice_get (filter (is_in l.part) (drop l.entry-index l.entries)) l.left ≡ slice_get (filter (is_in l.part) l.entries) l.n)
    × (l.left + length (filter (is_in l.part) l.entries) ≡ l.n + length (filter (is_in l.part) (drop l.entry-index l.entries)))
