use Rattle.std.proofs.Common.{◌≡◌, ◌++◌, ◌==◌, drop}
use Rattle.std.specs.List.{list_any}
use Rattle.smx_history.specs.Entries.{numbers}
use Rattle.smx_legal.specs.Checks.{entries_in, entries_before}
use Rattle.smx_legal.proofs.past.Past.bears_after.Given as goal

abbrev pub invariant-loop-list : goal.invariant-loop-list
invariant-loop-list l =
    (l.list-items ≡ l.self.earlier.now)
    × (list_any (λ u. u == l.number) (drop l.left (numbers (entries_in (drop l.list-index l.list-items) ++ l.self.since.now))) ≡ list_any (λ u. u == l.number) (drop l.n (numbers (entries_before l.self))))
