use Rattle.std.proofs.Common.{◌≡◌, ◌-◌, ◌==◌, length, drop}
use Rattle.std.specs.List.{list_any}
use Rattle.smx_history.specs.Entries.{numbers}
use Rattle.smx_legal.proofs.past.pass_over.Given as goal

abbrev pub invariant-loop-entry : goal.invariant-loop-entry
invariant-loop-entry l =
    (list_any (λ u. u == l.number) (drop l.left (numbers (drop l.entry-index l.entries))) ≡ list_any (λ u. u == l.number) (drop l.n (numbers l.entries)))
    × (l.left - length (numbers (drop l.entry-index l.entries)) ≡ l.n - length (numbers l.entries))
