use Rattle.std.proofs.Common.{◌≤◌, ◌+◌, ◌-◌, ◌*◌, ◌^◌, ◌++◌, length, take}
use Rattle.smx_history.specs.Shifts.{marks_in}
use Rattle.smx_history.specs.Legal.{IsLegal}
use Rattle.smx_legal.specs.Checks.{Counted, entries_in, lists_of}
use Rattle.smx_legal.proofs.Marking.{so_far}
use Rattle.smx_legal.proofs.legal.after_shift.Given as goal

abbrev pub invariant-loop-at : goal.invariant-loop-at
invariant-loop-at l = record {
  legal : IsLegal l.limits (so_far (marks_in (lists_of l.earlier)) (take l.at l.entries));
  counted : Counted (entries_in l.earlier ++ take l.at l.entries) l.totals;
  taken : l.totals.taken ≤ length l.earlier * (2 ^ 64 - 1) + l.at;
}
