use Rattle.std.proofs.Common.{◌≤◌, ◌-◌, ◌*◌, ◌^◌, take}
use Rattle.smx_history.specs.Shifts.{marks_in}
use Rattle.smx_history.specs.Legal.{IsLegal}
use Rattle.smx_legal.specs.Checks.{Counted, entries_in, lists_of}
use Rattle.smx_legal.proofs.legal.is_legal_shifts.Given as goal

abbrev pub invariant-loop-at : goal.invariant-loop-at
invariant-loop-at l = record {
  legal : IsLegal l.limits (marks_in (lists_of (take l.at l.lists)));
  counted : Counted (entries_in (take l.at l.lists)) l.totals;
  taken : l.totals.taken ≤ l.at * (2 ^ 64 - 1);
}
