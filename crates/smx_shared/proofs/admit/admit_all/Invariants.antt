use Rattle.std.proofs.Common.{◌≡◌, ◌≤◌, length, take, vec_capacity}
use Rattle.smx_shared.specs.Views.{locks_of}
use Rattle.smx_shared.specs.Entering.{Entered}
use Rattle.smx_shared.proofs.admit.admit_all.Given as goal

abbrev pub invariant-loop-lane : goal.invariant-loop-lane
invariant-loop-lane g l = record {
  entered : Entered l.lane l.fn.client l.fn.seats.items l.seats.items l.made.items;
  made : locks_of l.made.items ≡ take l.lane (locks_of l.fn.seats.items);
  room : length l.fn.seats.items ≤ vec_capacity l.made;
}
