use Rattle.std.proofs.Common.{◌≤◌, length, vec_capacity}
use Rattle.smx_shared.specs.Making.{Tapped}
use Rattle.smx_shared.proofs.opening.split_taps.Given as goal

abbrev pub invariant-loop-lane : goal.invariant-loop-lane
invariant-loop-lane g l = record {
  tapped : Tapped l.lane l.fn.seats.items l.seats.items l.taps.items;
  room : length l.fn.seats.items ≤ vec_capacity l.taps;
}
