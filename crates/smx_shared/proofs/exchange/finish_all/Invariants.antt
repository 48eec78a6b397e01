use Rattle.std.proofs.Common.{◌≡◌, ◌≤◌, ◌+◌, ◌++◌, length, vec_capacity}
use Rattle.std.specs.List.{AllZip}
use Rattle.smx_lock.specs.Fronts.{IsLast}
use Rattle.smx_lane.specs.Kept.{writer, limits_of, suits}
use Rattle.smx_shared.specs.Views.{locks_of}
use Rattle.smx_shared.proofs.exchange.finish_all.Given as goal

abbrev pub invariant-loop-seat : goal.invariant-loop-seat
invariant-loop-seat l = record {
  done : AllZip (IsLast writer limits_of suits) l.yielded l.lanes.items;
  left : l.yielded ++ l.seat-iterator.rest.items ≡ l.fn.seats.items;
  locks : locks_of l.seat-iterator.rest.items ≡ l.rest.rest.items;
  count : length l.lanes.items + length l.rest.rest.items ≡ length l.fn.locks.items;
  room : length l.fn.locks.items ≤ vec_capacity l.lanes;
}
