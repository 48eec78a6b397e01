use Rattle.std.proofs.Common.{◌≡◌, ◌<◌, map}
use Rattle.smx_lock.specs.Fronts.{first_front}
use Rattle.smx_history.specs.Room.{AreLimits}
use Rattle.smx_shared.specs.Making.{AreLocks}
use Rattle.smx_shared.proofs.opening.make_locks.Given as goal

abbrev pub invariant-loop : goal.invariant-loop
invariant-loop l = record {
  locks : AreLocks l.counter l.fn.limits l.locks.items;
  seats : l.seats.items ≡ map first_front l.locks.items;
  limits : 0 < l.counter → AreLimits l.fn.limits;
}
