use Rattle.std.proofs.Common.{◌≡◌, ◌-◌}
use Rattle.smx_bodies.specs.Reading.{after_each}
use Rattle.smx_bodies.proofs.destinations.after_each.Given as goal

-- those that are left are to be read from the rest
abbrev pub invariant-loop : goal.invariant-loop
invariant-loop l = after_each l.fn.count l.fn.octets ≡ after_each (l.fn.count - l.counter) l.rest
