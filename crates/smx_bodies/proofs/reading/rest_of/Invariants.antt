use Rattle.std.proofs.Common.{◌≡◌, drop}
use Rattle.smx_bodies.specs.Reading.{after_parts}
use Rattle.smx_bodies.proofs.reading.rest_of.Given as goal

-- those that are left are to be read from the rest
abbrev pub invariant-loop-part : goal.invariant-loop-part
invariant-loop-part l = after_parts l.fn.parts l.fn.octets ≡ after_parts (drop l.part-index l.parts) l.rest
