use Rattle.std.proofs.Common.{◌≡◌, length}
use Rattle.smx_bodies.specs.Reading.{parameters_after}
use Rattle.smx_bodies.proofs.parameters.are_parameters.Given as goal

-- whether all are parameters is whether those left are
abbrev pub invariant-loop-rest : goal.invariant-loop-rest
invariant-loop-rest l = parameters_after 0 l.fn.octets ≡ parameters_after 0 l.rest

abbrev pub decreases-loop-rest : goal.decreases-loop-rest
decreases-loop-rest l = length l.rest
