use Rattle.std.proofs.Common.{rules, subst}
use Rattle.smx_ticket_core.specs.Machine.{Sound}
use Rattle.smx_ticket_core.proofs.Soundness.{start_sound}
use Rattle.smx_ticket_core.proofs.machine.Core.start.Goals as goal

pub invariant_of-result : goal.invariant_of-result
invariant_of-result c = subst (λ l. Sound record { next = c.args.first; serving = c.args.first; callers = l }) (search rules) (start_sound c.args.callers c.args.first c.requires)
