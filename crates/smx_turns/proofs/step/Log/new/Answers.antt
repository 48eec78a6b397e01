use Rattle.std.proofs.Common.{sym, ap, ◌∙◌}
use Rattle.smx_turns.specs.Steps.{are_quiet}
use Rattle.smx_turns.proofs.Logged.{quiet_none}
use Rattle.smx_turns.proofs.step.Log.new.Goals as goal

pub invariant_of-result : goal.invariant_of-result
invariant_of-result g c =
    quiet_none g.E.Deed.is_quiet ∙ sym (ap (are_quiet g.E.Deed.is_quiet) c.new.ensures)
