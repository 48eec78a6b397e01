use Rattle.smx_turns.proofs.Logged.{still_quiet, not_quiet}
use Rattle.smx_turns.proofs.step.Log.push.Goals as goal

pub invariant_of-self : goal.invariant_of-self
invariant_of-self g c =
    not_quiet g.E.Deed.is_quiet c.self.inside.steps _ c.args.step.now c.args.quiet c.and-self-inside.ensures c.requires c.if-not-quiet.true

pub invariant_of-self-else-not-quiet : goal.invariant_of-self-else-not-quiet
invariant_of-self-else-not-quiet g c =
    still_quiet g.E.Deed.is_quiet c.self.inside.steps _ c.args.step.now c.self.inside.quiet c.args.quiet c.and-self-inside.ensures c.requires c.if-not-quiet.false c.self.invariant
