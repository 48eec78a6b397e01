use Rattle.std.proofs.Common.{ap, ◌∙◌}
use Rattle.smx_upstream.specs.Phases.{unless_spent}
use Rattle.smx_upstream.proofs.spent.more_unless_spent.Goals as goal

pub returns-then-spent-clause-leads : goal.returns-then-spent-clause-leads
returns-then-spent-clause-leads c = λ next q is. is ∙ ap (λ b. unless_spent b (next c.args.more)) c.if-spent.true

pub returns-else-spent-clause-leads : goal.returns-else-spent-clause-leads
returns-else-spent-clause-leads c = λ next q is. is ∙ ap (λ b. unless_spent b (next c.args.more)) c.if-spent.false
