use Rattle.std.proofs.Common.{arith, map, Some, refl}
use Rattle.std.proofs.lemmas.Bool.{false≢true}
use Rattle.smx_history.proofs.Beginning.{IsLegal-empty, IsLegal-some}
use Rattle.smx_history.proofs.Joining.{IsLegal-first}
use Rattle.smx_legal.proofs.legal.is_legal.Goals as goal

pub after_shift-requires-clause-legal : goal.after_shift-requires-clause-legal
after_shift-requires-clause-legal c = IsLegal-empty c.args.limits (omega (arith, c.if-limits-eq0.false))

pub returns-in-Some : goal.returns-in-Some
returns-in-Some c = (λ _. (IsLegal-first c.args.limits (map Some c.args.entries.now)).1 c.in-Some.ensures.legal.legal, λ _. refl)

pub returns-in-None : goal.returns-in-None
returns-in-None c = (λ h. absurd (false≢true h), λ legal. absurd (c.in-None.ensures.legal ((IsLegal-first c.args.limits (map Some c.args.entries.now)).0 legal)))

pub returns-then-limits-eq0 : goal.returns-then-limits-eq0
returns-then-limits-eq0 c = (λ h. absurd (false≢true h), λ legal. absurd (omega (arith, IsLegal-some c.args.limits (map Some c.args.entries.now) legal, c.if-limits-eq0.true)))
