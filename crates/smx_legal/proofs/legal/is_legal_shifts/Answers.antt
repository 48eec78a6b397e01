use Rattle.std.proofs.Common.{◌+◌, sym, subst, arith, List, Option, length-take}
use Rattle.std.proofs.lemmas.Bool.{false≢true}
use Rattle.smx_history.specs.declared.entry.Entry.{Entry}
use Rattle.smx_history.specs.Legal.{IsLegal}
use Rattle.smx_history.proofs.Beginning.{IsLegal-empty, IsLegal-some}
use Rattle.smx_legal.specs.Checks.{Counted}
use Rattle.smx_legal.proofs.Marking.{so_far, marks_in-next, entries_in-next, lists-before}
use Rattle.smx_legal.proofs.legal.is_legal_shifts.Goals as goal

pub loop-at-init : goal.loop-at-init
loop-at-init c = record { legal = IsLegal-empty c.args.limits (omega (arith, c.if-limits-eq0.false)); counted = c.none-totals.ensures.counted; taken = omega (arith, c.none-totals.ensures.taken) }

pub returns-in-None : goal.returns-in-None
unfolding so_far
returns-in-None c = (
  λ h. absurd (false≢true h),
  λ legal. absurd (c.in-None.ensures.legal (subst (λ (xs : List (Option Entry)). IsLegal c.args.limits xs) (marks_in-next c.args.lists.now c.loop-at.at _ _ c.as_slice.result.now c.loop-at-test.true c.index-lists-at.is c.as_slice.ensures.value) (lists-before c.args.limits c.args.lists.now (c.loop-at.at + 1) legal))),
)

pub loop-at-preserved : goal.loop-at-preserved
unfolding so_far
loop-at-preserved c = record {
  legal = subst (λ (xs : List (Option Entry)). IsLegal c.args.limits xs) (sym (marks_in-next c.args.lists.now c.loop-at.at _ _ c.as_slice.result.now c.loop-at-test.true c.index-lists-at.is c.as_slice.ensures.value)) c.in-Some.ensures.legal.legal;
  counted = subst (λ (xs : List Entry). Counted xs c.in-Some.next) (sym (entries_in-next c.args.lists.now c.loop-at.at _ _ c.as_slice.result.now c.loop-at-test.true c.index-lists-at.is c.as_slice.ensures.value)) c.in-Some.ensures.legal.counted;
  taken = let t = c.in-Some.ensures.legal.taken in omega (arith, t, length-take c.loop-at.at c.args.lists.now, c.loop-at-test.true);
}

pub returns-then-limits-eq0 : goal.returns-then-limits-eq0
returns-then-limits-eq0 c = (λ h. absurd (false≢true h), λ legal. absurd (omega (arith, IsLegal-some c.args.limits _ legal, c.if-limits-eq0.true)))
