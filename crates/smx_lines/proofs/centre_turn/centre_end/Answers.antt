use Rattle.std.proofs.Common.{arith, sym, ◌∙◌, rules}
use Rattle.std.proofs.lemmas.Result.{IfOk-weaker}
use Rattle.smx_lines.specs.CentreTurn.{centre_end}
use Rattle.smx_lines.proofs.Turning.{turned_nothing}
use Rattle.smx_lines.proofs.Links.{left_is, centre_end_left, centre_ended}
use Rattle.smx_lines.proofs.centre_turn.centre_end.Goals as goal

pub returns-then-not-has_failed-clause-turned : goal.returns-then-not-has_failed-clause-turned
unfolding centre_end
returns-then-not-has_failed-clause-turned c = λ s a. rw c.if-not-has_failed.true (turned_nothing c.args.state.now s _ a c.new.ensures.items)

pub returns-then-has_left-clause-turned : goal.returns-then-has_left-clause-turned
returns-then-has_left-clause-turned c = λ s a.
    let gone = left_is c.args.state.now s c.args.lane c.index.result.now _ a (omega arith) (search rules) (sym c.has_left.ensures ∙ c.if-has_left.true) in
    rw (centre_end_left s c.args.lane c.args.has_failed gone) (turned_nothing c.args.state.now s _ a c.new-then-has_left.ensures.items)

pub returns-clause-turned : goal.returns-clause-turned
returns-clause-turned c = λ s a.
    let here = left_is c.args.state.now s c.args.lane c.index.result.now _ a (omega arith) (search rules) (sym c.has_left.ensures ∙ c.if-has_left.false) in
    rw c.if-not-has_failed.false (IfOk-weaker c.farewell_lines.result _ _ (λ text e. centre_ended c.lower.new.state s c.args.lane _ text.items here c.undecoded.ensures e (c.lower.ensures.agrees s a)) c.farewell_lines.ensures)
