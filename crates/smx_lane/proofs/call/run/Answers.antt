use Rattle.smx_lane.proofs.Calling.{admit_made, accept_made, take_made, answer_made, collect_made, retire_made, turn_made, down_made, fail_made, expiry_made, up_made}
use Rattle.smx_lane.proofs.call.run.Goals as goal

pub returns-in-Admit-clause-reply : goal.returns-in-Admit-clause-reply
returns-in-Admit-clause-reply c = rw c.in-Admit.is (admit_made c.args.lane.now _ _ _ c.admit.result c.admit.ensures.reply c.admit.ensures.agrees c.admit.ensures.err)

pub returns-else-not-is_next-clause-reply : goal.returns-else-not-is_next-clause-reply
returns-else-not-is_next-clause-reply c = rw c.in-Accept.is (accept_made c.args.lane.now _ _ _ c.accept.result (c.is_next.ensures.0 c.if-not-is_next.false) c.accept.ensures.reply c.accept.ensures.agrees c.accept.ensures.err)

pub returns-in-Take-clause-reply : goal.returns-in-Take-clause-reply
returns-in-Take-clause-reply c = rw c.in-Take.is (take_made c.args.lane.now _ _ _ c.take.result c.take.ensures.reply c.take.ensures.oldest c.take.ensures.agrees c.take.ensures.err)

pub returns-in-Answer-clause-reply : goal.returns-in-Answer-clause-reply
returns-in-Answer-clause-reply c = rw c.in-Answer.is (answer_made c.args.lane.now _ _ _ c.answer.result c.answer.ensures.answered)

pub returns-else-not-is_own-clause-reply : goal.returns-else-not-is_own-clause-reply
returns-else-not-is_own-clause-reply c = rw c.in-Collect.is (collect_made c.args.lane.now _ _ _ c.collect.result (c.is_own.ensures.0 c.if-not-is_own.false) c.collect.ensures.collected)

pub returns-else-not-is_own-2-clause-reply : goal.returns-else-not-is_own-2-clause-reply
returns-else-not-is_own-2-clause-reply c = rw c.in-Retire.is (retire_made c.args.lane.now _ _ _ c.retire.result (c.is_own-in-Retire.ensures.0 c.if-not-is_own-2.false) c.retire.ensures.reply c.retire.ensures.agrees c.retire.ensures.err)

pub returns-in-TurnOver-clause-reply : goal.returns-in-TurnOver-clause-reply
returns-in-TurnOver-clause-reply c = rw c.in-TurnOver.is (turn_made c.args.lane.now _ _ _ c.turn_over.result c.turn_over.ensures.turned c.turn_over.ensures.err)

pub returns-in-Down-clause-reply : goal.returns-in-Down-clause-reply
returns-in-Down-clause-reply c = rw c.in-Down.is (down_made c.args.lane.now _ _ c.down.result c.down.ensures.reply c.down.ensures.agrees c.down.ensures.err)

pub returns-in-Fail-clause-reply : goal.returns-in-Fail-clause-reply
returns-in-Fail-clause-reply c = rw c.in-Fail.is (fail_made c.args.lane.now _ _ c.fail.result c.fail.ensures.reply c.fail.ensures.failed c.fail.ensures.err)

pub returns-in-Up-clause-reply : goal.returns-in-Up-clause-reply
returns-in-Up-clause-reply c = rw c.in-Up.is (up_made c.args.lane.now _ _ c.up.result c.up.ensures.reply c.up.ensures.agrees c.up.ensures.err)

pub returns-in-FailExpired-clause-reply : goal.returns-in-FailExpired-clause-reply
returns-in-FailExpired-clause-reply c = rw c.in-FailExpired.is (expiry_made c.args.lane.now _ _ _ _ c.fail_expired.result c.fail_expired.ensures.expired c.fail_expired.ensures.none c.fail_expired.ensures.err)
