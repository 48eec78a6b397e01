use mir.Val.{bool_byte}
use Rattle.std.proofs.Common.{◌≡◌, ◌∙◌, arith, ap, refl, not, cond, Bool, true, false}
use Rattle.smx_history.specs.Legal.{IsFifo}
use Rattle.smx_legal.specs.Checks.{entries_before}
use Rattle.smx_history.proofs.ListPushes.{AtEachPrefix-whole}
use Rattle.smx_legal.proofs.CountedEntries.{counted_admit, counted_accept, counted_take, counted_collect, counted_retire, collect_waiting, leaves}
use Rattle.smx_legal.proofs.CountedSettle.{counted_answer, counted_late, counted_fail, closes, answers_by, fails_by}
use Rattle.smx_legal.proofs.CountedLink.{counted_down, counted_up}
use Rattle.smx_history.proofs.FitsSettle.{settles_answer, settles_late, settles_fail}
use Rattle.smx_legal.proofs.legal.after.Goals as goal

pub overflow_add-result : goal.overflow_add-result
overflow_add-result c = omega (arith, c.requires.few)

pub overflow_add-result-in-Take : goal.overflow_add-result-in-Take
overflow_add-result-in-Take c = omega (arith, c.requires.taken)

pub overflow_add-result-in-Take-2 : goal.overflow_add-result-in-Take-2
overflow_add-result-in-Take-2 c = omega (arith, c.requires.few)

pub overflow_sub-result-in-Answer : goal.overflow_sub-result-in-Answer
overflow_sub-result-in-Answer c =
    let p = (answers_by c.args.limits (entries_before c.args.past) c.args.entry c.requires.fits).0 c.in-Answer.is in
    let closed = closes c.args.limits (entries_before c.args.past) c.args.entry c.requires.rules (settles_answer c.args.entry.kind c.in-Answer.is) p in
    omega (arith, closed.fewer, c.requires.counted.unanswered)

pub overflow_add-result-in-Answer : goal.overflow_add-result-in-Answer
overflow_add-result-in-Answer c = omega (arith, c.requires.few)

pub overflow_sub-result-in-Late : goal.overflow_sub-result-in-Late
overflow_sub-result-in-Late c =
    let p = (answers_by c.args.limits (entries_before c.args.past) c.args.entry c.requires.fits).1 c.in-Late.is in
    let closed = closes c.args.limits (entries_before c.args.past) c.args.entry c.requires.rules (settles_late c.args.entry.kind c.in-Late.is) p in
    omega (arith, closed.fewer, c.requires.counted.unanswered)

pub overflow_sub-result-in-Collect : goal.overflow_sub-result-in-Collect
overflow_sub-result-in-Collect c =
    let less = collect_waiting c.args.limits (entries_before c.args.past) c.args.entry c.requires.rules c.requires.fits c.in-Collect.is in
    omega (arith, less, c.requires.counted.waiting)

pub waiting_of-requires : goal.waiting_of-requires
waiting_of-requires c = AtEachPrefix-whole IsFifo (entries_before c.args.past) c.requires.rules.fifo

pub overflow_sub-result-in-Retire : goal.overflow_sub-result-in-Retire
overflow_sub-result-in-Retire c =
    let gone = leaves c.args.limits (entries_before c.args.past) c.args.entry c.requires.rules c.requires.fits c.in-Retire.is in
    omega (arith, gone.waiting, c.requires.counted.waiting, c.waiting_of.ensures)

pub overflow_sub-result-in-Retire-2 : goal.overflow_sub-result-in-Retire-2
overflow_sub-result-in-Retire-2 c =
    let gone = leaves c.args.limits (entries_before c.args.past) c.args.entry c.requires.rules c.requires.fits c.in-Retire.is in
    omega (arith, gone.present, c.requires.counted.present)

pub returns-in-Admit-clause-counted : goal.returns-in-Admit-clause-counted
returns-in-Admit-clause-counted c = counted_admit c.args.limits c.args.totals (entries_before c.args.past) c.args.entry c.requires.rules c.requires.counted c.requires.fits c.in-Admit.is

pub returns-in-Accept-clause-counted : goal.returns-in-Accept-clause-counted
returns-in-Accept-clause-counted c = counted_accept c.args.limits c.args.totals (entries_before c.args.past) c.args.entry c.requires.rules c.requires.counted c.in-Accept.is

pub returns-in-Take-clause-counted : goal.returns-in-Take-clause-counted
returns-in-Take-clause-counted c = counted_take c.args.limits c.args.totals (entries_before c.args.past) c.args.entry c.requires.rules c.requires.counted c.requires.fits c.in-Take.is

pub returns-in-Answer-clause-counted : goal.returns-in-Answer-clause-counted
returns-in-Answer-clause-counted c = counted_answer c.args.limits c.args.totals (entries_before c.args.past) c.args.entry c.requires.rules c.requires.counted c.requires.fits c.in-Answer.is

pub returns-in-Late-clause-counted : goal.returns-in-Late-clause-counted
returns-in-Late-clause-counted c = counted_late c.args.limits c.args.totals (entries_before c.args.past) c.args.entry c.requires.rules c.requires.counted c.requires.fits c.in-Late.is

pub returns-in-Collect-clause-counted : goal.returns-in-Collect-clause-counted
returns-in-Collect-clause-counted c = counted_collect c.args.limits c.args.totals (entries_before c.args.past) c.args.entry c.requires.rules c.requires.counted c.requires.fits c.in-Collect.is

pub returns-in-Retire-clause-counted : goal.returns-in-Retire-clause-counted
returns-in-Retire-clause-counted c = counted_retire c.args.limits c.args.totals (entries_before c.args.past) c.args.entry c.waiting_of.result c.requires.rules c.requires.counted c.requires.fits c.in-Retire.is c.waiting_of.ensures

pub overflow_add-result-in-Accept : goal.overflow_add-result-in-Accept
overflow_add-result-in-Accept c = omega (arith, c.requires.few)

pub overflow_sub-result-in-Fail : goal.overflow_sub-result-in-Fail
overflow_sub-result-in-Fail c =
    let p = fails_by c.args.limits (entries_before c.args.past) c.args.entry c.requires.fits c.in-Fail.is in
    let closed = closes c.args.limits (entries_before c.args.past) c.args.entry c.requires.rules (settles_fail c.args.entry.kind c.in-Fail.is) p in
    omega (arith, closed.fewer, c.requires.counted.unanswered)

byte : (b : Bool) → bool_byte b ≡ cond b 1 0
byte true = refl
byte false = refl

pub returns-in-Fail-clause-counted : goal.returns-in-Fail-clause-counted
returns-in-Fail-clause-counted c =
    let told : c.from.result ≡ cond (not c.is_retired-told.result) 1 0 = c.from.ensures ∙ byte (not c.is_retired-told.result) in
    rw told (counted_fail c.args.limits c.args.totals (entries_before c.args.past) c.args.entry (not c.is_retired-told.result) c.requires.rules c.requires.counted c.requires.fits c.in-Fail.is (ap not c.is_retired-told.ensures))

pub returns-in-Down-clause-counted : goal.returns-in-Down-clause-counted
returns-in-Down-clause-counted c = counted_down c.args.totals (entries_before c.args.past) c.args.entry c.requires.counted c.in-Down.is

pub returns-in-Up-clause-counted : goal.returns-in-Up-clause-counted
returns-in-Up-clause-counted c = counted_up c.args.totals (entries_before c.args.past) c.args.entry c.requires.counted c.in-Up.is
