use Rattle.std.proofs.Common.{◌∙◌, sym, subst, arith, take, List}
use Rattle.std.proofs.lemmas.Bool.{false≢true}
use Rattle.std.proofs.lemmas.List.{append-nil}
use Rattle.smx_history.specs.declared.entry.Entry.{Entry}
use Rattle.smx_history.specs.Shifts.{marks_in}
use Rattle.smx_legal.specs.Checks.{Counted, entries_in, lists_of}
use Rattle.smx_legal.proofs.Marking.{so_far, so_far-begin, so_far-rules, noted-earlier}
use Rattle.smx_legal.proofs.Steps.{legal_step, counted_step, legal_prefix, entry_fits, legal_end, counted_end, within_counted, totals_small}
use Rattle.smx_legal.proofs.legal.after_shift.Goals as goal

pub loop-at-init : goal.loop-at-init
loop-at-init c = record {
  legal = so_far-begin c.args.limits (marks_in (lists_of c.args.earlier.now)) c.requires.legal;
  counted = subst (λ (xs : List Entry). Counted xs c.args.totals) (sym (append-nil (entries_in c.args.earlier.now))) c.requires.counted;
  taken = omega (arith, c.requires.taken);
}

pub fits-requires-clause-rules : goal.fits-requires-clause-rules
fits-requires-clause-rules c = so_far-rules c.args.limits (marks_in (lists_of c.args.earlier.now)) (entries_in c.args.earlier.now) (noted-earlier c.args.earlier.now) (take c.loop-at.at c.args.entries.now) c.loop-at.invariant.legal

pub returns-then-not-fits : goal.returns-then-not-fits
unfolding so_far
returns-then-not-fits c = record {
  legal = λ legal. false≢true (sym c.if-not-fits.true ∙ c.fits.ensures.1
      (entry_fits c.args.limits (marks_in (lists_of c.args.earlier.now)) (entries_in c.args.earlier.now) (noted-earlier c.args.earlier.now) c.args.entries.now c.loop-at.at _ c.loop-at-test.true legal));
}

pub after-totals-requires-clause-rules : goal.after-totals-requires-clause-rules
after-totals-requires-clause-rules c = so_far-rules c.args.limits (marks_in (lists_of c.args.earlier.now)) (entries_in c.args.earlier.now) (noted-earlier c.args.earlier.now) (take c.loop-at.at c.args.entries.now) c.loop-at.invariant.legal

pub after-totals-requires-clause-few : goal.after-totals-requires-clause-few
after-totals-requires-clause-few c =
    let small = totals_small c.args.limits (marks_in (lists_of c.args.earlier.now)) (entries_in c.args.earlier.now) (noted-earlier c.args.earlier.now) c.args.entries.now c.loop-at.at c.loop-at.totals c.loop-at-test.true c.loop-at.invariant.legal c.loop-at.invariant.counted in
    omega (arith, small, c.history_of-history.ensures, c.history_of-history.type_inv)

pub size-requires : goal.size-requires
size-requires c =
    let small = totals_small c.args.limits (marks_in (lists_of c.args.earlier.now)) (entries_in c.args.earlier.now) (noted-earlier c.args.earlier.now) c.args.entries.now c.loop-at.at c.loop-at.totals c.loop-at-test.true c.loop-at.invariant.legal c.loop-at.invariant.counted in
    let near = c.after-totals.ensures.near in
    omega (arith, small, near.0, near.1, near.2, near.3, c.history_of-history.ensures, c.history_of-history.type_inv)

pub returns-then-size-history : goal.returns-then-size-history
unfolding so_far
returns-then-size-history c = record {
  legal = λ legal.
      let le = within_counted c.args.limits (marks_in (lists_of c.args.earlier.now)) (entries_in c.args.earlier.now) (noted-earlier c.args.earlier.now) c.args.entries.now c.loop-at.at c.size.result _ c.after-totals.result c.loop-at-test.true c.after-totals.ensures.counted c.size.ensures
      (legal_prefix c.args.limits (marks_in (lists_of c.args.earlier.now)) c.args.entries.now c.loop-at.at _ c.loop-at-test.true legal) in
      omega (arith, le, c.if-size-history.true, c.history_of-history.ensures);
}

pub loop-at-preserved : goal.loop-at-preserved
loop-at-preserved c = record {
  legal = legal_step c.args.limits (marks_in (lists_of c.args.earlier.now)) (entries_in c.args.earlier.now) (noted-earlier c.args.earlier.now) c.args.entries.now c.loop-at.at c.size.result _ c.after-totals.result c.loop-at-test.true c.loop-at.invariant.legal
      (c.fits.ensures.0 c.if-not-fits.false) c.after-totals.ensures.counted c.size.ensures (omega (arith, c.if-size-history.false, c.history_of-history.ensures));
  counted = counted_step (entries_in c.args.earlier.now) c.args.entries.now c.loop-at.at _ c.after-totals.result c.loop-at-test.true c.after-totals.ensures.counted;
  taken = omega (arith, c.after-totals.ensures.taken, c.loop-at.invariant.taken);
}

pub returns : goal.returns
unfolding so_far
returns c = record {
  legal = record {
    legal = legal_end c.args.limits (marks_in (lists_of c.args.earlier.now)) c.args.entries.now c.loop-at.at c.loop-at-test.false c.loop-at.auto.at-end c.loop-at.invariant.legal;
    counted = counted_end (entries_in c.args.earlier.now) c.args.entries.now c.loop-at.at c.loop-at.totals c.loop-at-test.false c.loop-at.auto.at-end c.loop-at.invariant.counted;
    taken = omega (arith, c.loop-at.invariant.taken, c.loop-at.auto.at-end, c.loop-at-test.false);
  };
}
