use Rattle.std.proofs.Common.{rules, refl, sym, ap, ◌∙◌}
use Rattle.smx_turns.specs.declared.step.Step.TheVariants.{Marked}
use Rattle.smx_turns.specs.declared.mark.Mark.TheVariants.{Full}
use Rattle.smx_upstream.specs.Phases.{Deciding, when_next, source_of}
use Rattle.smx_upstream.proofs.Eventful.{goes_by, goes_then}
use Rattle.smx_upstream.proofs.Cells.{stepped, cell_brim, leads_err, more_of, ended_of}
use Rattle.smx_upstream.proofs.worker.UpstreamWorker.decide_all.Goals as goal

pub returns-then-unsent-ge-MAX_PDU-clause-phase : goal.returns-then-unsent-ge-MAX_PDU-clause-phase
returns-then-unsent-ge-MAX_PDU-clause-phase g c = λ t same was.
    stepped t _ _ (Marked Full) (Deciding (source_of c.args.polled)) _ c.push.ensures (cell_brim t (source_of c.args.polled)) (c.loop-self.invariant.phase t same was)

pub returns-then-unsent-ge-MAX_PDU-clause-goes : goal.returns-then-unsent-ge-MAX_PDU-clause-goes
returns-then-unsent-ge-MAX_PDU-clause-goes g c = λ turn.
    goes_then turn _ _ _ _ _ _ (c.loop-self.invariant.goes turn) (goes_by turn _ _ _ _ (Marked Full) c.push.ensures tt (let h = c.unsent.ensures in let k = c.if-unsent-ge-MAX_PDU.true in (search rules), refl))

pub loop-self-preserved : goal.loop-self-preserved
loop-self-preserved g c = record {
  held = search rules;
  on = search rules;
  link = search rules;
  turns = search rules;
  first = search rules;
  ends = search rules;
  phase = λ t same was. c.in_ok-decide_next.ensures.phase t (source_of c.args.polled) same (c.loop-self.invariant.phase t same was) ∙ ap (when_next (source_of c.args.polled)) c.in-Filled.is ∙ ended_of c.args.polled (sym c.has_end-ended.ensures ∙ c.if-not-ended-2.false);
  goes = λ turn. goes_then turn _ _ _ _ _ _ (c.loop-self.invariant.goes turn) (c.decide_next.ensures.goes turn);
}

pub loop-self-preserved-in-More : goal.loop-self-preserved-in-More
loop-self-preserved-in-More g c = record {
  held = search rules;
  on = search rules;
  link = search rules;
  turns = search rules;
  first = search rules;
  ends = search rules;
  phase = λ t same was. c.in_ok-decide_next.ensures.phase t (source_of c.args.polled) same (c.loop-self.invariant.phase t same was) ∙ ap (when_next (source_of c.args.polled)) c.in-More.is ∙ ap Deciding (more_of c.args.polled);
  goes = λ turn. goes_then turn _ _ _ _ _ _ (c.loop-self.invariant.goes turn) (c.decide_next.ensures.goes turn);
}

pub returns-in-Part-clause-phase : goal.returns-in-Part-clause-phase
returns-in-Part-clause-phase g c = λ t same was.
    c.in_ok-decide_next.ensures.phase t (source_of c.args.polled) same (c.loop-self.invariant.phase t same was) ∙ ap (when_next (source_of c.args.polled)) c.in-Part.is

pub returns-in_err-decide_next-clause-phase : goal.returns-in_err-decide_next-clause-phase
returns-in_err-decide_next-clause-phase g c = λ t same was.
    leads_err _ _ _ _ c.from_residual.ensures.0 c.from_residual.ensures.1 (c.in_err-decide_next.ensures.phase t (source_of c.args.polled) same (c.loop-self.invariant.phase t same was))
