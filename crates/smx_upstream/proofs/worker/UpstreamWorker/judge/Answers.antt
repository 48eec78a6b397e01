use Rattle.std.proofs.Common.{ap, ◌∙◌, sym, subst}
use Rattle.smx_frame.specs.Stream.{HasNone}
use Rattle.smx_upstream.specs.Phases.{when_part, when_judged, Drained, Gone}
use Rattle.smx_upstream.specs.Phases.Source.{Behind}
use Rattle.smx_upstream.proofs.Eventful.{goes_then}
use Rattle.smx_upstream.proofs.Cells.{early, ends_drained, ends_gone, waits_as}
use Rattle.smx_upstream.proofs.worker.UpstreamWorker.judge.Goals as goal

pub returns-in-End-clause-phase : goal.returns-in-End-clause-phase
returns-in-End-clause-phase g c = λ t was. early _ _ Drained (c.end_link.ensures.phase t (was ∙ ap (λ p. when_part (Behind p)) c.in-End.is)) ends_drained

pub returns-in-End-clause-waits : goal.returns-in-End-clause-waits
returns-in-End-clause-waits g c = λ t was. waits_as _ Drained _ _ (c.end_link.ensures.phase t (was ∙ ap (λ p. when_part (Behind p)) c.in-End.is)) (subst (HasNone 65536) (sym (ap (λ w. w.wire.rest) c.end_link.ensures.same)) c.requires.part)

pub returns-then-find_silent-clause-phase : goal.returns-then-find_silent-clause-phase
returns-then-find_silent-clause-phase g c = λ t was.
    early _ _ Gone (c.find_silent.ensures.phase t (was ∙ ap (λ p. when_part (Behind p)) c.in-Nothing.is) ∙ ap when_judged c.if-find_silent.true) ends_gone

pub returns-then-find_silent-clause-waits : goal.returns-then-find_silent-clause-waits
returns-then-find_silent-clause-waits g c = λ t was.
    waits_as _ Gone _ _ (c.find_silent.ensures.phase t (was ∙ ap (λ p. when_part (Behind p)) c.in-Nothing.is) ∙ ap when_judged c.if-find_silent.true) tt

pub returns-then-find_silent-clause-goes : goal.returns-then-find_silent-clause-goes
returns-then-find_silent-clause-goes g c = λ turn queries. (c.find_silent.ensures.goes turn (g.G.Gate.asked c.args.gate.now) (g.G.Gate.told c.args.gate.now) queries)

pub returns-in_err-expire-in-Nothing-clause-goes : goal.returns-in_err-expire-in-Nothing-clause-goes
returns-in_err-expire-in-Nothing-clause-goes g c = λ turn queries. goes_then turn _ _ _ _ _ _ (c.find_silent.ensures.goes turn (g.G.Gate.asked c.args.gate.now) (g.G.Gate.told c.args.gate.now) queries) (c.expire-in-Nothing.ensures.goes turn queries)

pub returns-in_ok-expire-in-Nothing-clause-goes : goal.returns-in_ok-expire-in-Nothing-clause-goes
returns-in_ok-expire-in-Nothing-clause-goes g c = λ turn queries. goes_then turn _ _ _ _ _ _ (c.find_silent.ensures.goes turn (g.G.Gate.asked c.args.gate.now) (g.G.Gate.told c.args.gate.now) queries) (c.expire-in-Nothing.ensures.goes turn queries)

pub returns-in-End-clause-goes : goal.returns-in-End-clause-goes
returns-in-End-clause-goes g c = λ turn queries. (c.end_link.ensures.goes turn (g.G.Gate.asked c.args.gate.now) (g.G.Gate.told c.args.gate.now) queries)
