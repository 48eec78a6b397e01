use Rattle.std.proofs.Common.{◌<◌, ℕ, List, length, false, Ok, sym, ap, ◌∙◌, subst, Some}
use Rattle.smx_upstream.specs.Phases.{when_progress}
use Rattle.smx_upstream.specs.Phases.Source.{Behind}
use Rattle.smx_upstream.proofs.Eventful.{goes_then}
use Rattle.smx_upstream.proofs.Cells.{halts, filled_few}
use Rattle.smx_upstream.proofs.worker.UpstreamWorker.read_on.Goals as goal

pub returns-in_err-polled-clause-goes : goal.returns-in_err-polled-clause-goes
returns-in_err-polled-clause-goes g c = λ turn. (c.read.ensures.goes turn _ _ _)

pub returns-in_err-progress-clause-goes : goal.returns-in_err-progress-clause-goes
returns-in_err-progress-clause-goes g c = λ turn. (goes_then turn _ _ _ _ _ _ (c.read.ensures.goes turn _ _ _) (c.decide_all.ensures.goes turn))

pub returns-in-Part-clause-goes : goal.returns-in-Part-clause-goes
returns-in-Part-clause-goes g c = λ turn.
    (goes_then turn _ _ _ _ _ _ (goes_then turn _ _ _ _ _ _ (c.read.ensures.goes turn _ _ _) (c.decide_all.ensures.goes turn)) (c.judge.ensures.goes turn _))

pub returns-in_default-clause-goes : goal.returns-in_default-clause-goes
returns-in_default-clause-goes g c = λ turn.
    (goes_then turn _ _ _ _ _ _ (goes_then turn _ _ _ _ _ _ (c.read.ensures.goes turn _ _ _) (c.decide_all.ensures.goes turn)) (c.halt.ensures.goes turn _))

pub returns-in-Part-clause-phase : goal.returns-in-Part-clause-phase
returns-in-Part-clause-phase g c = λ t same was.
    c.judge.ensures.phase t (c.in_ok-progress.ensures.phase t same (c.in_ok-polled.ensures.phase t was) ∙ ap (when_progress (Behind c.in_ok-polled.polled)) c.in-Part.is)

pub returns-in-Part-clause-waits : goal.returns-in-Part-clause-waits
returns-in-Part-clause-waits g c = λ t same was.
    c.judge.ensures.waits t (c.in_ok-progress.ensures.phase t same (c.in_ok-polled.ensures.phase t was) ∙ ap (when_progress (Behind c.in_ok-polled.polled)) c.in-Part.is)

pub returns-in_default-clause-phase : goal.returns-in_default-clause-phase
returns-in_default-clause-phase g c = λ t same was.
    c.halt.ensures.phase t (c.in_ok-progress.ensures.phase t same (c.in_ok-polled.ensures.phase t was)
    ∙ halts (Some c.in_ok-polled.polled) c.in_ok-progress.progress c.in_default.not-Part (λ e. (c.in_ok-progress.ensures.filled (ap Ok e)).0) (λ e. (c.in_ok-progress.ensures.brimming (ap Ok e)).0))

pub returns-in_default-clause-waits : goal.returns-in_default-clause-waits
returns-in_default-clause-waits g c = λ t same was.
    c.halt.ensures.waits t (c.in_ok-progress.ensures.phase t same (c.in_ok-polled.ensures.phase t was)
    ∙ halts (Some c.in_ok-polled.polled) c.in_ok-progress.progress c.in_default.not-Part (λ e. (c.in_ok-progress.ensures.filled (ap Ok e)).0) (λ e. (c.in_ok-progress.ensures.brimming (ap Ok e)).0))

pub returns-in_default-clause-whole : goal.returns-in_default-clause-whole
returns-in_default-clause-whole g c = λ e. absurd (c.in_default.not-Part (c.halt.ensures.filled false e).0)

pub returns-in_default-clause-few : goal.returns-in_default-clause-few
returns-in_default-clause-few g c = λ filled e.
    let goes = c.halt.ensures.filled filled e in
    subst (λ (l : List ℕ). length l < 65536) (sym goes.1) (filled_few _ filled _ c.in_default.not-Part (λ f. (c.in_ok-progress.ensures.filled (ap Ok f)).1) goes.0)
