use Rattle.std.proofs.Common.{◌++◌, ap, ◌∙◌}
use Rattle.std.proofs.Math.Logic.{∥∥₁_map}
use Rattle.smx_link.specs.Wiring.{spellings}
use Rattle.smx_upstream.proofs.Keeping.{runs_kept}
use Rattle.smx_upstream.proofs.Owed.{own}
use Rattle.smx_upstream.proofs.Binding.{none_passed}
use Rattle.smx_upstream.proofs.laws.law.Goals as goal

pub returns-clause-kept : goal.returns-clause-kept
returns-clause-kept g c = rw (← c.worker.view_is) (∥∥₁_map c.worker.invariant.runs (runs_kept _ _ _))

pub returns-clause-own_answers : goal.returns-clause-own_answers
returns-clause-own_answers g c = rw (← c.worker.view_is) (∥∥₁_map c.worker.invariant.runs (own _ _ _ c.worker.invariant.none_owed))

pub returns-clause-binding : goal.returns-clause-binding
returns-clause-binding g c = rw (← c.worker.view_is) (λ b. ∥∥₁_map c.worker.invariant.runs (λ r. none_passed _ _ _ c.worker.invariant.none_owed r b))

pub returns-clause-given : goal.returns-clause-given
returns-clause-given g c = rw (← c.worker.view_is)
    (c.law.ensures.hears ∙ ap (λ l. g.L.Link.given c.worker.inside.wire.start ++ (spellings l ++ c.worker.inside.wire.rest)) c.worker.invariant.heard)

pub returns-clause-taken : goal.returns-clause-taken
returns-clause-taken g c = rw (← c.worker.view_is)
    (c.law.ensures.says ∙ ap (λ l. g.L.Link.taken c.worker.inside.wire.start ++ spellings l) c.worker.invariant.said)

pub returns-clause-runs : goal.returns-clause-runs
returns-clause-runs g c = rw (← c.worker.view_is) c.worker.invariant.runs

pub returns-clause-broke : goal.returns-clause-broke
returns-clause-broke g c = rw (← c.worker.view_is) c.worker.invariant.broke

pub returns-clause-over : goal.returns-clause-over
returns-clause-over g c = rw (← c.worker.view_is) c.worker.invariant.over
