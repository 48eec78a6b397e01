use Rattle.std.proofs.Common.{rules, ◌≡◌, List, Some, slice_get, sym, ap, ◌∙◌, subst, OnOk}
use Rattle.smx_turns.specs.declared.step.Step.{Step}
use Rattle.smx_upstream.specs.declared.event.Event.{Event}
use Rattle.smx_upstream.specs.Working.{Working, Changes, scene_of}
use Rattle.smx_turns.proofs.Scenes.{changes_as}
use Rattle.smx_upstream.proofs.Eventful.{goes_at, goes_first, lock_now, lock_then}
use Rattle.smx_upstream.specs.Events.{worth}
use Rattle.smx_upstream.specs.May.{May}
use Rattle.smx_upstream.specs.Phases.{phase_of, IsTurn, Waits}
use Rattle.smx_upstream.specs.Quiet.{are_all_quiet}
use Rattle.smx_upstream.specs.Standing.{Stand, Does}
use Rattle.smx_session.specs.Moments.{is_bound}
use Rattle.smx_upstream.proofs.Cells.{phase_none}
use Rattle.smx_upstream.proofs.worker.UpstreamWorker.take_between.Goals as goal

pub returns-clause-changes : goal.returns-clause-changes
returns-clause-changes g c = λ queries. changes_as Does worth May _ _ _ _ _ c.into_steps-self-inside.ensures
    (subst (λ (w : Working g.row.L.Denot). Changes w.stand.age.turns (scene_of g.L.Link.offered g.L.Link.polls g.L.Link.failures (g.G.Gate.asked c.args.gate.now) (g.G.Gate.told c.args.gate.now) queries c.args.self.now)
    c.take_part-end.new.log (scene_of g.L.Link.offered g.L.Link.polls g.L.Link.failures (g.G.Gate.asked c.take_part-end.new.gate) (g.G.Gate.told c.take_part-end.new.gate) queries w))
    (sym c.self-2.view_is) (goes_first _ _ _ _ _ c.new-log.ensures
    (goes_at c.self.inside.age.turns _ _ _ _ _ (let k = c.take_part-end.ensures.kept.3 in let v = ap (λ w. w.stand.age.turns) c.self.view_is in (search rules)) (c.take_part-end.ensures.goes queries))))

pub returns-clause-order : goal.returns-clause-order
returns-clause-order g c = λ t first.
    subst (λ (ss : List (Step Event)). IsTurn (is_bound c.self-2.inside.session.state) (are_all_quiet ss) c.take_part-end.result (phase_of t ss)) (sym c.into_steps-self-inside.ensures)
    (subst (λ (w : Working g.row.L.Denot). IsTurn (is_bound w.stand.session.state) (are_all_quiet c.take_part-end.new.log) c.take_part-end.result (phase_of t c.take_part-end.new.log)) (sym c.self-2.view_is)
    (c.take_part-end.ensures.phase t (phase_none t _ c.new-log.ensures ∙ first)))

pub returns-clause-waits : goal.returns-clause-waits
returns-clause-waits g c = λ t first.
    subst (λ (ss : List (Step Event)). OnOk c.take_part-end.result (Waits (phase_of t ss) c.self-2.inside.wire.unsent c.self-2.inside.wire.rest)) (sym c.into_steps-self-inside.ensures)
    (subst (λ (w : Working g.row.L.Denot). OnOk c.take_part-end.result (Waits (phase_of t c.take_part-end.new.log) w.wire.unsent w.wire.rest)) (sym c.self-2.view_is)
    (c.take_part-end.ensures.waits t (phase_none t _ c.new-log.ensures ∙ first)))

pub take_part-end-requires-clause-lock : goal.take_part-end-requires-clause-lock
take_part-end-requires-clause-lock g c = lock_then _ _ _ c.self.view_is c.self.invariant c.requires.lock

pub returns-clause-lock : goal.returns-clause-lock
returns-clause-lock g c = lock_now _ _ _ c.self-2.view_is c.self-2.invariant
    (subst (λ (s : Stand). slice_get c.args.at.now s.tap.lane ≡ Some s.tap.front.lock) (sym c.take_part-end.ensures.kept.4) (lock_then _ _ _ c.self.view_is c.self.invariant c.requires.lock))
