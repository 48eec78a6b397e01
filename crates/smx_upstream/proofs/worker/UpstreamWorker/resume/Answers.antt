use Rattle.std.proofs.Common.{rules, ◌≡◌, List, None, Some, OnOk, slice_get, refl, sym, ap, ◌∙◌, subst, true}
use Rattle.smx_frame.specs.Stream.{HasNone}
use Rattle.smx_turns.specs.declared.step.Step.{Step}
use Rattle.smx_turns.specs.Endings.{ending_of}
use Rattle.smx_turns.proofs.Scenes.{changes_as}
use Rattle.smx_upstream.specs.declared.event.Event.{Event}
use Rattle.smx_upstream.specs.Working.{Working, Changes, scene_of, before_rest}
use Rattle.smx_upstream.specs.Events.{worth}
use Rattle.smx_upstream.specs.Judging.{AreJudged}
use Rattle.smx_upstream.specs.May.{May}
use Rattle.smx_upstream.specs.Phases.{Before, phase_of, is_all_decided, IsTurn, Waits}
use Rattle.smx_upstream.specs.Quiet.{are_all_quiet}
use Rattle.smx_upstream.specs.Standing.{Stand, Does}
use Rattle.smx_session.specs.Moments.{is_bound}
use Rattle.smx_upstream.proofs.Eventful.{goes_at, goes_first, lock_now, lock_then}
use Rattle.smx_upstream.proofs.Cells.{phase_none}
use Rattle.smx_upstream.proofs.Counts.{counted}
use Rattle.smx_upstream.proofs.Judgements.{judged_of, never_wrong}
use Rattle.smx_upstream.proofs.worker.UpstreamWorker.resume.Goals as goal

pub run_rest-end-requires-clause-lock : goal.run_rest-end-requires-clause-lock
run_rest-end-requires-clause-lock g c = lock_then _ _ _ c.self.view_is c.self.invariant c.requires.lock

pub run_rest-end-requires-clause-goes_on : goal.run_rest-end-requires-clause-goes_on
run_rest-end-requires-clause-goes_on g c = subst (λ (w : Working g.row.L.Denot). w.ending ≡ None) c.self.view_is
    (c.self.invariant.over ∙ ap (λ (w : Working g.row.L.Denot). ending_of worth w.events) c.self.view_is ∙ c.requires.goes_on)

pub returns-clause-order : goal.returns-clause-order
returns-clause-order g c = let t = before_rest c.args.now c.args.self.now in
    subst (λ (ss : List (Step Event)). IsTurn (is_bound c.self-2.inside.session.state) (are_all_quiet ss) c.run_rest-end.result (phase_of t ss)) (sym c.into_steps-self-inside.ensures)
    (subst (λ (w : Working g.row.L.Denot). IsTurn (is_bound w.stand.session.state) (are_all_quiet c.run_rest-end.new.log) c.run_rest-end.result (phase_of t c.run_rest-end.new.log)) (sym c.self-2.view_is)
    (c.run_rest-end.ensures.order t refl (phase_none t _ c.new-log.ensures)))

pub returns-clause-waits : goal.returns-clause-waits
returns-clause-waits g c = let t = before_rest c.args.now c.args.self.now in
    subst (λ (ss : List (Step Event)). OnOk c.run_rest-end.result (Waits (phase_of t ss) c.self-2.inside.wire.unsent c.self-2.inside.wire.rest)) (sym c.into_steps-self-inside.ensures)
    (subst (λ (w : Working g.row.L.Denot). OnOk c.run_rest-end.result (Waits (phase_of t c.run_rest-end.new.log) w.wire.unsent w.wire.rest)) (sym c.self-2.view_is)
    (c.run_rest-end.ensures.waits t refl (phase_none t _ c.new-log.ensures)))

pub returns-clause-whole : goal.returns-clause-whole
returns-clause-whole g c = let t = before_rest c.args.now c.args.self.now in
    subst (λ (ss : List (Step Event)). OnOk c.run_rest-end.result (is_all_decided (phase_of t ss) ≡ true → HasNone 65536 c.self-2.inside.wire.rest)) (sym c.into_steps-self-inside.ensures)
    (subst (λ (w : Working g.row.L.Denot). OnOk c.run_rest-end.result (is_all_decided (phase_of t c.run_rest-end.new.log) ≡ true → HasNone 65536 w.wire.rest)) (sym c.self-2.view_is)
    (c.run_rest-end.ensures.whole t refl (phase_none t _ c.new-log.ensures)))

pub returns-clause-changes : goal.returns-clause-changes
returns-clause-changes g c = changes_as Does worth May _ _ _ _ _ c.into_steps-self-inside.ensures
    (subst (λ (w : Working g.row.L.Denot). Changes w.stand.age.turns (scene_of g.L.Link.offered g.L.Link.polls g.L.Link.failures (g.G.Gate.asked c.args.gate.now) (g.G.Gate.told c.args.gate.now) (g.D.Directory.queries c.args.directory.now) c.args.self.now)
    c.run_rest-end.new.log (scene_of g.L.Link.offered g.L.Link.polls g.L.Link.failures (g.G.Gate.asked c.run_rest-end.new.gate) (g.G.Gate.told c.run_rest-end.new.gate) (g.D.Directory.queries c.run_rest-end.new.directory) w))
    (sym c.self-2.view_is) (goes_first _ _ _ _ _ c.new-log.ensures
    (goes_at c.self.inside.age.turns _ _ _ _ _ (let k = c.run_rest-end.ensures.kept.0 in let v = ap (λ w. w.stand.age.turns) c.self.view_is in (search rules)) c.run_rest-end.ensures.goes)))

pub returns-clause-judged : goal.returns-clause-judged
returns-clause-judged g c = let t = before_rest c.args.now c.args.self.now in
    subst (λ (ss : List (Step Event)). AreJudged ss) (sym c.into_steps-self-inside.ensures)
    (judged_of t c.run_rest-end.new.log refl (never_wrong (is_bound c.run_rest-end.new.self.stand.session.state) (are_all_quiet c.run_rest-end.new.log) c.run_rest-end.result _
    (c.run_rest-end.ensures.order t refl (phase_none t _ c.new-log.ensures))))

pub returns-clause-failures : goal.returns-clause-failures
returns-clause-failures g c = let t = before_rest c.args.now c.args.self.now in
    ap (λ (w : Working g.row.L.Denot). g.L.Link.failures w.wire.link) c.self-2.view_is
    ∙ counted t _ _ _ _ _ _ c.run_rest-end.new.log refl
    (c.run_rest-end.ensures.order t refl (phase_none t _ c.new-log.ensures))
    (goes_first _ _ _ _ _ c.new-log.ensures c.run_rest-end.ensures.goes)

pub returns-clause-lock : goal.returns-clause-lock
returns-clause-lock g c = lock_now _ _ _ c.self-2.view_is c.self-2.invariant
    (subst (λ (s : Stand). slice_get c.args.at.now s.tap.lane ≡ Some s.tap.front.lock) (sym c.run_rest-end.ensures.kept.1) (lock_then _ _ _ c.self.view_is c.self.invariant c.requires.lock))
