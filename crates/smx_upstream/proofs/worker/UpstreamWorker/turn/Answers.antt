use Rattle.std.proofs.Common.{◌≡◌, List, ◌++◌, Some, slice_get, refl, sym, ap, ◌∙◌, subst}
use mathlib.Core.List.{IsPrefix}
use Rattle.smx_upstream.specs.Working.{Working, Changes, scene_of}
use Rattle.smx_turns.proofs.Scenes.{changes_as}
use Rattle.smx_upstream.proofs.Eventful.{goes_first, lock_now, lock_then}
use Rattle.smx_upstream.specs.Events.{worth}
use Rattle.smx_upstream.specs.May.{May}
use Rattle.smx_upstream.specs.Standing.{Stand, Does}
use Rattle.smx_session.specs.Moments.{is_bound}
use Rattle.smx_upstream.specs.Quiet.{are_all_quiet}
use Rattle.smx_upstream.specs.Judging.{AreJudged}
use Rattle.smx_upstream.specs.Working.{before_turn}
use Rattle.smx_turns.specs.declared.step.Step.{Step}
use Rattle.smx_upstream.specs.declared.event.Event.{Event}
use Rattle.smx_upstream.proofs.Cells.{phase_none}
use Rattle.smx_upstream.proofs.Counts.{counted, offered_first}
use Rattle.smx_upstream.proofs.Judgements.{judged_of, never_wrong}
use Rattle.smx_upstream.proofs.worker.UpstreamWorker.turn.Goals as goal

pub run_turn-end-requires-clause-opening : goal.run_turn-end-requires-clause-opening
run_turn-end-requires-clause-opening g c = phase_none _ _ c.new-log.ensures

pub returns-clause-changes : goal.returns-clause-changes
returns-clause-changes g c = changes_as Does worth May _ _ _ _ _ c.into_steps-self-inside.ensures
    (subst (λ (w : Working g.row.L.Denot). Changes w.stand.age.turns (scene_of g.L.Link.offered g.L.Link.polls g.L.Link.failures (g.G.Gate.asked c.args.gate.now) (g.G.Gate.told c.args.gate.now) (g.D.Directory.queries c.args.directory.now) c.args.self.now)
    c.run_turn-end.new.log (scene_of g.L.Link.offered g.L.Link.polls g.L.Link.failures (g.G.Gate.asked c.run_turn-end.new.gate) (g.G.Gate.told c.run_turn-end.new.gate) (g.D.Directory.queries c.run_turn-end.new.directory) w))
    (sym c.self-2.view_is) (goes_first _ _ _ _ _ c.new-log.ensures c.run_turn-end.ensures.goes))

pub returns-clause-judged : goal.returns-clause-judged
returns-clause-judged g c =
    subst (λ (ss : List (Step Event)). AreJudged ss) (sym c.into_steps-self-inside.ensures)
    (judged_of (before_turn c.args.now c.args.self.now) c.run_turn-end.new.log refl (never_wrong (is_bound c.run_turn-end.new.self.stand.session.state) (are_all_quiet c.run_turn-end.new.log) c.run_turn-end.result _ c.run_turn-end.ensures.order))

pub returns-clause-failures : goal.returns-clause-failures
returns-clause-failures g c = ap (λ (w : Working g.row.L.Denot). g.L.Link.failures w.wire.link) c.self-2.view_is
    ∙ counted (before_turn c.args.now c.args.self.now) _ _ _ _ _ _ c.run_turn-end.new.log refl c.run_turn-end.ensures.order (goes_first _ _ _ _ _ c.new-log.ensures c.run_turn-end.ensures.goes)

pub returns-clause-offered : goal.returns-clause-offered
returns-clause-offered g c =
    subst (λ (w : Working g.row.L.Denot). IsPrefix (g.L.Link.offered c.args.self.now.wire.link ++ c.args.self.now.wire.unsent) (g.L.Link.offered w.wire.link)) (sym c.self-2.view_is)
    (offered_first (before_turn c.args.now c.args.self.now) _ refl _ _ _ _ _ c.run_turn-end.new.log c.run_turn-end.ensures.order (goes_first _ _ _ _ _ c.new-log.ensures c.run_turn-end.ensures.goes))

pub run_turn-end-requires-clause-lock : goal.run_turn-end-requires-clause-lock
run_turn-end-requires-clause-lock g c = lock_then _ _ _ c.self.view_is c.self.invariant c.requires.lock

pub returns-clause-lock : goal.returns-clause-lock
returns-clause-lock g c = lock_now _ _ _ c.self-2.view_is c.self-2.invariant
    (subst (λ (s : Stand). slice_get c.args.at.now s.tap.lane ≡ Some s.tap.front.lock) (sym c.run_turn-end.ensures.kept.0) (lock_then _ _ _ c.self.view_is c.self.invariant c.requires.lock))
