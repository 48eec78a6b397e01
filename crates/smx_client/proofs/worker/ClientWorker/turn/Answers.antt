use Rattle.std.proofs.Common.{◌≡◌, refl, sym, subst, OnOk, None, true}
use Rattle.smx_frame.specs.Stream.{HasNone}
use Rattle.smx_client.specs.Scenes.{before, scene_of}
use Rattle.smx_client.specs.Serving.{Serving}
use Rattle.smx_client.specs.Table.{phase_of, Stands}
use Rattle.smx_client.specs.Events.{worth}
use Rattle.smx_client.specs.Parts.{Does}
use Rattle.smx_client.specs.Turns.{May, Changes}
use Rattle.smx_client.proofs.Cells.{phase_first}
use Rattle.smx_turns.proofs.Scenes.{nothing_yet, changes_as}
use Rattle.smx_client.proofs.Settling.{reads_settled}
use Rattle.smx_turns.proofs.Filters.{all_asks, all_tells, all_events, all_runs, all_polls, all_faults}
use Rattle.smx_client.proofs.Filters.{offered_first, is_begun, is_right, ends_as, stands_as}
use Rattle.smx_client.proofs.worker.ClientWorker.turn.Goals as goal

pub returns-clause-changes : goal.returns-clause-changes
returns-clause-changes g c = changes_as Does worth May _ _ _ _ _ c.into_steps-self-inside.ensures
    (subst (λ (w : Serving g.row.L.Denot). Changes c.after-turn.result (scene_of g.L.Link.offered g.L.Link.polls g.L.Link.failures (g.G.Gate.asked c.args.gate.now) (g.G.Gate.told c.args.gate.now) (g.D.Directory.queries c.args.directory.now) c.args.self.now)
    c.run_turn-end.new.log (scene_of g.L.Link.offered g.L.Link.polls g.L.Link.failures (g.G.Gate.asked c.run_turn-end.new.gate) (g.G.Gate.told c.run_turn-end.new.gate) (g.D.Directory.queries c.run_turn-end.new.directory) w))
    (sym c.self-2.view_is) (c.run_turn-end.ensures.leads _ (nothing_yet Does worth May _ _ _ c.new-log.ensures)))

pub returns-clause-order : goal.returns-clause-order
returns-clause-order g c = ends_as _ _ _ _ c.into_steps-self-inside.ensures (c.run_turn-end.ensures.phase _ refl (phase_first _ _ c.new-log.ensures)).0

pub returns-clause-stands : goal.returns-clause-stands
returns-clause-stands g c = stands_as _ _ _ _ _ _ _ _ _ _ c.into_steps-self-inside.ensures
    (subst (λ (w : Serving g.row.L.Denot). OnOk c.run_turn-end.result (Stands (phase_of (before c.args.now c.args.self.now) c.run_turn-end.new.log) w.wire.unsent w.wire.rest w.held w.parked w.settled w.stage))
    (sym c.self-2.view_is) (c.run_turn-end.ensures.phase _ refl (phase_first _ _ c.new-log.ensures)).1)

pub returns-clause-settled : goal.returns-clause-settled
returns-clause-settled g c = λ some.
    subst (λ (w : Serving g.row.L.Denot). w.settled ≡ true → (w.held ≡ None) × HasNone 65536 w.wire.rest) c.self.view_is c.self.invariant.settled
    (reads_settled _ _ _ _ (returns-clause-order g c) some)

pub returns-clause-asks : goal.returns-clause-asks
returns-clause-asks g c = all_asks Does worth May _ _ _ _ (returns-clause-changes g c)

pub returns-clause-told : goal.returns-clause-told
returns-clause-told g c = all_tells Does worth May _ _ _ _ (returns-clause-changes g c)

pub returns-clause-events : goal.returns-clause-events
returns-clause-events g c = all_events Does worth May _ _ _ _ (returns-clause-changes g c)

pub returns-clause-runs : goal.returns-clause-runs
returns-clause-runs g c = all_runs Does worth May _ _ _ _ (returns-clause-changes g c)

pub returns-clause-reads : goal.returns-clause-reads
returns-clause-reads g c = all_polls Does worth May _ _ _ _ (returns-clause-changes g c)

pub returns-clause-failures : goal.returns-clause-failures
returns-clause-failures g c = all_faults Does worth May _ _ _ _ (returns-clause-changes g c)

pub returns-clause-offered : goal.returns-clause-offered
returns-clause-offered g c =
    let ends = returns-clause-order g c in
    offered_first _ _ _ _ _ (is_begun _ _ _ ends) (is_right _ _ _ ends) (returns-clause-changes g c)
