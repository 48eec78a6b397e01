use Rattle.std.proofs.Common.{refl, sym, ◌∙◌}
use Rattle.std.proofs.lemmas.List.{append-nil}
use Rattle.smx_upstream.specs.declared.event.Event.TheVariants.{GaveUp}
use Rattle.smx_upstream.specs.declared.event.GivenUp.{GivenUp}
use Rattle.smx_turns.proofs.Breaking.{stays_bad}
use Rattle.smx_upstream.proofs.Eventful.{did, goes_on}
use Rattle.smx_upstream.proofs.Surrender.{gave_all, gave_does, gave_settled}
use Rattle.smx_upstream.proofs.Telling.{gave_count, gave_told}
use Rattle.smx_upstream.proofs.worker.UpstreamWorker.give_up.Goals as goal

pub invariant_of-self : goal.invariant_of-self
invariant_of-self g c =
    let given : GivenUp = record { lane = c.lane-lane.result; now = c.args.now; lost = c.of.result; between = c.of-between.result; abandoned = c.of-2.result } in
    did _ _ (GaveUp given) c.self.invariant c.and-self-inside.ensures refl refl (sym (append-nil _)) refl
    (gave_does _ _ c.lose-lost.new.tap c.lose-lost.result c.give_up_queued-abandoned.result given c.lane-lane.ensures c.of.ensures c.of-between.ensures c.of-2.ensures
    c.lose-lost.ensures.loses c.give_up_queued-abandoned.ensures.rounds (c.give_up_queued-abandoned.ensures.lock.0 ∙ c.lose-lost.ensures.lock.0) refl)
    c.self.invariant.goes_on (goes_on c.self.inside.ending) (stays_bad refl refl refl) refl
    (c.give_up_queued-abandoned.ensures.lock.0 ∙ c.lose-lost.ensures.lock.0, c.give_up_queued-abandoned.ensures.lock.1 ∙ c.lose-lost.ensures.lock.1)

pub returns-clause-event : goal.returns-clause-event
returns-clause-event g c = rw (← c.self.view_is)
    (let given : GivenUp = record { lane = c.lane-lane.result; now = c.args.now; lost = c.of.result; between = c.of-between.result; abandoned = c.of-2.result } in (
      given,
      c.and-self-inside.ensures,
      gave_does _ _ c.lose-lost.new.tap c.lose-lost.result c.give_up_queued-abandoned.result given c.lane-lane.ensures c.of.ensures c.of-between.ensures c.of-2.ensures
          c.lose-lost.ensures.loses c.give_up_queued-abandoned.ensures.rounds (c.give_up_queued-abandoned.ensures.lock.0 ∙ c.lose-lost.ensures.lock.0) refl,
    ))

pub returns-clause-told : goal.returns-clause-told
returns-clause-told g c = rw (← c.self.view_is)
    (let given : GivenUp = record { lane = c.lane-lane.result; now = c.args.now; lost = c.of.result; between = c.of-between.result; abandoned = c.of-2.result } in (
      given,
      c.and-self-inside.ensures,
      gave_told given c.lose-lost.result c.give_up_queued-abandoned.result _ _ _ _ _ c.lane-lane.ensures c.lose-lost.ensures.lock.0 c.of.ensures c.of-2.ensures
          c.lose-lost.ensures.told c.give_up_queued-abandoned.ensures.told,
    ))

pub returns-clause-count : goal.returns-clause-count
returns-clause-count g c = rw (← c.self.view_is)
    (let given : GivenUp = record { lane = c.lane-lane.result; now = c.args.now; lost = c.of.result; between = c.of-between.result; abandoned = c.of-2.result } in (
      given,
      c.and-self-inside.ensures,
      gave_count given c.lose-lost.result c.give_up_queued-abandoned.result _ _ c.lane-lane.ensures c.lose-lost.ensures.lock.0 c.of.ensures c.of-2.ensures
          c.lose-lost.ensures.count c.give_up_queued-abandoned.ensures.count,
    ))

pub returns-clause-all : goal.returns-clause-all
returns-clause-all g c = rw (← c.self.view_is)
    (let given : GivenUp = record { lane = c.lane-lane.result; now = c.args.now; lost = c.of.result; between = c.of-between.result; abandoned = c.of-2.result } in
    (given, c.and-self-inside.ensures, gave_all c.lose-lost.result given c.of.ensures c.lose-lost.ensures.count c.lose-lost.ensures.all))

pub returns-clause-settled : goal.returns-clause-settled
returns-clause-settled g c = rw (← c.self.view_is)
    (let given : GivenUp = record { lane = c.lane-lane.result; now = c.args.now; lost = c.of.result; between = c.of-between.result; abandoned = c.of-2.result } in
    (given, c.and-self-inside.ensures, gave_settled _ c.lose-lost.new.tap c.give_up_queued-abandoned.result given c.of-between.ensures c.of-2.ensures c.give_up_queued-abandoned.ensures.settled))

pub returns-clause-moment : goal.returns-clause-moment
returns-clause-moment g c = rw (← c.self.view_is)
    (let given : GivenUp = record { lane = c.lane-lane.result; now = c.args.now; lost = c.of.result; between = c.of-between.result; abandoned = c.of-2.result } in
    (given, c.and-self-inside.ensures, refl))
