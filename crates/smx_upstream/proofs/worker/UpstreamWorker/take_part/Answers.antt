use Rattle.std.proofs.Common.{false, refl, sym, ap, ◌∙◌, subst}
use Rattle.smx_session.specs.Moments.{is_bound}
use Rattle.smx_turns.specs.declared.gate.Point.TheVariants.{Taking}
use Rattle.smx_turns.specs.declared.step.Step.TheVariants.{Asked}
use Rattle.smx_upstream.specs.Phases.{Settled, MayTake, IsTurn, phase_of, when_may_take, quiet_end, filled_or, Refrained}
use Rattle.smx_upstream.specs.Quiet.{are_all_quiet}
use Rattle.smx_turns.proofs.Scenes.{scenes_same}
use Rattle.smx_upstream.proofs.Eventful.{goes_by, goes_then}
use Rattle.smx_upstream.proofs.Cells.{stepped, cell_taking, wanted, turn_err, waits_as, decided_so, refrained, ends_unbound}
use Rattle.smx_upstream.proofs.worker.UpstreamWorker.take_part.Goals as goal

pub returns-then-not-may-clause-goes : goal.returns-then-not-may-clause-goes
returns-then-not-may-clause-goes g c = λ queries. goes_by c.args.turn _ _ _ _ (Asked Taking c.ask-may.result) c.ask-may.ensures.log c.requires.few (scenes_same c.ask-may.ensures.asked c.ask-may.ensures.told refl (ap (λ w. w.events) (c.make_list.ensures.same ∙ c.make_room.ensures.same)) (ap (λ w. w.stand) (c.make_list.ensures.same ∙ c.make_room.ensures.same)) (ap (λ w. w.wire.unsent) (c.make_list.ensures.same ∙ c.make_room.ensures.same)) (ap (λ w. g.L.Link.offered w.wire.link) (c.make_list.ensures.same ∙ c.make_room.ensures.same)) (ap (λ w. g.L.Link.polls w.wire.link) (c.make_list.ensures.same ∙ c.make_room.ensures.same)) (ap (λ w. g.L.Link.failures w.wire.link) (c.make_list.ensures.same ∙ c.make_room.ensures.same)))

pub returns-then-not-bound-clause-goes : goal.returns-then-not-bound-clause-goes
returns-then-not-bound-clause-goes g c = λ queries. goes_by c.args.turn _ _ _ _ (Asked Taking c.ask-may.result) c.ask-may.ensures.log c.requires.few (scenes_same c.ask-may.ensures.asked c.ask-may.ensures.told refl (ap (λ w. w.events) (c.make_list.ensures.same ∙ c.make_room.ensures.same)) (ap (λ w. w.stand) (c.make_list.ensures.same ∙ c.make_room.ensures.same)) (ap (λ w. w.wire.unsent) (c.make_list.ensures.same ∙ c.make_room.ensures.same)) (ap (λ w. g.L.Link.offered w.wire.link) (c.make_list.ensures.same ∙ c.make_room.ensures.same)) (ap (λ w. g.L.Link.polls w.wire.link) (c.make_list.ensures.same ∙ c.make_room.ensures.same)) (ap (λ w. g.L.Link.failures w.wire.link) (c.make_list.ensures.same ∙ c.make_room.ensures.same)))

pub returns-clause-goes : goal.returns-clause-goes
returns-clause-goes g c = λ queries. goes_then c.args.turn _ _ _ _ _ _ (goes_by c.args.turn _ _ _ _ (Asked Taking c.ask-may.result) c.ask-may.ensures.log c.requires.few (scenes_same c.ask-may.ensures.asked c.ask-may.ensures.told refl (ap (λ w. w.events) (c.make_list.ensures.same ∙ c.make_room.ensures.same)) (ap (λ w. w.stand) (c.make_list.ensures.same ∙ c.make_room.ensures.same)) (ap (λ w. w.wire.unsent) (c.make_list.ensures.same ∙ c.make_room.ensures.same)) (ap (λ w. g.L.Link.offered w.wire.link) (c.make_list.ensures.same ∙ c.make_room.ensures.same)) (ap (λ w. g.L.Link.polls w.wire.link) (c.make_list.ensures.same ∙ c.make_room.ensures.same)) (ap (λ w. g.L.Link.failures w.wire.link) (c.make_list.ensures.same ∙ c.make_room.ensures.same)))) (c.take_on.ensures.goes c.args.turn _ _ queries)

pub returns-then-not-may-clause-phase : goal.returns-then-not-may-clause-phase
returns-then-not-may-clause-phase g c = λ t was.
    refrained _ _ c.args.filled _ _ (stepped t _ _ (Asked Taking c.ask-may.result) (Settled c.args.filled) _ c.ask-may.ensures.log (cell_taking t c.args.filled c.ask-may.result) was ∙ ap (when_may_take c.args.filled) c.if-not-may.true) c.filled_or.ensures

pub returns-then-not-may-clause-waits : goal.returns-then-not-may-clause-waits
returns-then-not-may-clause-waits g c = λ t was.
    waits_as _ (Refrained c.args.filled) _ _ (stepped t _ _ (Asked Taking c.ask-may.result) (Settled c.args.filled) _ c.ask-may.ensures.log (cell_taking t c.args.filled c.ask-may.result) was ∙ ap (when_may_take c.args.filled) c.if-not-may.true) tt

pub returns-then-not-bound-clause-phase : goal.returns-then-not-bound-clause-phase
returns-then-not-bound-clause-phase g c = λ t was.
    ends_unbound _ _ c.args.filled _ _ (stepped t _ _ (Asked Taking c.ask-may.result) (Settled c.args.filled) _ c.ask-may.ensures.log (cell_taking t c.args.filled c.ask-may.result) was ∙ ap (when_may_take c.args.filled) c.if-not-may.false) (ap (λ w. is_bound w.stand.session.state) (sym c.self.view_is) ∙ ap is_bound (sym c.state.ensures) ∙ sym c.is_bound-bound.ensures ∙ c.if-not-bound.true) (c.filled_or-then-not-bound.ensures ∙ ap (filled_or c.args.filled) (c.quiet_end.ensures ∙ ap quiet_end c.is_quiet.ensures))

pub returns-then-not-bound-clause-waits : goal.returns-then-not-bound-clause-waits
returns-then-not-bound-clause-waits g c = λ t was.
    waits_as _ (MayTake c.args.filled false) _ _ (stepped t _ _ (Asked Taking c.ask-may.result) (Settled c.args.filled) _ c.ask-may.ensures.log (cell_taking t c.args.filled c.ask-may.result) was ∙ ap (when_may_take c.args.filled) c.if-not-may.false) tt

pub returns-in_err-make_room-clause-phase : goal.returns-in_err-make_room-clause-phase
returns-in_err-make_room-clause-phase g c = λ t was.
    turn_err _ _ _ _ _ c.from_residual.ensures.0 c.from_residual.ensures.1 (wanted _ _ _ (Settled c.args.filled) c.in_err-make_room.ensures.err refl was tt)

pub returns-in_err-list-clause-phase : goal.returns-in_err-list-clause-phase
returns-in_err-list-clause-phase g c = λ t was.
    turn_err _ _ _ _ _ c.from_residual-in_err-list.ensures.0 c.from_residual-in_err-list.ensures.1 (wanted _ _ _ (Settled c.args.filled) c.in_err-list.ensures.err refl was tt)

pub returns-clause-phase : goal.returns-clause-phase
returns-clause-phase g c = λ t was.
    subst (λ b. IsTurn b (are_all_quiet c.take_on.new.log) c.take_on.result (phase_of t c.take_on.new.log))
    (sym (ap (λ w. is_bound w.stand.session.state) c.take_on.ensures.same ∙ ap (λ w. is_bound w.stand.session.state) (sym c.self.view_is) ∙ ap is_bound (sym c.state.ensures) ∙ sym c.is_bound-bound.ensures ∙ c.if-not-bound.false))
    (c.take_on.ensures.phase t (stepped t _ _ (Asked Taking c.ask-may.result) (Settled c.args.filled) _ c.ask-may.ensures.log (cell_taking t c.args.filled c.ask-may.result) was ∙ ap (when_may_take c.args.filled) c.if-not-may.false))

pub returns-clause-waits : goal.returns-clause-waits
returns-clause-waits g c = λ t was.
    c.take_on.ensures.waits t (stepped t _ _ (Asked Taking c.ask-may.result) (Settled c.args.filled) _ c.ask-may.ensures.log (cell_taking t c.args.filled c.ask-may.result) was ∙ ap (when_may_take c.args.filled) c.if-not-may.false)

pub returns-then-not-may-clause-decided : goal.returns-then-not-may-clause-decided
returns-then-not-may-clause-decided g c = λ t was.
    decided_so c.args.filled _ (Refrained c.args.filled) (stepped t _ _ (Asked Taking c.ask-may.result) (Settled c.args.filled) _ c.ask-may.ensures.log (cell_taking t c.args.filled c.ask-may.result) was ∙ ap (when_may_take c.args.filled) c.if-not-may.true) refl

pub returns-then-not-bound-clause-decided : goal.returns-then-not-bound-clause-decided
returns-then-not-bound-clause-decided g c = λ t was.
    decided_so c.args.filled _ (MayTake c.args.filled false) (stepped t _ _ (Asked Taking c.ask-may.result) (Settled c.args.filled) _ c.ask-may.ensures.log (cell_taking t c.args.filled c.ask-may.result) was ∙ ap (when_may_take c.args.filled) c.if-not-may.false) refl

pub returns-clause-decided : goal.returns-clause-decided
returns-clause-decided g c = λ t was.
    c.take_on.ensures.decided t (stepped t _ _ (Asked Taking c.ask-may.result) (Settled c.args.filled) _ c.ask-may.ensures.log (cell_taking t c.args.filled c.ask-may.result) was ∙ ap (when_may_take c.args.filled) c.if-not-may.false)
