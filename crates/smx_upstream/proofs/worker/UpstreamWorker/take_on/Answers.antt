use Rattle.std.proofs.Common.{rules, sym, ap, ◌∙◌, ◌<◌, length, subst, true, Ok}
use Rattle.smx_upstream.specs.Working.{scene_of}
use Rattle.smx_upstream.specs.Phases.{when_taken}
use Rattle.smx_upstream.proofs.Eventful.{goes_then, goes_to}
use Rattle.smx_upstream.proofs.Cells.{turn_err}
use Rattle.smx_upstream.proofs.Growing.{left_to_take, takes_end}
use Rattle.smx_upstream.proofs.worker.UpstreamWorker.take_on.Goals as goal

pub returns-in_err-make_room-clause-goes : goal.returns-in_err-make_room-clause-goes
returns-in_err-make_room-clause-goes g c = λ turn asked told queries.
    goes_to turn _ _ _ _ _ (ap (λ w. scene_of g.L.Link.offered g.L.Link.polls g.L.Link.failures asked told queries w) c.make_room.ensures.same) (c.loop-more.invariant.goes turn asked told queries)

pub returns-in_err-list-clause-goes : goal.returns-in_err-list-clause-goes
returns-in_err-list-clause-goes g c = λ turn asked told queries.
    goes_to turn _ _ _ _ _ (ap (λ w. scene_of g.L.Link.offered g.L.Link.polls g.L.Link.failures asked told queries w) (c.make_list.ensures.same ∙ c.make_room.ensures.same)) (c.loop-more.invariant.goes turn asked told queries)

pub returns-in_err-more-2-clause-goes : goal.returns-in_err-more-2-clause-goes
returns-in_err-more-2-clause-goes g c = λ turn asked told queries.
    goes_then turn _ _ _ _ _ _ (goes_to turn _ _ _ _ _ (ap (λ w. scene_of g.L.Link.offered g.L.Link.polls g.L.Link.failures asked told queries w) (c.make_list.ensures.same ∙ c.make_room.ensures.same)) (c.loop-more.invariant.goes turn asked told queries)) (c.take_some-in-loop-more.ensures.goes turn asked told queries)

pub returns-in_err-more-2-clause-phase : goal.returns-in_err-more-2-clause-phase
returns-in_err-more-2-clause-phase g c = λ t was.
    turn_err _ _ _ _ _ c.from_residual-in_err-more-2.ensures.0 c.from_residual-in_err-more-2.ensures.1 (c.in_err-more-2.ensures.phase t c.args.filled true (c.loop-more.invariant.phase t was ∙ ap (when_taken c.args.filled) c.loop-more-test.true))

pub loop-more-smaller : goal.loop-more-smaller
loop-more-smaller g c =
    let few : length c.loop-more.self.wire.unsent < 65536 = (let h = c.unsent.ensures in let k = c.if-unsent-ge-MAX_PDU.false in (search rules)) in
    subst (λ b. left_to_take c.in_ok-more-2.more c.take_some-in-loop-more.new.self.wire.unsent < left_to_take b c.loop-more.self.wire.unsent) (sym c.loop-more-test.true)
    (takes_end c.in_ok-more-2.more _ _ few (λ so. subst (λ us. length us < length c.take_some-in-loop-more.new.self.wire.unsent) (ap (λ w. w.wire.unsent) (c.make_list.ensures.same ∙ c.make_room.ensures.same)) (c.take_some-in-loop-more.ensures.more (c.in_ok-more-2.was ∙ ap Ok so))))

pub loop-more-preserved : goal.loop-more-preserved
loop-more-preserved g c = record {
  phase = λ t was. c.in_ok-more-2.ensures.phase t c.args.filled true (c.loop-more.invariant.phase t was ∙ ap (when_taken c.args.filled) c.loop-more-test.true);
  goes = λ turn asked told queries. goes_then turn _ _ _ _ _ _ (goes_to turn _ _ _ _ _ (ap (λ w. scene_of g.L.Link.offered g.L.Link.polls g.L.Link.failures asked told queries w) (c.make_list.ensures.same ∙ c.make_room.ensures.same)) (c.loop-more.invariant.goes turn asked told queries)) (c.take_some-in-loop-more.ensures.goes turn asked told queries);
  same = search rules;
}
