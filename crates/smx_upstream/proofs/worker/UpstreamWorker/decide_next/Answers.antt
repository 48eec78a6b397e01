use Rattle.std.proofs.Common.{◌≡◌, false, is_some, rules, ap, ◌∙◌}
use Rattle.smx_upstream.specs.Phases.{when_front, when_next, unless_spent}
use Rattle.smx_upstream.specs.Working.{scene_of}
use Rattle.smx_upstream.proofs.Eventful.{goes_then, goes_from}
use Rattle.smx_upstream.proofs.worker.UpstreamWorker.decide_next.Goals as goal

pub returns-in-Part-clause-goes : goal.returns-in-Part-clause-goes
returns-in-Part-clause-goes g c = λ turn. (goes_from turn _ _ _ _ _ (ap (λ w. scene_of g.L.Link.offered g.L.Link.polls g.L.Link.failures (g.G.Gate.asked c.args.gate.now) (g.G.Gate.told c.args.gate.now) (g.D.Directory.queries c.args.directory.now) w) c.make_room.ensures.same) (c.fetch.ensures.goes turn (g.G.Gate.asked c.args.gate.now) (g.G.Gate.told c.args.gate.now) (g.D.Directory.queries c.args.directory.now)))

pub returns-in-Broken-clause-goes : goal.returns-in-Broken-clause-goes
returns-in-Broken-clause-goes g c = λ turn. (goes_from turn _ _ _ _ _ (ap (λ w. scene_of g.L.Link.offered g.L.Link.polls g.L.Link.failures (g.G.Gate.asked c.args.gate.now) (g.G.Gate.told c.args.gate.now) (g.D.Directory.queries c.args.directory.now) w) c.make_room.ensures.same) (c.fetch.ensures.goes turn (g.G.Gate.asked c.args.gate.now) (g.G.Gate.told c.args.gate.now) (g.D.Directory.queries c.args.directory.now)))

pub returns-clause-goes : goal.returns-clause-goes
returns-clause-goes g c = λ turn. goes_then turn _ _ _ _ _ _ (goes_from turn _ _ _ _ _ (ap (λ w. scene_of g.L.Link.offered g.L.Link.polls g.L.Link.failures (g.G.Gate.asked c.args.gate.now) (g.G.Gate.told c.args.gate.now) (g.D.Directory.queries c.args.directory.now) w) c.make_room.ensures.same) (c.fetch.ensures.goes turn (g.G.Gate.asked c.args.gate.now) (g.G.Gate.told c.args.gate.now) (g.D.Directory.queries c.args.directory.now))) (goes_from turn _ _ _ _ _ (ap (λ w. scene_of g.L.Link.offered g.L.Link.polls g.L.Link.failures (g.G.Gate.asked c.args.gate.now) (g.G.Gate.told c.args.gate.now) (g.D.Directory.queries c.args.directory.now) w) c.lists_to_bring.ensures.same) (c.decide-next.ensures.goes turn))

pub returns-then-is_some-clause-goes : goal.returns-then-is_some-clause-goes
returns-then-is_some-clause-goes g c = λ turn. goes_then turn _ _ _ _ _ _ (goes_from turn _ _ _ _ _ (ap (λ w. scene_of g.L.Link.offered g.L.Link.polls g.L.Link.failures (g.G.Gate.asked c.args.gate.now) (g.G.Gate.told c.args.gate.now) (g.D.Directory.queries c.args.directory.now) w) c.make_room.ensures.same) (c.fetch.ensures.goes turn (g.G.Gate.asked c.args.gate.now) (g.G.Gate.told c.args.gate.now) (g.D.Directory.queries c.args.directory.now))) (goes_from turn _ _ _ _ _ (ap (λ w. scene_of g.L.Link.offered g.L.Link.polls g.L.Link.failures (g.G.Gate.asked c.args.gate.now) (g.G.Gate.told c.args.gate.now) (g.D.Directory.queries c.args.directory.now) w) c.lists_to_bring.ensures.same) (c.decide-next.ensures.goes turn))

pub returns-clause-phase : goal.returns-clause-phase
returns-clause-phase g c = λ t ended same was.
    let none : is_some c.decide-next.new.self.held ≡ false = let h = c.is_some.ensures in let k = c.if-is_some.false in search rules in
    c.decide-next.ensures.phase t ended same (c.in_ok-fetch.ensures.phase t ended was ∙ ap (when_front ended) c.in-Whole.is)
    ∙ ap (λ b. unless_spent b (when_next ended c.decide-next.result)) none

pub returns-in-Err-clause-phase : goal.returns-in-Err-clause-phase
returns-in-Err-clause-phase g c = λ t source same was. c.in-Err.ensures.phase t source same (c.in_ok-fetch.ensures.phase t source was ∙ ap (when_front source) c.in-Whole.is)

pub returns-in-Ok-clause-phase : goal.returns-in-Ok-clause-phase
returns-in-Ok-clause-phase g c = λ t source same was. c.in-Ok.ensures.phase t source same (c.in_ok-fetch.ensures.phase t source was ∙ ap (when_front source) c.in-Whole.is)

pub returns-in-Err-clause-goes : goal.returns-in-Err-clause-goes
returns-in-Err-clause-goes g c = λ turn. goes_then turn _ _ _ _ _ _ (goes_from turn _ _ _ _ _ (ap (λ w. scene_of g.L.Link.offered g.L.Link.polls g.L.Link.failures (g.G.Gate.asked c.args.gate.now) (g.G.Gate.told c.args.gate.now) (g.D.Directory.queries c.args.directory.now) w) c.make_room.ensures.same) (c.fetch.ensures.goes turn (g.G.Gate.asked c.args.gate.now) (g.G.Gate.told c.args.gate.now) (g.D.Directory.queries c.args.directory.now))) (goes_from turn _ _ _ _ _ (ap (λ w. scene_of g.L.Link.offered g.L.Link.polls g.L.Link.failures (g.G.Gate.asked c.args.gate.now) (g.G.Gate.told c.args.gate.now) (g.D.Directory.queries c.args.directory.now) w) c.lists_to_bring.ensures.same) (c.bring.ensures.goes turn (g.D.Directory.queries c.args.directory.now)))

pub returns-in-Ok-clause-goes : goal.returns-in-Ok-clause-goes
returns-in-Ok-clause-goes g c = λ turn. goes_then turn _ _ _ _ _ _ (goes_from turn _ _ _ _ _ (ap (λ w. scene_of g.L.Link.offered g.L.Link.polls g.L.Link.failures (g.G.Gate.asked c.args.gate.now) (g.G.Gate.told c.args.gate.now) (g.D.Directory.queries c.args.directory.now) w) c.make_room.ensures.same) (c.fetch.ensures.goes turn (g.G.Gate.asked c.args.gate.now) (g.G.Gate.told c.args.gate.now) (g.D.Directory.queries c.args.directory.now))) (goes_from turn _ _ _ _ _ (ap (λ w. scene_of g.L.Link.offered g.L.Link.polls g.L.Link.failures (g.G.Gate.asked c.args.gate.now) (g.G.Gate.told c.args.gate.now) (g.D.Directory.queries c.args.directory.now) w) c.lists_to_bring.ensures.same) (c.bring.ensures.goes turn (g.D.Directory.queries c.args.directory.now)))
