use Rattle.smx_upstream.proofs.worker.UpstreamWorker.halt.Goals as goal

pub returns-in_err-left-clause-goes : goal.returns-in_err-left-clause-goes
returns-in_err-left-clause-goes g c = λ turn queries. c.offer.ensures.goes turn (g.G.Gate.asked c.args.gate.now) (g.G.Gate.told c.args.gate.now) queries

pub returns-in-Over-clause-goes : goal.returns-in-Over-clause-goes
returns-in-Over-clause-goes g c = λ turn queries. c.offer.ensures.goes turn (g.G.Gate.asked c.args.gate.now) (g.G.Gate.told c.args.gate.now) queries
