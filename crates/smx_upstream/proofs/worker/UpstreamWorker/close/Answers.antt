use Rattle.std.proofs.Common.{◌++◌, ap, ◌∙◌}
use Rattle.smx_upstream.specs.Events.{lost_tells}
use Rattle.smx_upstream.proofs.worker.UpstreamWorker.close.Goals as goal

pub returns-clause-told : goal.returns-clause-told
returns-clause-told g c = c.lose-lost.ensures.told ∙ ap (λ w. g.G.Gate.told c.args.gate.now ++ lost_tells w.stand.tap.lane c.lose-lost.result) c.self.view_is
