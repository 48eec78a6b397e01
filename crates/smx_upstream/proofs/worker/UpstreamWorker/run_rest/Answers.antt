use Rattle.smx_upstream.proofs.Eventful.{goes_then}
use Rattle.smx_upstream.proofs.worker.UpstreamWorker.run_rest.Goals as goal

pub returns-in-Ok-Goes-clause-goes : goal.returns-in-Ok-Goes-clause-goes
returns-in-Ok-Goes-clause-goes g c = goes_then _ _ _ _ _ _ _ c.read_part.ensures.goes (c.take_part.ensures.goes _)
