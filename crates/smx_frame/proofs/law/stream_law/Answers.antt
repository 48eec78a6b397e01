use Rattle.smx_frame.proofs.Streams.{stream_law}
use Rattle.smx_frame.proofs.law.stream_law.Goals as goal

pub returns : goal.returns
returns c = stream_law
