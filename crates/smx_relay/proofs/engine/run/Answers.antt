use Rattle.smx_relay.proofs.Standing.{nothing_written}
use Rattle.smx_relay.proofs.engine.run.Goals as goal

pub returns-in-Err : goal.returns-in-Err
returns-in-Err g c = nothing_written (g.R.Read.remaining c.args.reader.now) (g.W.Write.contents c.args.writer.now)
