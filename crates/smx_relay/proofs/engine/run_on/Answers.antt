use Rattle.smx_relay.proofs.Standing.{nothing_written}
use Rattle.smx_relay.proofs.engine.run_on.Goals as goal

pub returns-in-Err-NoMemory : goal.returns-in-Err-NoMemory
returns-in-Err-NoMemory g c = nothing_written (g.R.Read.remaining c.args.reader.now) (g.W.Write.contents c.args.writer.now)
