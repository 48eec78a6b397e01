use Rattle.std.proofs.Common.{arith, refl}
use Rattle.smx_lines.proofs.GivingUp.{lowers}
use Rattle.smx_lines.proofs.LinkTurns.{lowered_at}
use Rattle.smx_lines.proofs.lane_link.lower.Goals as goal

pub returns-clause-agrees : goal.returns-clause-agrees
returns-clause-agrees c = λ s a.
    lowered_at c.args.state.now _ s c.args.lane c.index_mut.result.now c.down-was_down.new.self a
    (record { within = omega arith; here = c.index_mut.ensures.value; lanes = refl; clients = refl; keeps = record { limits = refl; count = refl; started = refl; accounts = refl; places = refl; routes = refl; moment = refl } })
    (lowers c.index_mut.result.now.lane c.down-was_down.new.self c.down-was_down.result c.down-was_down.ensures.reply c.down-was_down.ensures.agrees c.down-was_down.ensures.err) c.down-was_down.ensures.limits
