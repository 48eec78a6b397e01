use Rattle.std.proofs.Common.{arith, refl}
use Rattle.smx_lines.proofs.StateTurns.{backs}
use Rattle.smx_lines.proofs.centre_turn.back.Goals as goal

pub returns-clause-turned : goal.returns-clause-turned
returns-clause-turned c = λ s a. backs c.args.state.now _ s c.args.lane c.args.response c.index_mut.result.now c.back_on.new.lane c.back_on.result a
    (record { within = omega arith; here = c.index_mut.ensures.value; lanes = refl; clients = refl; keeps = record { limits = refl; count = refl; started = refl; accounts = refl; places = refl; routes = refl; moment = refl } }) c.back_on.ensures
