use Rattle.std.proofs.Common.{arith, refl}
use Rattle.smx_lines.proofs.StateTurns.{lane_is}
use Rattle.smx_lines.proofs.LinkTurns.{gave_up_at}
use Rattle.smx_lines.proofs.lane_link.give_up.Goals as goal

pub give_up_on-requires : goal.give_up_on-requires
give_up_on-requires c =
    let x = lane_is c.args.state.now c.requires.reached.0 c.args.lane c.index_mut.result.now c.requires.reached.1 (omega arith) c.index_mut.ensures.value in
    (_, x.on.agrees)

pub returns : goal.returns
returns c = λ s a.
    gave_up_at c.args.state.now _ s c.args.lane c.index_mut.result.now c.give_up_on.new.lane a
    (record { within = omega arith; here = c.index_mut.ensures.value; lanes = refl; clients = refl; keeps = record { limits = refl; count = refl; started = refl; accounts = refl; places = refl; routes = refl; moment = refl } })
    c.give_up_on.ensures.agrees c.give_up_on.ensures.limits
