use Rattle.std.proofs.Common.{arith, refl}
use Rattle.smx_lines.specs.Relay.{turn_on}
use Rattle.smx_lines.proofs.StateTurns.{no_lane, turn_some}
use Rattle.smx_lines.proofs.line.turn.Goals as goal

pub returns-then-at-len : goal.returns-then-at-len
returns-then-at-len c = λ s a. no_lane c.args.state.now c.args.state.now s c.args.lane (turn_on c.args.lane) a (omega arith)

pub returns : goal.returns
returns c = λ s a.
    turn_some c.args.state.now _ s c.args.lane c.index_mut.result.now c.turn_on.new.lane c.in_ok-turn_on.field-0 a
    (record { within = omega arith; here = c.index_mut.ensures.value; lanes = refl; clients = refl; keeps = record { limits = refl; count = refl; started = refl; accounts = refl; places = refl; routes = refl; moment = refl } }) c.in_ok-turn_on.ensures
