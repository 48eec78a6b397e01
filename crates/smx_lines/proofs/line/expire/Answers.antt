use Rattle.std.proofs.Common.{arith, refl}
use Rattle.std.specs.Prelude.{Some, None}
use Rattle.smx_lines.proofs.StateTurns.{expire_turns, expires_nowhere, expires_on, lane_is}
use Rattle.smx_lines.proofs.line.expire.Goals as goal

pub returns-then-at-len : goal.returns-then-at-len
returns-then-at-len c = λ s a. expire_turns s c.args.lane c.args.age c.args.state.now None (expires_nowhere c.args.state.now c.args.state.now s c.args.lane c.args.age a (omega arith))

pub expire_on-requires : goal.expire_on-requires
expire_on-requires c =
    let x = lane_is c.args.state.now c.requires.0 c.args.lane c.index_mut.result.now c.requires.1 (omega arith) c.index_mut.ensures.value in
    (_, x.on.agrees)

pub returns : goal.returns
returns c = λ s a.
    expire_turns s c.args.lane c.args.age _ (Some c.in_ok-text.text)
    (expires_on c.args.state.now _ s c.args.lane c.args.age c.index_mut.result.now c.expire_on.new.lane c.in_ok-text.text a
    (record { within = omega arith; here = c.index_mut.ensures.value; lanes = refl; clients = refl; keeps = record { limits = refl; count = refl; started = refl; accounts = refl; places = refl; routes = refl; moment = refl } }) c.in_ok-text.ensures)
