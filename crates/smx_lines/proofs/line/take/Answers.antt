use Rattle.std.proofs.Common.{arith, refl}
use Rattle.std.specs.Prelude.{Some, None}
use Rattle.smx_lines.proofs.StateTurns.{take_turns, takes_none, takes_some}
use Rattle.smx_lines.proofs.line.take.Goals as goal

pub returns-then-at-len : goal.returns-then-at-len
returns-then-at-len c = λ s a. take_turns s c.args.lane c.args.state.now None (takes_none c.args.state.now c.args.state.now s c.args.lane a (omega arith))

pub returns : goal.returns
returns c = λ s a.
    take_turns s c.args.lane _ (Some c.in_ok-text.text)
    (takes_some c.args.state.now _ s c.args.lane c.index_mut.result.now c.take_on.new.lane c.in_ok-text.text a
    (record { within = omega arith; here = c.index_mut.ensures.value; lanes = refl; clients = refl; keeps = record { limits = refl; count = refl; started = refl; accounts = refl; places = refl; routes = refl; moment = refl } }) c.in_ok-text.ensures)
