use Rattle.std.proofs.Common.{◌≡◌, rules, arith, refl, sym, get_or}
use Rattle.smx_lines.specs.Relay.{history_on}
use Rattle.smx_lines.proofs.Lanes.{written_back}
use Rattle.smx_lines.proofs.StateTurns.{no_lane, history_some}
use Rattle.smx_lines.proofs.line.history.Goals as goal

pub returns-then-at-len : goal.returns-then-at-len
returns-then-at-len c = λ s a. no_lane c.args.state.now c.args.state.now s c.args.lane history_on a (omega arith)

pub returns : goal.returns
returns c = λ s a.
    let here : c.index.result.now ≡ get_or c.args.state.now.lanes.items c.args.lane c.index.result.now = search rules in
    history_some c.args.state.now c.args.state.now s c.args.lane c.index.result.now c.index.result.now.lane c.in_ok-history_on.field-0 a
    (record { within = omega arith; here = here; lanes = sym (written_back c.args.state.now.lanes.items c.args.lane c.index.result.now c.index.result.now here refl); clients = refl; keeps = record { limits = refl; count = refl; started = refl; accounts = refl; places = refl; routes = refl; moment = refl } }) c.in_ok-history_on.ensures
