use Rattle.std.proofs.Common.{arith, refl, rules}
use Rattle.std.proofs.Math.ListN.{length-set}
use Rattle.std.specs.Vec.{with_item}
use Rattle.smx_lines.proofs.LinkTurns.{bound_nowhere, bind_anew, bind_up, bind_taken, bind_full, lane_untouched}
use Rattle.smx_lines.proofs.lane_link.bind.Goals as goal

pub returns-then-at-len : goal.returns-then-at-len
returns-then-at-len c = λ s a. bound_nowhere c.args.state.now c.args.state.now s c.args.lane a (omega arith)

pub returns-in_ok-bound_line-in-Ok : goal.returns-in_ok-bound_line-in-Ok
returns-in_ok-bound_line-in-Ok c = λ s a.
    bind_anew c.args.state.now (record c.args.state.now { lanes = with_item c.args.state.now.lanes c.args.lane (record c.index_mut.result.now { lane = c.up.new.self }) }) _ s c.args.lane c.index_mut.result.now c.index_mut-in-Ok.result.now c.up.new.self c.in_ok-link-in-Ok.link c.in_ok-bound_line-in-Ok.field-0 a
    (record { within = omega arith; here = c.index_mut.ensures.value; lanes = refl; clients = refl; keeps = record { limits = refl; count = refl; started = refl; accounts = refl; places = refl; routes = refl; moment = refl } })
    c.in-Ok.ensures.reply c.in-Ok.ensures.agrees c.up.ensures.limits
    (record { within = omega (arith, length-set c.args.state.now.lanes.items c.args.lane (record c.index_mut.result.now { lane = c.up.new.self })); here = search rules; lanes = refl; clients = refl; keeps = record { limits = refl; count = refl; started = refl; accounts = refl; places = refl; routes = refl; moment = refl } }) (search rules) (search rules)

pub returns-in_ok-bound_line-in-Err-AlreadyUp : goal.returns-in_ok-bound_line-in-Err-AlreadyUp
returns-in_ok-bound_line-in-Err-AlreadyUp c = λ s a.
    bind_up c.args.state.now _ s c.args.lane c.index_mut.result.now c.in_ok-bound_line-in-Err-AlreadyUp.field-0 a
    (lane_untouched c.args.state.now _ s c.args.lane c.index_mut.result.now c.up.new.self a
    (record { within = omega arith; here = c.index_mut.ensures.value; lanes = refl; clients = refl; keeps = record { limits = refl; count = refl; started = refl; accounts = refl; places = refl; routes = refl; moment = refl } }) c.in-Err-AlreadyUp.ensures.err)
    (omega arith) c.index_mut.ensures.value (rw c.in-Err-AlreadyUp.field-0-is at c.in-Err-AlreadyUp.ensures.reply) (search rules)

pub returns-in_ok-unbound_line-in-Err-WindowNotEmpty : goal.returns-in_ok-unbound_line-in-Err-WindowNotEmpty
returns-in_ok-unbound_line-in-Err-WindowNotEmpty c = λ s a.
    bind_taken c.args.state.now _ s c.args.lane c.index_mut.result.now c.in_ok-unbound_line-in-Err-WindowNotEmpty.field-0 a
    (lane_untouched c.args.state.now _ s c.args.lane c.index_mut.result.now c.up.new.self a
    (record { within = omega arith; here = c.index_mut.ensures.value; lanes = refl; clients = refl; keeps = record { limits = refl; count = refl; started = refl; accounts = refl; places = refl; routes = refl; moment = refl } }) c.in-Err-WindowNotEmpty.ensures.err)
    (omega arith) c.index_mut.ensures.value (rw c.in-Err-WindowNotEmpty.field-0-is at c.in-Err-WindowNotEmpty.ensures.reply) (search rules)

pub returns-in_ok-unbound_line-in-Err-HistoryFull : goal.returns-in_ok-unbound_line-in-Err-HistoryFull
returns-in_ok-unbound_line-in-Err-HistoryFull c = λ s a.
    bind_full c.args.state.now _ s c.args.lane c.index_mut.result.now c.in_ok-unbound_line-in-Err-HistoryFull.field-0 a
    (lane_untouched c.args.state.now _ s c.args.lane c.index_mut.result.now c.up.new.self a
    (record { within = omega arith; here = c.index_mut.ensures.value; lanes = refl; clients = refl; keeps = record { limits = refl; count = refl; started = refl; accounts = refl; places = refl; routes = refl; moment = refl } }) c.in-Err-HistoryFull.ensures.err)
    (omega arith) c.index_mut.ensures.value (rw c.in-Err-HistoryFull.field-0-is at c.in-Err-HistoryFull.ensures.reply) (search rules)
