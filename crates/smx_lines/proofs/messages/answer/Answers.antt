use Rattle.std.proofs.Common.{refl, Some}
use Rattle.std.specs.Vec.{with_item}
use Rattle.std.proofs.lemmas.Result.{IfOk-weaker}
use Rattle.smx_lines.proofs.Messaging.{answer_dropped, answer_passed}
use Rattle.smx_lines.proofs.messages.answer.Goals as goal

pub returns-in-Some : goal.returns-in-Some
returns-in-Some c = λ s a.
    let old = c.args.state.now in
    let k = c.known_mut.result.now in
    let after = c.settle.new.self in
    let new = record old { clients = record { list = with_item old.clients.list c.args.client (Some (record k { link = after })) } } in
    let r = c.in-Some.ensures.some in
    IfOk-weaker c.up_line.result _ _ (λ text e. answer_passed old new s c.args.client c.args.pdu k after r.0 c.in-Some.lane c.in-Some.number text.items a r.1 (record { here = c.known_mut.ensures.value; clients = refl; lanes = refl; keeps = record { limits = refl; count = refl; started = refl; accounts = refl; places = refl; routes = refl; moment = refl } }) r.4 r.2 r.3 e) c.up_line.ensures

pub returns-in-None : goal.returns-in-None
returns-in-None c = λ s a.
    let old = c.args.state.now in
    let k = c.known_mut.result.now in
    let after = c.settle.new.self in
    let new = record old { clients = record { list = with_item old.clients.list c.args.client (Some (record k { link = after })) } } in
    answer_dropped old new s c.args.client c.args.pdu k after _ a c.in-None.ensures.none.0 (record { here = c.known_mut.ensures.value; clients = refl; lanes = refl; keeps = record { limits = refl; count = refl; started = refl; accounts = refl; places = refl; routes = refl; moment = refl } }) c.in-None.ensures.none.1 c.new.ensures.items
