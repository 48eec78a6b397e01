use Rattle.std.proofs.Common.{refl, rules, Some}
use Rattle.std.specs.Vec.{with_item}
use Rattle.std.proofs.lemmas.Result.{IfOk-weaker}
use Rattle.smx_lines.proofs.Messaging.{send_some}
use Rattle.smx_lines.proofs.messages.send.Goals as goal

pub returns : goal.returns
returns c = λ s a.
    let old = c.args.state.now in
    let k = c.known_mut.result.now in
    let after = c.send.new.self in
    let new = record old { clients = record { list = with_item old.clients.list c.args.client (Some (record k { link = after })) } } in
    IfOk-weaker c.sent_lines.result _ _ (λ text e. send_some old new s c.args.client k after c.in_ok-pdus.pdus.items text.items a (record { here = c.known_mut.ensures.value; clients = refl; lanes = refl; keeps = record { limits = refl; count = refl; started = refl; accounts = refl; places = refl; routes = refl; moment = refl } }) c.in_ok-pdus.ensures.after c.in_ok-pdus.ensures.ok e) (search rules)
