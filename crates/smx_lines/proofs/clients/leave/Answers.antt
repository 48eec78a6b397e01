use Rattle.std.proofs.Common.{refl, rules, Some}
use Rattle.std.specs.Vec.{with_item}
use Rattle.std.proofs.lemmas.Result.{IfOk-weaker}
use Rattle.smx_lines.proofs.Links.{left_by_all}
use Rattle.smx_lines.proofs.Messaging.{leave_emptied}
use Rattle.smx_lines.proofs.clients.leave.Goals as goal

pub returns : goal.returns
returns c = λ s a.
    let old = c.args.state.now in
    let mid = record old { lanes = c.leave_all.new.lanes; routes = c.remove.new.self } in
    let k = c.known_mut.result.now in
    let after = c.empty.new.self in
    let new = record mid { clients = record { list = with_item old.clients.list c.args.client (Some (record k { link = after })) } } in
    let here = left_by_all old mid s c.args.client a c.leave_all.ensures (record { limits = refl; count = refl; started = refl; accounts = refl; places = refl; routes = refl; moment = refl }) refl c.remove.ensures in
    IfOk-weaker c.left_lines.result _ _ (λ text e. leave_emptied old mid new s c.args.client k after c.in_ok-messages.messages.items text.items a here refl (record { here = c.known_mut.ensures.value; clients = refl; lanes = refl; keeps = record { limits = refl; count = refl; started = refl; accounts = refl; places = refl; routes = refl; moment = refl } }) c.in_ok-messages.ensures.after c.in_ok-messages.ensures.ok e) (search rules)
