use Rattle.std.proofs.Common.{◌≡◌, refl, subst, Some}
use Rattle.std.specs.Vec.{with_item}
use Rattle.std.proofs.lemmas.Result.{IfOk-weaker}
use Rattle.smx_pdu.specs.declared.status.TheConstants.{ESME_RMSGQFUL}
use Rattle.smx_mailbox.specs.declared.message.Message.{Message}
use Rattle.smx_pdu.specs.Answers.{refusal}
use Rattle.smx_lines.specs.Texts.{pdu_line, up_lane}
use Rattle.smx_lines.proofs.Messaging.{put_there, put_full}
use Rattle.smx_lines.proofs.messages.put.Goals as goal

pub returns-in-Ok-clause-turned : goal.returns-in-Ok-clause-turned
returns-in-Ok-clause-turned c = λ s a.
    let old = c.args.state.now in
    let k = c.known_mut.result.now in
    let after = c.put.new.self in
    let new = record old { clients = record { list = with_item old.clients.list c.args.client (Some (record k { link = after })) } } in
    let room = rw c.in-Ok.is at c.in_ok-put.ensures.ok in
    IfOk-weaker c.message_line.result _ _ (λ text e. put_there old new s c.args.lane c.args.pdu c.args.client k after text.items a room.0 (record { here = c.known_mut.ensures.value; clients = refl; lanes = refl; keeps = record { limits = refl; count = refl; started = refl; accounts = refl; places = refl; routes = refl; moment = refl } }) room.1 e) c.message_line.ensures

pub returns-in-Err-clause-turned : goal.returns-in-Err-clause-turned
returns-in-Err-clause-turned c = λ s a.
    let old = c.args.state.now in
    let k = c.known_mut.result.now in
    let after = c.put.new.self in
    let new = record old { clients = record { list = with_item old.clients.list c.args.client (Some (record k { link = after })) } } in
    let back = rw c.in-Err.is at c.in_ok-put.ensures.full in
    IfOk-weaker c.refuse.result _ _ (λ text e. put_full old new s c.args.lane c.args.pdu c.args.client k after text.items a back.0 (record { here = c.known_mut.ensures.value; clients = refl; lanes = refl; keeps = record { limits = refl; count = refl; started = refl; accounts = refl; places = refl; routes = refl; moment = refl } }) back.2
    (subst (λ (m : Message). text.items ≡ pdu_line (up_lane c.args.lane) (refusal m.pdu.command ESME_RMSGQFUL m.pdu.number)) back.1 e)) c.refuse.ensures
