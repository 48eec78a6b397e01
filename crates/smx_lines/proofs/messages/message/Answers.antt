use Rattle.std.proofs.Common.{rules, Some, None}
use Rattle.std.proofs.lemmas.Result.{IfOk-weaker}
use Rattle.smx_lines.proofs.Messaging.{message_read, message_unread, put_refused, routed_known}
use Rattle.smx_lines.proofs.messages.message.Goals as goal

pub put-requires : goal.put-requires
put-requires c = routed_known c.args.state.now c.requires.0 c.in-Ok.address.now c.in-Some.client c.requires.1 c.in-Some.ensures

pub returns-in-Err-clause-turned : goal.returns-in-Err-clause-turned
returns-in-Err-clause-turned c = λ s a. IfOk-weaker c.refuse.result _ _ (λ text e. message_unread s c.args.lane c.args.pdu c.in-Err.field-0 c.args.state.now text.items (search rules) a e) c.refuse.ensures

pub returns-in-Some-clause-turned : goal.returns-in-Some-clause-turned
returns-in-Some-clause-turned c = λ s a. IfOk-weaker c.put.result _ _ (λ text t. message_read s c.args.lane c.args.pdu c.in-Ok.address.now c.args.state.now.routes (Some c.in-Some.client) c.put.new.state text.items (search rules) c.in-Some.ensures a.routes.routes_are t) (c.put.ensures.turned s a)

pub returns-in-None-clause-turned : goal.returns-in-None-clause-turned
returns-in-None-clause-turned c = λ s a. IfOk-weaker c.refuse-in-None.result _ _ (λ text e.
    message_read s c.args.lane c.args.pdu c.in-Ok.address.now c.args.state.now.routes None c.args.state.now text.items (search rules) c.in-None.ensures a.routes.routes_are (put_refused s c.args.lane c.args.pdu c.args.state.now text.items a e)) c.refuse-in-None.ensures
