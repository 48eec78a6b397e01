use Rattle.std.proofs.Common.{refl, sym, ◌∙◌, Some, None}
use Rattle.smx_lines.proofs.ClientTurns.{client_same}
use Rattle.smx_lines.proofs.Routing.{route_unknown, route_unbound, route_long, route_known, route_added}
use Rattle.smx_lines.proofs.messages.route.Goals as goal

pub returns-in_default : goal.returns-in_default
returns-in_default c = λ s a. route_unknown s c.args.client c.args.prefix.now c.args.state.now (client_same c.args.state.now s c.args.client None a c.in_default.ensures.none)

pub returns-then-not-may_receive : goal.returns-then-not-may_receive
returns-then-not-may_receive c = λ s a.
    let known = client_same c.args.state.now s c.args.client (Some c.in-Some.known.now) a c.in-Some.ensures.some in
    route_unbound s c.args.client c.args.prefix.now c.in-Some.known.now c.args.state.now known (sym c.may_receive.ensures ∙ c.if-not-may_receive.true)

pub returns-in-Ok : goal.returns-in-Ok
returns-in-Ok c = λ s a.
    let old = c.args.state.now in
    let new = record old { routes = c.insert.new.self } in
    let known = client_same old s c.args.client (Some c.in-Some.known.now) a c.in-Some.ensures.some in
    route_added old new s c.args.client c.args.prefix.now c.in-Some.known.now _ a known (sym c.may_receive.ensures ∙ c.if-not-may_receive.false)
    (record { fresh = c.in-Ok.ensures.reply; added = c.in-Ok.ensures.ok; lanes = refl; clients = refl; keeps = record { limits = refl; count = refl; started = refl; accounts = refl; places = refl; routes = refl; moment = refl } }) c.new.ensures.items

pub returns-in-Err-TooLong : goal.returns-in-Err-TooLong
returns-in-Err-TooLong c = λ s a.
    let known = client_same c.args.state.now s c.args.client (Some c.in-Some.known.now) a c.in-Some.ensures.some in
    route_long s c.args.client c.args.prefix.now c.in-Some.known.now _ known (rw c.in-Err-TooLong.field-0-is at c.in-Err-TooLong.ensures.reply)

pub returns-in-Err-Known : goal.returns-in-Err-Known
returns-in-Err-Known c = λ s a.
    let known = client_same c.args.state.now s c.args.client (Some c.in-Some.known.now) a c.in-Some.ensures.some in
    let fault = rw c.in-Err-Known.field-0-is at c.in-Err-Known.ensures.reply in
    route_known s c.args.client c.args.prefix.now c.in-Some.known.now c.args.state.now.routes _ known a.routes.routes_are fault.1
