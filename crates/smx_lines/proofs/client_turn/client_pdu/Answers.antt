use Rattle.std.proofs.Common.{refl, ap, ◌∙◌, subst, Some}
use Rattle.std.specs.Vec.{with_item}
use Rattle.std.proofs.lemmas.Result.{IfOk-weaker}
use Rattle.smx_lines.specs.Relay.{with_link}
use Rattle.smx_lines.specs.ClientTurn.{decides}
use Rattle.smx_lines.specs.States.{TurnLeaves}
use Rattle.smx_lines.proofs.Links.{client_pdu_some, known_linked, link_is, linked, still_linked}
use Rattle.smx_lines.proofs.client_turn.client_pdu.Goals as goal

pub client_act-requires : goal.client_act-requires
client_act-requires c =
    let old = c.args.state.now in
    let k = c.known_mut-known.result.now in
    let after = c.decide.new.self in
    let mid = record old { clients = record { list = with_item old.clients.list c.args.client (Some (record k { link = after })) } } in
    record {
      reached = still_linked old mid c.args.client k after c.requires.reached (record { here = c.known_mut-known.ensures.value; clients = refl; lanes = refl; keeps = record { limits = refl; count = refl; started = refl; accounts = refl; places = refl; routes = refl; moment = refl } });
      known = known_linked old mid c.args.client c.args.client k after (record { here = c.known_mut-known.ensures.value; clients = refl; lanes = refl; keeps = record { limits = refl; count = refl; started = refl; accounts = refl; places = refl; routes = refl; moment = refl } }) c.requires.known;
    }

pub returns : goal.returns
returns c = λ s a.
    let old = c.args.state.now in
    let k = c.known_mut-known.result.now in
    let after = c.decide.new.self in
    let accounts = c.deref.ensures.value ∙ a.routes.accounts_are in
    let at = link_is old s c.args.client k a c.known_mut-known.ensures.value in
    let same = client_pdu_some s c.args.client c.args.pdu k.link after c.in_ok-act.act at (c.in_ok-act.ensures.act ∙ ap (λ ls. (decides ls k.link.session c.args.pdu).0) accounts)
    (c.in_ok-act.ensures.link ∙ ap (λ ls. record k.link { session = (decides ls k.link.session c.args.pdu).1 }) accounts) in
    let mid = record old { clients = record { list = with_item old.clients.list c.args.client (Some (record k { link = after })) } } in
    let here = linked old mid s c.args.client k after a (record { here = c.known_mut-known.ensures.value; clients = refl; lanes = refl; keeps = record { limits = refl; count = refl; started = refl; accounts = refl; places = refl; routes = refl; moment = refl } }) in
    IfOk-weaker c.client_act.result _ _ (λ text t. subst (λ x. TurnLeaves x c.client_act.new.state text.items) same t) (c.client_act.ensures (with_link s c.args.client after) here)
