use Rattle.std.proofs.Common.{refl, Some}
use Rattle.std.specs.Vec.{with_item}
use Rattle.std.proofs.lemmas.Result.{IfOk-weaker}
use Rattle.smx_lines.specs.Relay.{with_link}
use Rattle.smx_lines.specs.ClientTurn.{client_end}
use Rattle.smx_lines.proofs.Turning.{turned_nothing}
use Rattle.smx_lines.proofs.Links.{client_ended, known_linked, link_is, linked, still_linked}
use Rattle.smx_lines.proofs.client_turn.client_end.Goals as goal

pub returns-then-not-has_failed : goal.returns-then-not-has_failed
unfolding client_end
returns-then-not-has_failed c = λ s a. rw c.if-not-has_failed.true (turned_nothing c.args.state.now s _ a c.new.ensures.items)

pub hang_up-requires : goal.hang_up-requires
hang_up-requires c =
    let old = c.args.state.now in
    let k = c.known_mut.result.now in
    let after = c.end-answer.new.self in
    let mid = record old { clients = record { list = with_item old.clients.list c.args.client (Some (record k { link = after })) } } in
    record {
      reached = still_linked old mid c.args.client k after c.requires.reached (record { here = c.known_mut.ensures.value; clients = refl; lanes = refl; keeps = record { limits = refl; count = refl; started = refl; accounts = refl; places = refl; routes = refl; moment = refl } });
      known = known_linked old mid c.args.client c.args.client k after (record { here = c.known_mut.ensures.value; clients = refl; lanes = refl; keeps = record { limits = refl; count = refl; started = refl; accounts = refl; places = refl; routes = refl; moment = refl } }) c.requires.known;
    }

pub returns : goal.returns
returns c = λ s a.
    let old = c.args.state.now in
    let k = c.known_mut.result.now in
    let after = c.end-answer.new.self in
    let mid = record old { clients = record { list = with_item old.clients.list c.args.client (Some (record k { link = after })) } } in
    let at = link_is old s c.args.client k a c.known_mut.ensures.value in
    let here = linked old mid s c.args.client k after a (record { here = c.known_mut.ensures.value; clients = refl; lanes = refl; keeps = record { limits = refl; count = refl; started = refl; accounts = refl; places = refl; routes = refl; moment = refl } }) in
    rw c.if-not-has_failed.false (IfOk-weaker c.hang_up.result _ _ (λ text t. client_ended c.hang_up.new.state s c.args.client k.link after c.end-answer.result text.items at c.end-answer.ensures.link c.end-answer.ensures.answer t) (c.hang_up.ensures (with_link s c.args.client after) here))
