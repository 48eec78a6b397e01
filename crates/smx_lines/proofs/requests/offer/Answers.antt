use Rattle.std.proofs.Common.{◌≡◌, ◌∙◌, ap, rules, refl, ◌++◌, codes, Some}
use Rattle.std.specs.Fmt.{decimal}
use Rattle.smx_lines.specs.Texts.{text_line}
use Rattle.std.proofs.lemmas.Result.{IfOk-weaker}
use Rattle.smx_lines.proofs.Offering.{lanes_may_accept, offered_some, offered_none}
use Rattle.std.specs.Vec.{with_item}
use Rattle.smx_lines.specs.declared.state.LinkedClient.{LinkedClient}
use Rattle.smx_lines.proofs.KnownClients.{known_from, one_client}
use Rattle.smx_lines.proofs.requests.offer.Goals as goal

pub accept_in_ring-requires : goal.accept_in_ring-requires
accept_in_ring-requires c = record { own = lanes_may_accept c.args.state.now c.requires.reached.0 c.args.request.client c.args.last c.args.request.ordinal c.requires.known.0 c.requires.reached.1 c.requires.known.1 c.requires.known.2 c.requires.next }

pub known_mut-requires : goal.known_mut-requires
known_mut-requires c = known_from c.args.state.now.clients.list.items c.args.request.client c.requires.known.0 c.requires.known.1

pub returns-in-Some : goal.returns-in-Some
returns-in-Some c = λ s a.
    let w = c.in-Some.ensures.accepted in
    let old = c.args.state.now in
    let k = c.known_mut.result.now in
    let new = record old { lanes = c.accept_in_ring.new.lanes; clients = record { list = with_item old.clients.list c.args.request.client (Some (record k { last = c.args.request.ordinal })) } } in
    let last_is = ap (λ (x : LinkedClient). x.last) (one_client _ k c.requires.known.0 c.known_mut.ensures.value c.requires.known.1) ∙ c.requires.known.2 in
    IfOk-weaker c.accepted_line.result (λ line. line.items ≡ text_line (codes "accepted " ++ (decimal c.args.request.client ++ (codes " " ++ decimal c.in-Some.at)))) _ (λ text e. offered_some old new s c.args.last c.in-Some.at c.args.request k w.0 w.1 text.items a c.requires.next
    (record { known = c.known_mut.ensures.value; last_is = last_is; found = search rules; here = w.2; lanes = w.3; limits_kept = w.4; goes = w.5; clients = refl; keeps = record { limits = refl; count = refl; started = refl; accounts = refl; places = refl; routes = refl; moment = refl } }) e) c.accepted_line.ensures

pub returns : goal.returns
returns c = λ s a. IfOk-weaker c.to_line.result _ _ (λ text e. offered_none c.args.state.now _ s c.args.last c.args.request c.refusal_of-refusal.result text.items a (search rules) (search rules) refl (record { limits = refl; count = refl; started = refl; accounts = refl; places = refl; routes = refl; moment = refl }) (search rules) e) c.to_line.ensures
