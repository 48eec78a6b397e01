use Rattle.std.proofs.Common.{refl, rules, Some, None}
use Rattle.std.specs.Vec.{with_item}
use Rattle.smx_lines.specs.Relay.{with_link}
use Rattle.smx_lines.specs.ClientTurn.{client_pdu, each_pdu}
use Rattle.smx_lines.proofs.ClientTurns.{client_same}
use Rattle.smx_lines.proofs.KnownClients.{known_from, none_found, some_found, still_known}
use Rattle.smx_lines.proofs.Links.{known_linked, link_untouched, still_linked}
use Rattle.smx_lines.proofs.InTurns.{in_unknown, in_closed, in_open, streamed, in_turns}
use Rattle.smx_lines.proofs.client_turn.receive_in.Goals as goal

pub returns-then-is_none : goal.returns-then-is_none
returns-then-is_none c = λ s a.
    let old = c.args.state.now in
    let none = none_found c.get.result old.clients.list.items c.args.client (search rules) c.get.ensures.none in
    in_unknown s c.args.client c.args.octets.now old (client_same old s c.args.client None a none)

pub known_mut-requires : goal.known_mut-requires
known_mut-requires c = some_found c.get.result c.args.state.now.clients.list.items c.args.client (search rules) c.get.ensures.some

pub returns-then-has_failed : goal.returns-then-has_failed
returns-then-has_failed c = λ s a.
    let old = c.args.state.now in
    let k = c.known_mut.result.now in
    let new = record old { clients = record { list = with_item old.clients.list c.args.client (Some k) } } in
    let known = client_same old s c.args.client (Some k) a c.known_mut.ensures.value in
    in_closed s c.args.client c.args.octets.now k new c.in_ok-closed_line.field-0 known (search rules) (link_untouched old new s c.args.client k a (record { here = c.known_mut.ensures.value; clients = refl; lanes = refl; keeps = record { limits = refl; count = refl; started = refl; accounts = refl; places = refl; routes = refl; moment = refl } })) (search rules)

pub each_client_pdu-requires : goal.each_client_pdu-requires
each_client_pdu-requires c =
    let old = c.args.state.now in
    let k = c.known_mut.result.now in
    let after = c.receive.new.self in
    let mid = record old { clients = record { list = with_item old.clients.list c.args.client (Some (record k { link = after })) } } in
    record {
      reached = still_linked old mid c.args.client k after c.requires (record { here = c.known_mut.ensures.value; clients = refl; lanes = refl; keeps = record { limits = refl; count = refl; started = refl; accounts = refl; places = refl; routes = refl; moment = refl } });
      known = known_linked old mid c.args.client c.args.client k after (record { here = c.known_mut.ensures.value; clients = refl; lanes = refl; keeps = record { limits = refl; count = refl; started = refl; accounts = refl; places = refl; routes = refl; moment = refl } }) (known_from old.clients.list.items c.args.client k c.known_mut.ensures.value);
    }

pub client_end-requires : goal.client_end-requires
client_end-requires c =
    let old = c.args.state.now in
    let k = c.known_mut.result.now in
    let after = c.receive.new.self in
    let mid = record old { clients = record { list = with_item old.clients.list c.args.client (Some (record k { link = after })) } } in
    let reached = still_linked old mid c.args.client k after c.requires (record { here = c.known_mut.ensures.value; clients = refl; lanes = refl; keeps = record { limits = refl; count = refl; started = refl; accounts = refl; places = refl; routes = refl; moment = refl } }) in
    let known = known_linked old mid c.args.client c.args.client k after (record { here = c.known_mut.ensures.value; clients = refl; lanes = refl; keeps = record { limits = refl; count = refl; started = refl; accounts = refl; places = refl; routes = refl; moment = refl } }) (known_from old.clients.list.items c.args.client k c.known_mut.ensures.value) in
    let turned = c.in_ok-text.ensures reached.0 reached.1 in
    record {
      reached = ((each_pdu (client_pdu c.args.client) reached.0 c.in_ok-pdus.pdus.items).1, turned.left);
      known = still_known c.args.client c.in_ok-pdus.pdus.items mid c.each_client_pdu.new.state reached.0 c.in_ok-text.text.items c.args.client reached.1 turned known;
    }

pub returns : goal.returns
returns c = λ s a.
    let old = c.args.state.now in
    let k = c.known_mut.result.now in
    let after = c.receive.new.self in
    let mid = record old { clients = record { list = with_item old.clients.list c.args.client (Some (record k { link = after })) } } in
    let known = client_same old s c.args.client (Some k) a c.known_mut.ensures.value in
    let here = streamed old mid s c.args.client k after a (record { here = c.known_mut.ensures.value; clients = refl; lanes = refl; keeps = record { limits = refl; count = refl; started = refl; accounts = refl; places = refl; routes = refl; moment = refl } }) c.receive.ensures.others in
    let turns = in_turns (with_link s c.args.client (record k.link { stream = after.stream })) c.args.client c.in_ok-pdus.pdus.items c.has_failed-has_failed.result _ mid c.each_client_pdu.new.state c.client_end.new.state
    c.in_ok-text.text.items c.in_ok-client_end.field-0.items c.extend_from_slice.new.self.items here c.in_ok-text.ensures c.in_ok-client_end.ensures c.has_failed-has_failed.ensures (search rules) in
    in_open s c.args.client c.args.octets.now k c.in_ok-pdus.pdus.items after.stream c.client_end.new.state c.extend_from_slice.new.self known (search rules) c.in_ok-pdus.ensures.stream turns
