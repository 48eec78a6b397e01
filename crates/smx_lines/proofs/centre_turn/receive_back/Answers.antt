use Rattle.std.proofs.Common.{arith, refl, rules, ◌∙◌, sym}
use Rattle.std.specs.Vec.{with_item}
use Rattle.std.proofs.Math.ListN.{length-set}
use Rattle.smx_lines.specs.LaneLinks.{with_centre}
use Rattle.smx_lines.proofs.StateTurns.{a_lane_at, lane_is, no_lane_at}
use Rattle.smx_lines.proofs.Links.{centre_at}
use Rattle.smx_lines.proofs.BackTurns.{back_nowhere, back_down, back_up, streamed_up, back_turns}
use Rattle.smx_lines.proofs.centre_turn.receive_back.Goals as goal

pub returns-then-at-len : goal.returns-then-at-len
returns-then-at-len c = λ s a. back_nowhere s c.args.lane c.args.octets.now c.args.state.now (no_lane_at c.args.state.now s c.args.lane a (omega arith))

pub returns-then-not-is_up : goal.returns-then-not-is_up
returns-then-not-is_up c = λ s a.
    let old = c.args.state.now in
    let x = lane_is old s c.args.lane c.index.result.now a (omega arith) (search rules) in
    back_down s c.args.lane c.args.octets.now old c.in_ok-down_line.field-0 (a_lane_at old s c.args.lane a (omega arith)) (sym x.on.agrees.after.up ∙ sym c.is_up.ensures ∙ c.if-not-is_up.true) a (search rules)

pub each_centre_pdu-requires : goal.each_centre_pdu-requires
each_centre_pdu-requires c =
    let s = c.requires.0 in
    let old = c.args.state.now in
    let k = c.index_mut.result.now in
    let after = c.receive.new.self in
    let mid = record old { lanes = with_item old.lanes c.args.lane (record k { link = after }) } in
    let here = streamed_up old mid s c.args.lane k after c.requires.1 (record { within = omega arith; here = c.index_mut.ensures.value; lanes = refl; clients = refl; keeps = record { limits = refl; count = refl; started = refl; accounts = refl; places = refl; routes = refl; moment = refl } }) c.receive.ensures.session in
    record { there = omega (arith, length-set old.lanes.items c.args.lane (record k { link = after })); reached = (_, here) }

pub give_up-requires : goal.give_up-requires
give_up-requires c =
    let s = c.requires.0 in
    let a = c.requires.1 in
    let old = c.args.state.now in
    let k = c.index_mut.result.now in
    let after = c.receive.new.self in
    let mid = record old { lanes = with_item old.lanes c.args.lane (record k { link = after }) } in
    let here = streamed_up old mid s c.args.lane k after a (record { within = omega arith; here = c.index_mut.ensures.value; lanes = refl; clients = refl; keeps = record { limits = refl; count = refl; started = refl; accounts = refl; places = refl; routes = refl; moment = refl } }) c.receive.ensures.session in
    let turns = back_turns (with_centre s c.args.lane (record k.link { stream = after.stream })) c.args.lane c.in_ok-pdus.pdus.items c.has_failed-has_failed.result _ mid c.each_centre_pdu.new.state c.centre_end.new.state
    c.in_ok-text.text.items c.in_ok-centre_end.field-0.items c.extend_from_slice.new.self.items here c.in_ok-text.ensures.turned c.in_ok-centre_end.ensures.turned c.has_failed-has_failed.ensures (search rules) in
    let long = length-set old.lanes.items c.args.lane (record k { link = after }) in
    record { there = omega (arith, long, c.in_ok-text.ensures.lanes, c.in_ok-centre_end.ensures.lanes); reached = (_, turns.left) }

pub returns : goal.returns
returns c = λ s a.
    let x = lane_is c.args.state.now s c.args.lane c.index.result.now a (omega arith) (search rules) in
    let old = c.args.state.now in
    let k = c.index_mut.result.now in
    let after = c.receive.new.self in
    let mid = record old { lanes = with_item old.lanes c.args.lane (record k { link = after }) } in
    let here = streamed_up old mid s c.args.lane k after a (record { within = omega arith; here = c.index_mut.ensures.value; lanes = refl; clients = refl; keeps = record { limits = refl; count = refl; started = refl; accounts = refl; places = refl; routes = refl; moment = refl } }) c.receive.ensures.session in
    let turns = back_turns (with_centre s c.args.lane (record k.link { stream = after.stream })) c.args.lane c.in_ok-pdus.pdus.items c.has_failed-has_failed.result _ mid c.each_centre_pdu.new.state c.centre_end.new.state
    c.in_ok-text.text.items c.in_ok-centre_end.field-0.items c.extend_from_slice.new.self.items here c.in_ok-text.ensures.turned c.in_ok-centre_end.ensures.turned c.has_failed-has_failed.ensures (search rules) in
    let at = centre_at old s c.args.lane k a (omega arith) c.index_mut.ensures.value in
    back_up s c.args.lane c.args.octets.now k.link c.in_ok-pdus.pdus.items after.stream c.centre_end.new.state c.give_up.new.state c.extend_from_slice.new.self (a_lane_at old s c.args.lane a (omega arith)) (sym x.on.agrees.after.up ∙ sym c.is_up.ensures ∙ c.if-not-is_up.false) at
    c.in_ok-pdus.ensures.stream turns c.give_up.ensures
