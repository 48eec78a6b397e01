use Rattle.std.proofs.Common.{arith, refl, subst, sym, ◌∙◌}
use Rattle.std.specs.Vec.{with_item}
use Rattle.std.proofs.Math.ListN.{length-set}
use Rattle.std.proofs.lemmas.Result.{IfOk-weaker}
use Rattle.smx_lines.specs.LaneLinks.{with_centre}
use Rattle.smx_lines.specs.States.{TurnLeaves}
use Rattle.smx_lines.proofs.Turning.{turned_nothing}
use Rattle.smx_lines.proofs.Links.{centred, centre_at, left_is, centre_untouched, centre_pdu_left, centre_pdu_some}
use Rattle.smx_lines.proofs.centre_turn.centre_pdu.Goals as goal

pub returns-then-has_left-clause-turned : goal.returns-then-has_left-clause-turned
returns-then-has_left-clause-turned c = λ s a.
    let old = c.args.state.now in
    let k = c.index_mut.result.now in
    let new = record old { lanes = with_item old.lanes c.args.lane k } in
    let gone = left_is old s c.args.lane k _ a (omega arith) c.index_mut.ensures.value (sym c.has_left.ensures ∙ c.if-has_left.true) in
    let here = centre_untouched old new s c.args.lane k a (record { within = omega arith; here = c.index_mut.ensures.value; lanes = refl; clients = refl; keeps = record { limits = refl; count = refl; started = refl; accounts = refl; places = refl; routes = refl; moment = refl } }) in
    rw (centre_pdu_left s c.args.lane c.args.pdu gone) (turned_nothing new s _ here c.new.ensures.items)

pub centre_act-requires : goal.centre_act-requires
centre_act-requires c =
    let old = c.args.state.now in
    let k = c.index_mut.result.now in
    let after = c.decide-act.new.self in
    let mid = record old { lanes = with_item old.lanes c.args.lane (record k { link = after }) } in
    let there = centred old mid c.requires.reached.0 c.args.lane k after c.requires.reached.1 (record { within = omega arith; here = c.index_mut.ensures.value; lanes = refl; clients = refl; keeps = record { limits = refl; count = refl; started = refl; accounts = refl; places = refl; routes = refl; moment = refl } }) in
    record { there = omega (arith, length-set old.lanes.items c.args.lane (record k { link = after })); reached = (_, there) }

pub returns-clause-turned : goal.returns-clause-turned
returns-clause-turned c = λ s a.
    let old = c.args.state.now in
    let k = c.index_mut.result.now in
    let after = c.decide-act.new.self in
    let at = centre_at old s c.args.lane k a (omega arith) c.index_mut.ensures.value in
    let here = left_is old s c.args.lane k _ a (omega arith) c.index_mut.ensures.value (sym c.has_left.ensures ∙ c.if-has_left.false) in
    let same = centre_pdu_some s c.args.lane c.args.pdu k.link after c.decide-act.result at here c.decide-act.ensures.act c.decide-act.ensures.link in
    let mid = record old { lanes = with_item old.lanes c.args.lane (record k { link = after }) } in
    let there = centred old mid s c.args.lane k after a (record { within = omega arith; here = c.index_mut.ensures.value; lanes = refl; clients = refl; keeps = record { limits = refl; count = refl; started = refl; accounts = refl; places = refl; routes = refl; moment = refl } }) in
    IfOk-weaker c.centre_act.result _ _ (λ text t. subst (λ x. TurnLeaves x c.centre_act.new.state text.items) same t) (c.centre_act.ensures.turned (with_centre s c.args.lane after) there)
