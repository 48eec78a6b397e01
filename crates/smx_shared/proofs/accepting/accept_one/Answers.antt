use Rattle.std.proofs.Common.{sym, subst, Ok, Err, arith}
use Rattle.smx_lane.specs.Conditions.{IsNext}
use Rattle.smx_shared.specs.declared.fault.SubmitFault.TheVariants as fault
use Rattle.smx_shared.specs.Offers.{request_for}
use Rattle.smx_shared.specs.Steps.{MayAccept}
use Rattle.smx_shared.proofs.ListSubmitting.{kept_so, landed_err, landed_ok, made_with, may_after}
use Rattle.smx_shared.proofs.accepting.accept_one.Goals as goal

pub accept-requires : goal.accept-requires
accept-requires c =
    subst (λ r. IsNext c.make_room-turned.new.lane c.args.by r.client r.ordinal) (sym c.named-request.ensures)
    (kept_so c.args.by c.args.client c.args.ordinal c.args.lane.now c.make_room-turned.new.lane c.make_room-turned.ensures.met c.requires.may c.requires.ordinal)

pub returns-in-Ok-clause-landed : goal.returns-in-Ok-clause-landed
returns-in-Ok-clause-landed c =
    let a = c.args in
    let turn = c.make_room-turned.ensures in
    let kept = kept_so a.by a.client a.ordinal a.lane.now c.make_room-turned.new.lane turn.met c.requires.may c.requires.ordinal in
    let landed = landed_ok a.by a.client a.ordinal a.offer c.make_room-turned.result a.lane.now c.accept.new.self turn.turned
    (made_with a.by c.named-request.result (request_for a.client a.ordinal a.offer) a.lane.now c.make_room-turned.new.lane c.accept.new.self c.accept.result (Ok tt) c.named-request.ensures c.in-Ok.is
    turn.met turn.agrees c.accept.ensures.limits kept c.accept.ensures.reply c.accept.ensures.agrees c.accept.ensures.err) in
    (record { landed = Ok 0; turned = c.make_room-turned.result }, c.push_reserved-in-Ok.ensures.items, landed.0, landed.1, omega arith)

pub returns-in-Ok-clause-may : goal.returns-in-Ok-clause-may
returns-in-Ok-clause-may c =
    let a = c.args in
    let made = returns-in-Ok-clause-landed c in
    subst (MayAccept c.accept.new.self a.by a.client) (sym made.4) (may_after a.by a.client a.ordinal a.offer made.0 a.lane.now c.accept.new.self made.3 c.requires.may)

pub returns-in-Err-clause-landed : goal.returns-in-Err-clause-landed
returns-in-Err-clause-landed c =
    let a = c.args in
    let turn = c.make_room-turned.ensures in
    let kept = kept_so a.by a.client a.ordinal a.lane.now c.make_room-turned.new.lane turn.met c.requires.may c.requires.ordinal in
    let landed = landed_err a.by a.client a.ordinal a.offer c.unnamed.result (c.in-Err.back, c.in-Err.field-0-1) c.make_room-turned.result a.lane.now c.accept.new.self turn.turned
    (made_with a.by c.named-request.result (request_for a.client a.ordinal a.offer) a.lane.now c.make_room-turned.new.lane c.accept.new.self c.accept.result (Err (c.in-Err.back, c.in-Err.field-0-1)) c.named-request.ensures c.in-Err.is
    turn.met turn.agrees c.accept.ensures.limits kept c.accept.ensures.reply c.accept.ensures.agrees c.accept.ensures.err) c.unnamed.ensures c.requires.may in
    (record { landed = Err (c.unnamed.result, fault.AllFull); turned = c.make_room-turned.result }, c.push_reserved-in-Err.ensures.items, landed.0, landed.1, omega arith)

pub returns-in-Err-clause-may : goal.returns-in-Err-clause-may
returns-in-Err-clause-may c =
    let a = c.args in
    let made = returns-in-Err-clause-landed c in
    subst (MayAccept c.accept.new.self a.by a.client) (sym made.4) (may_after a.by a.client a.ordinal a.offer made.0 a.lane.now c.accept.new.self made.3 c.requires.may)
