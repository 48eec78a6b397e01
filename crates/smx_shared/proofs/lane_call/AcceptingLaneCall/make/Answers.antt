use Rattle.std.proofs.Common.{sym, subst, not}
use Rattle.smx_history.specs.Replies.{has_room}
use Rattle.smx_lane.specs.Conditions.{IsNext}
use Rattle.smx_lane.proofs.Calling as lane
use Rattle.smx_shared.proofs.Calls.{accept_made}
use Rattle.smx_shared.proofs.Roomy.{turned_next}
use Rattle.smx_shared.proofs.lane_call.AcceptingLaneCall.make.Goals as goal

pub accept-requires : goal.accept-requires
accept-requires c =
    let r = c.args.self.request in
    subst (λ v. IsNext v c.args.by r.client r.ordinal) (sym c.make_room.ensures.met) (turned_next (not (has_room c.args.lane.now)) c.args.lane.now c.args.by r.client r.ordinal c.requires)

pub returns : goal.returns
returns c =
    let r = c.args.self.request in
    let kept = subst (λ v. IsNext v c.args.by r.client r.ordinal) (sym c.make_room.ensures.met) (turned_next (not (has_room c.args.lane.now)) c.args.lane.now c.args.by r.client r.ordinal c.requires) in
    accept_made c.args.by r c.args.lane.now c.make_room.new.lane c.accept.new.self c.accept.result c.make_room.ensures.met c.make_room.ensures.agrees c.accept.ensures.limits
    (lane.accept_made c.make_room.new.lane _ _ _ c.accept.result kept c.accept.ensures.reply c.accept.ensures.agrees c.accept.ensures.err)
