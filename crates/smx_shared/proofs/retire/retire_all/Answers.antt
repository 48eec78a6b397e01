use Rattle.std.proofs.Common.{sym, ◌∙◌, subst, arith, ◌+◌, set, inl, inr}
use Rattle.smx_lane.specs.declared.call.Call.TheVariants as call
use Rattle.smx_lane.specs.declared.call.Reply.TheVariants as reply
use Rattle.smx_shared.specs.Serving.{CallServes}
use Rattle.smx_shared.specs.Leaving.{Retired}
use Rattle.smx_shared.proofs.OwnNotes.{own_rows_by, row_there}
use Rattle.smx_shared.proofs.Passing.{lock_at}
use Rattle.smx_shared.proofs.Leaving.{left_none, left_on, left_cur, retired_none, retired_after, spent_on}
use Rattle.smx_shared.proofs.retire.retire_all.Goals as goal
use Rattle.smx_shared.proofs.retire.retire_all.Goals.{in-Ok-Ok, in-Err}

pub loop-lane-init : goal.loop-lane-init
loop-lane-init g c = (left_none c.args.client c.args.seats.now.items, retired_none c.args.client c.args.seats.now.items)

pub hold-requires-clause-lock : goal.hold-requires-clause-lock
hold-requires-clause-lock g c =
    let p = c.loop-lane.invariant.0 in
    lock_at c.loop-lane.seats.items c.args.locks.now c.loop-lane.lane c.index_mut.result.now c.index-locks-lane.result (p.locks ∙ c.requires.locks) c.index_mut.ensures.value c.index-locks-lane.is
    (omega (arith, p.count, c.len-count.ensures, c.args.seats.now.ok.0, c.loop-lane-test.true))

pub hold-requires-clause-may : goal.hold-requires-clause-may
hold-requires-clause-may g c h found =
    let p = c.loop-lane.invariant.0 in
    let at = left_cur c.loop-lane.lane c.len-count.result c.args.client c.args.seats.now.items c.loop-lane.seats.items c.index_mut.result.now p (omega (arith, c.len-count.ensures, c.args.seats.now.ok.0)) c.loop-lane-test.true c.index_mut.ensures.value in
    own_rows_by c.index_mut.result.now h c.args.client found (c.requires.own c.loop-lane.lane c.index_mut.result.now (sym (p.above c.loop-lane.lane (omega arith)) ∙ at))

-- a member's row is there
pub unreachable-requires : goal.unreachable-requires
unreachable-requires g c =
    let p = c.loop-lane.invariant.0 in
    let at = left_cur c.loop-lane.lane c.len-count.result c.args.client c.args.seats.now.items c.loop-lane.seats.items c.index_mut.result.now p (omega (arith, c.len-count.ensures, c.args.seats.now.ok.0)) c.loop-lane-test.true c.index_mut.ensures.value in
    let s = subst (λ r. CallServes c.index_mut.result.now c.hold.new.self (call.Retire c.index_mut.result.now.number c.args.client) (reply.Retired r)) c.in-Ok-Err.field-0-is c.in-Ok-Err.ensures.served in
    row_there c.index_mut.result.now c.hold.new.self c.args.client s.found s.own s.old s.hold (c.requires.own c.loop-lane.lane c.index_mut.result.now (sym (p.above c.loop-lane.lane (omega arith)) ∙ at)) s.told.1

pub loop-lane-preserved : goal.loop-lane-preserved
loop-lane-preserved g c =
    let p = c.loop-lane.invariant.0 in
    let at = left_cur c.loop-lane.lane c.len-count.result c.args.client c.args.seats.now.items c.loop-lane.seats.items c.index_mut.result.now p (omega (arith, c.len-count.ensures, c.args.seats.now.ok.0)) c.loop-lane-test.true c.index_mut.ensures.value in (
      elim c.match-hold.branch [
        | in-Ok-Ok w ↦ left_on c.loop-lane.lane c.args.client c.args.seats.now.items c.loop-lane.seats.items c.index_mut.result.now c.hold.new.self p at (inr (subst (λ r. CallServes c.index_mut.result.now c.hold.new.self (call.Retire c.index_mut.result.now.number c.args.client) (reply.Retired r)) w.in-Ok-Ok.field-0-is w.in-Ok-Ok.ensures.served)) c.hold.ensures.lock
        | in-Err w ↦ left_on c.loop-lane.lane c.args.client c.args.seats.now.items c.loop-lane.seats.items c.index_mut.result.now c.hold.new.self p at (inl w.in-Err.ensures.served.1) c.hold.ensures.lock
      ],
      elim c.match-hold.branch [
        | in-Ok-Ok w ↦ subst (λ b. Retired b (c.loop-lane.lane + 1) c.args.client c.args.seats.now.items (set c.loop-lane.seats.items c.loop-lane.lane c.hold.new.self)) (sym w.all-is)
            (retired_after c.loop-lane.all c.loop-lane.lane c.args.client c.args.seats.now.items c.loop-lane.seats.items c.index_mut.result.now c.hold.new.self p at c.loop-lane.invariant.1
            (subst (λ r. CallServes c.index_mut.result.now c.hold.new.self (call.Retire c.index_mut.result.now.number c.args.client) (reply.Retired r)) w.in-Ok-Ok.field-0-is w.in-Ok-Ok.ensures.served))
        | in-Err w ↦ subst (λ b. Retired b (c.loop-lane.lane + 1) c.args.client c.args.seats.now.items (set c.loop-lane.seats.items c.loop-lane.lane c.hold.new.self)) (sym w.all-is)
            (spent_on c.loop-lane.lane c.args.client c.args.seats.now.items c.loop-lane.seats.items c.index_mut.result.now c.hold.new.self p at w.in-Err.ensures.served.1)
      ],
    )
