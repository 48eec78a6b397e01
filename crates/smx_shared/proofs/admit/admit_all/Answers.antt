use Rattle.std.proofs.Common.{◌≡◌, ◌+◌, length, take, set, sym, refl, ◌∙◌, ap, subst, arith}
use Rattle.smx_shared.specs.Views.{locks_of}
use Rattle.smx_shared.specs.Entering.{Enters, Entered, StopsAt}
use Rattle.smx_shared.proofs.Passing.{lock_at}
use Rattle.smx_shared.proofs.Rounds.{makes_none, makes_on, makes_cur, locks_more}
use Rattle.smx_shared.proofs.admit.admit_all.Goals as goal

pub loop-lane-init : goal.loop-lane-init
loop-lane-init g c = record {
  entered = subst (Entered 0 c.args.client c.args.seats.now.items c.args.seats.now.items) (sym c.requires.none) (makes_none (λ k f h p. Enters c.args.client f h p) c.args.seats.now.items);
  made = ap locks_of c.requires.none;
  room = c.requires.room;
}

pub admit_on-requires : goal.admit_on-requires
admit_on-requires g c =
    let p = c.loop-lane.invariant.entered in
    lock_at c.loop-lane.seats.items c.args.locks.now c.loop-lane.lane c.index_mut.result.now c.index-locks-lane.result (p.locks ∙ c.requires.locks) c.index_mut.ensures.value c.index-locks-lane.is
    (omega (arith, p.count, c.len-count.ensures, c.args.seats.now.ok.0, c.loop-lane-test.true))

pub push_reserved-requires : goal.push_reserved-requires
push_reserved-requires g c =
    let p = c.loop-lane.invariant.entered in
    omega (arith, p.made_count, c.loop-lane.invariant.room, c.len-count.ensures, c.args.seats.now.ok.0, c.loop-lane-test.true, c.loop-lane.made.ok.0)

pub loop-lane-preserved : goal.loop-lane-preserved
loop-lane-preserved g c =
    let p = c.loop-lane.invariant.entered in
    let client = c.args.client in
    let at = makes_cur (λ k f h q. Enters client f h q) c.loop-lane.lane c.len-count.result c.args.seats.now.items c.loop-lane.seats.items c.loop-lane.made.items c.index_mut.result.now p (omega (arith, c.len-count.ensures, c.args.seats.now.ok.0)) c.loop-lane-test.true c.index_mut.ensures.value in
    record {
      entered = subst (Entered (c.loop-lane.lane + 1) client c.args.seats.now.items (set c.loop-lane.seats.items c.loop-lane.lane c.admit_on.new.seat)) (sym c.push_reserved.ensures.items)
          (makes_on (λ k f h q. Enters client f h q) c.loop-lane.lane c.args.seats.now.items c.loop-lane.seats.items c.loop-lane.made.items c.index_mut.result.now c.admit_on.new.seat c.in-Ok.seat p at c.in-Ok.ensures.ok c.admit_on.ensures.lock);
      made = ap locks_of c.push_reserved.ensures.items
          ∙ locks_more c.loop-lane.lane c.loop-lane.made.items c.loop-lane.seats.items c.args.seats.now.items c.index_mut.result.now c.in-Ok.seat c.loop-lane.invariant.made p.locks at c.in-Ok.ensures.ok.lock;
      room = omega (arith, c.push_reserved.ensures.capacity, c.loop-lane.invariant.room);
    }

pub returns-in-Err-clause-err : goal.returns-in-Err-clause-err
returns-in-Err-clause-err g c =
    let p = c.loop-lane.invariant.entered in
    let client = c.args.client in
    let at = makes_cur (λ k f h q. Enters client f h q) c.loop-lane.lane c.len-count.result c.args.seats.now.items c.loop-lane.seats.items c.loop-lane.made.items c.index_mut.result.now p (omega (arith, c.len-count.ensures, c.args.seats.now.ok.0)) c.loop-lane-test.true c.index_mut.ensures.value in
    subst (λ n. StopsAt n client c.in-Err.barred.0 c.args.seats.now.items (set c.loop-lane.seats.items c.loop-lane.lane c.admit_on.new.seat) c.loop-lane.made.items c.in-Err.barred.1) (sym p.made_count) (
      c.loop-lane.seats.items,
      omega (arith, c.len-count.ensures, c.args.seats.now.ok.0, c.loop-lane-test.true),
      p,
      (c.index_mut.result.now, c.admit_on.new.seat, at, refl, c.admit_on.ensures.lock, c.in-Err.ensures.err),
    )

pub returns-in-Err-clause-made : goal.returns-in-Err-clause-made
returns-in-Err-clause-made g c = c.loop-lane.invariant.made ∙ ap (λ n. take n (locks_of c.args.seats.now.items)) (sym c.loop-lane.invariant.entered.made_count)

pub returns-clause-made : goal.returns-clause-made
returns-clause-made g c = c.loop-lane.invariant.made ∙ ap (λ n. take n (locks_of c.args.seats.now.items)) (sym c.loop-lane.invariant.entered.made_count)

pub returns-clause-ok : goal.returns-clause-ok
returns-clause-ok g c =
    let same : c.loop-lane.lane ≡ length c.args.seats.now.items = omega (arith, c.loop-lane-test.false, c.loop-lane.auto.lane-end, c.len-count.ensures, c.args.seats.now.ok.0) in
    subst (λ n. Entered n c.args.client c.args.seats.now.items c.loop-lane.seats.items c.loop-lane.made.items) same c.loop-lane.invariant.entered
