use Rattle.std.proofs.Common.{◌+◌, ◌%◌, sym, refl, ◌∙◌, ap, subst, arith, Ok}
use Rattle.smx_lane.specs.Conditions.{IsNext}
use Rattle.smx_lock.specs.Fronts.{IsSpent}
use Rattle.smx_shared.specs.Ports.{IsMemberBy}
use Rattle.smx_shared.specs.Serving.{AcceptServes}
use Rattle.smx_shared.specs.Submits.{FullServes}
use Rattle.smx_shared.proofs.OwnNotes.{own_rows}
use Rattle.smx_shared.proofs.Passing.{lock_at}
use Rattle.smx_shared.proofs.Submitting.{full_locks, full_of, next_here, next_own, next_within, passing_at, passing_end, passing_none, passing_on}
use Rattle.smx_shared.proofs.submit.try_ring.Goals as goal

pub loop-k-init : goal.loop-k-init
loop-k-init g c = record { same = refl; passing = passing_none c.args.start c.len-count.result c.args.request c.args.seats.now.items }

pub index_mut-requires : goal.index_mut-requires
index_mut-requires g c = omega (arith, c.loop-k.seats.ok.0, next_within c.args.start c.len-count.result c.loop-k.k c.args.request c.args.seats.now.items c.loop-k.seats.items (c.len-count.ensures ∙ c.args.seats.now.ok.0) c.loop-k-test.true c.loop-k.invariant.passing)

pub hold-requires-clause-lock : goal.hold-requires-clause-lock
hold-requires-clause-lock g c =
    let p = c.loop-k.invariant.passing in
    lock_at c.loop-k.seats.items c.args.locks.now ((c.args.start + c.loop-k.k) % c.len-count.result) c.index_mut.result.now c.index-locks-lane.result
    (full_locks p.before c.args.request c.args.seats.now.items c.loop-k.seats.items p.full ∙ c.requires.locks) c.index_mut.ensures.value c.index-locks-lane.is
    (next_within c.args.start c.len-count.result c.loop-k.k c.args.request c.args.seats.now.items c.loop-k.seats.items (c.len-count.ensures ∙ c.args.seats.now.ok.0) c.loop-k-test.true p)

pub hold-requires-clause-may : goal.hold-requires-clause-may
hold-requires-clause-may g c h found =
    let own = next_own c.args.start c.len-count.result c.loop-k.k c.args.request c.args.seats.now.items c.loop-k.seats.items c.index_mut.result.now (c.len-count.ensures ∙ c.args.seats.now.ok.0) c.loop-k-test.true c.loop-k.invariant.passing c.index_mut.ensures.value c.requires.own in
    subst (λ r. IsNext h.value h.number r.client r.ordinal) (sym c.loop-k.invariant.same)
    (own_rows c.index_mut.result.now h c.args.request.client c.args.request.ordinal found own.0 own.1 c.requires.ordinal)

pub returns-in-Ok-Ok-clause-ok : goal.returns-in-Ok-Ok-clause-ok
returns-in-Ok-Ok-clause-ok g c =
    let p = c.loop-k.invariant.passing in
    let size = c.len-count.ensures ∙ c.args.seats.now.ok.0 in
    let here = next_here c.args.start c.len-count.result c.loop-k.k c.args.request c.args.seats.now.items c.loop-k.seats.items c.index_mut.result.now size c.loop-k-test.true p c.index_mut.ensures.value in
    let served = subst (λ r. AcceptServes c.index_mut.result.now c.hold.new.self r (Ok tt)) c.loop-k.invariant.same (subst (AcceptServes c.index_mut.result.now c.hold.new.self c.loop-k.rest) c.in-Ok-Ok.field-0-is c.in-Ok-Ok.ensures.served) in
    passing_at c.args.start c.len-count.result c.loop-k.k c.args.request c.args.seats.now.items c.loop-k.seats.items _ (λ f g. AcceptServes f g c.args.request (Ok tt)) size c.loop-k-test.true p
    (c.index_mut.result.now, c.hold.new.self, here, refl, c.hold.ensures.lock, served)

pub returns-in-Err-clause-err : goal.returns-in-Err-clause-err
returns-in-Err-clause-err g c =
    let p = c.loop-k.invariant.passing in
    let size = c.len-count.ensures ∙ c.args.seats.now.ok.0 in
    let here = next_here c.args.start c.len-count.result c.loop-k.k c.args.request c.args.seats.now.items c.loop-k.seats.items c.index_mut.result.now size c.loop-k-test.true p c.index_mut.ensures.value in (
      ap (λ m. m.request) c.in-Err.ensures.served.0 ∙ c.loop-k.invariant.same,
      (
        (c.args.start + c.loop-k.k) % c.len-count.result,
        passing_at c.args.start c.len-count.result c.loop-k.k c.args.request c.args.seats.now.items c.loop-k.seats.items _ IsSpent size c.loop-k-test.true p
            (c.index_mut.result.now, c.hold.new.self, here, refl, c.hold.ensures.lock, c.in-Err.ensures.served.1),
      ),
    )

pub loop-k-preserved : goal.loop-k-preserved
loop-k-preserved g c =
    let p = c.loop-k.invariant.passing in
    let size = c.len-count.ensures ∙ c.args.seats.now.ok.0 in
    let here = next_here c.args.start c.len-count.result c.loop-k.k c.args.request c.args.seats.now.items c.loop-k.seats.items c.index_mut.result.now size c.loop-k-test.true p c.index_mut.ensures.value in
    let own = next_own c.args.start c.len-count.result c.loop-k.k c.args.request c.args.seats.now.items c.loop-k.seats.items c.index_mut.result.now size c.loop-k-test.true p c.index_mut.ensures.value c.requires.own in
    let served = subst (AcceptServes c.index_mut.result.now c.hold.new.self c.loop-k.rest) c.in-Ok-Err.field-0-is c.in-Ok-Err.ensures.served in
    let full = full_of c.index_mut.result.now c.hold.new.self c.loop-k.rest (c.in-Ok-Err.back, c.in-Ok-Err.field-0-0-1) (subst (λ r. IsMemberBy r.client c.index_mut.result.now) (sym c.loop-k.invariant.same) own.0) served in
    record {
      same = served.told.1 ∙ c.loop-k.invariant.same;
      passing = passing_on c.args.start c.len-count.result c.loop-k.k c.args.request c.args.seats.now.items c.loop-k.seats.items _ c.loop-k-test.true p
          (c.index_mut.result.now, c.hold.new.self, here, refl, c.hold.ensures.lock, subst (λ r. FullServes r c.index_mut.result.now c.hold.new.self) c.loop-k.invariant.same full);
    }

pub returns-clause-err : goal.returns-clause-err
returns-clause-err g c = (
  c.loop-k.invariant.same,
  passing_end c.args.start c.len-count.result c.loop-k.k c.args.request c.args.seats.now.items c.loop-k.seats.items (c.len-count.ensures ∙ c.args.seats.now.ok.0) (omega (arith, c.loop-k-test.false)) c.loop-k.invariant.passing,
)
