use Rattle.std.proofs.Common.{◌≡◌, ◌+◌, ◌++◌, ◌∷◌, [], ℕ, length, set, sym, refl, ◌∙◌, ap, subst, arith}
use Rattle.std.proofs.lemmas.List.{get_or-set_same}
use Rattle.std.proofs.lemmas.Option.{slice_get_within}
use Rattle.smx_lock.specs.Fronts.{Front}
use Rattle.smx_history.specs.declared.limits.Limits.{Limits}
use Rattle.smx_history.specs.declared.note.Note.{Note}
use Rattle.smx_shared.specs.Views.{TapView}
use Rattle.smx_shared.specs.Serving.{SplitServes, SplitFails}
use Rattle.smx_shared.specs.Making.{Tapped}
use Rattle.smx_shared.proofs.Passing.{lock_at}
use Rattle.smx_shared.proofs.Rounds.{makes_none, makes_on, makes_cur}
use Rattle.smx_shared.proofs.opening.split_taps.Goals as goal

MadeTap : ℕ → Front Note Limits → Front Note Limits → TapView → Type 0
MadeTap k f g t = (t.lane ≡ k) × SplitServes f g t.front

pub loop-lane-init : goal.loop-lane-init
unfolding MadeTap
loop-lane-init g c = record {
  tapped = subst (Tapped 0 c.args.seats.now.items c.args.seats.now.items) (sym c.requires.none) (makes_none MadeTap c.args.seats.now.items);
  room = c.requires.room;
}

pub split-requires : goal.split-requires
split-requires g c =
    let p = c.loop-lane.invariant.tapped in
    record {
      lock = lock_at c.loop-lane.seats.items c.args.locks.now c.loop-lane.lane c.index_mut.result.now c.index-locks-lane.result (p.locks ∙ c.requires.locks) c.index_mut.ensures.value c.index-locks-lane.is
          (omega (arith, p.count, c.len-count.ensures, c.args.seats.now.ok.0, c.loop-lane-test.true));
    }

pub push_reserved-requires : goal.push_reserved-requires
push_reserved-requires g c =
    let p = c.loop-lane.invariant.tapped in
    omega (arith, p.made_count, c.loop-lane.invariant.room, c.len-count.ensures, c.args.seats.now.ok.0, c.loop-lane-test.true, c.loop-lane.taps.ok.0)

pub loop-lane-preserved : goal.loop-lane-preserved
unfolding MadeTap
loop-lane-preserved g c =
    let p = c.loop-lane.invariant.tapped in
    let at = makes_cur MadeTap c.loop-lane.lane c.len-count.result c.args.seats.now.items c.loop-lane.seats.items c.loop-lane.taps.items c.index_mut.result.now p (omega (arith, c.len-count.ensures, c.args.seats.now.ok.0)) c.loop-lane-test.true c.index_mut.ensures.value in
    let tap : TapView = record { lane = c.loop-lane.lane; front = c.in-Ok.seat } in
    record {
      tapped = subst (Tapped (c.loop-lane.lane + 1) c.args.seats.now.items (set c.loop-lane.seats.items c.loop-lane.lane c.split.new.self)) (ap (λ t. c.loop-lane.taps.items ++ t ∷ []) (sym c.new.ensures) ∙ sym c.push_reserved.ensures.items)
          (makes_on MadeTap c.loop-lane.lane c.args.seats.now.items c.loop-lane.seats.items c.loop-lane.taps.items c.index_mut.result.now c.split.new.self tap p at (refl, c.in-Ok.ensures.served) c.split.ensures.lock);
      room = omega (arith, c.push_reserved.ensures.capacity, c.loop-lane.invariant.room);
    }

pub returns-clause-ok : goal.returns-clause-ok
returns-clause-ok g c =
    let same : c.loop-lane.lane ≡ length c.args.seats.now.items = omega (arith, c.loop-lane-test.false, c.loop-lane.auto.lane-end, c.len-count.ensures, c.args.seats.now.ok.0) in
    subst (λ n. Tapped n c.args.seats.now.items c.loop-lane.seats.items c.loop-lane.taps.items) same c.loop-lane.invariant.tapped

-- the seat that was taken out is the one that found no ticket or no seat
pub returns-in-Err-clause-err : goal.returns-in-Err-clause-err
unfolding MadeTap
returns-in-Err-clause-err g c =
    let p = c.loop-lane.invariant.tapped in
    let f = c.index_mut.result.now in
    let at = makes_cur MadeTap c.loop-lane.lane c.len-count.result c.args.seats.now.items c.loop-lane.seats.items c.loop-lane.taps.items f p (omega (arith, c.len-count.ensures, c.args.seats.now.ok.0)) c.loop-lane-test.true c.index_mut.ensures.value in
    let same = c.swap_remove.ensures.value ∙ get_or-set_same c.loop-lane.seats.items c.loop-lane.lane c.split.new.self c.swap_remove.result (slice_get_within c.loop-lane.seats.items c.loop-lane.lane f at) in (
      c.loop-lane.lane,
      f,
      sym (p.above c.loop-lane.lane (omega arith)) ∙ at,
      ap (λ s. s.lock) same ∙ c.split.ensures.lock,
      subst (SplitFails f) (sym same) c.in-Err.ensures.served,
    )
