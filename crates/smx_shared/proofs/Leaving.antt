-- Lanes that were left, one after the other.
use Rattle.std.proofs.Common.{◌≡◌, ◌<◌, ◌≤◌, ◌+◌, ℕ, List, length, set, get_or, slice_get, Some, refl, sym, ◌∙◌, ap, subst, arith, inl, inr}
use Rattle.std.specs.Prelude.{Bool, true, false}
use Rattle.std.proofs.lemmas.List.{length-set}
use Rattle.std.proofs.lemmas.Bool.{cases_eq}
use Rattle.std.proofs.lemmas.Option.{slice_get_read, slice_get_within, get_or_from_slice_get}
use Rattle.std.proofs.Math.Seq.{map-set_same}
use Rattle.smx_lock.specs.Fronts.{Front, IsSpent}
use Rattle.smx_history.specs.declared.limits.Limits.{Limits}
use Rattle.smx_history.specs.declared.note.Note.{Note}
use Rattle.smx_shared.specs.Serving.{RetireServes}
use Rattle.smx_shared.specs.Leaving.{LeavesBelow, LeavesOrIsSpent, Retired}
use Rattle.smx_shared.proofs.Passing.{got_same, got_other, some_same}

pub left_none : (c : ℕ) (old : List (Front Note Limits)) → LeavesBelow 0 c old old
left_none c old = record { count = refl; left = λ k f g b. absurd (omega arith); above = λ k h. refl; locks = refl }

pub left_on : (i c : ℕ) (old cur : List (Front Note Limits)) (f g : Front Note Limits) → LeavesBelow i c old cur
    → slice_get cur i ≡ Some f → LeavesOrIsSpent c f g → g.lock ≡ f.lock → LeavesBelow (i + 1) c old (set cur i g)
left_on i c old cur f g p at leaves lock = record {
  count = length-set cur i g ∙ p.count;
  left = λ k f' g' b was now. elim (cases_eq k i) [
    | inl here ↦
        let same : f' ≡ f = some_same f' f (sym was ∙ ap (slice_get old) here ∙ sym (p.above i (omega arith)) ∙ at) in
        let new : g' ≡ g = some_same g' g (sym now ∙ ap (slice_get (set cur i g)) here ∙ got_same cur i g (slice_get_within cur i f at)) in
        subst (λ x. LeavesOrIsSpent c x g') (sym same) (subst (λ y. LeavesOrIsSpent c f y) (sym new) leaves)
    | inr apart ↦ p.left k f' g' (omega (arith, apart)) was (sym (got_other cur i k g apart) ∙ now)
  ];
  above = λ k h. got_other cur i k g (λ e. omega (arith, e, h)) ∙ p.above k (omega arith);
  locks = map-set_same (λ x. x.lock) cur i g f (lock ∙ ap (λ x. x.lock) (sym (get_or_from_slice_get cur i f f at))) ∙ p.locks;
}

pub left_cur : (i n c : ℕ) (old cur : List (Front Note Limits)) (f : Front Note Limits) → LeavesBelow i c old cur → n ≤ length old → i < n
    → f ≡ get_or cur i f → slice_get cur i ≡ Some f
left_cur i n c old cur f p room within at = slice_get_read cur (length cur) i f refl (omega (arith, p.count, room, within)) at

pub retired_none : (c : ℕ) (old : List (Front Note Limits)) → Retired true 0 c old old
retired_none c old k f g b = absurd (omega arith)

-- the lane was left, as those before it
pub retired_on : (i c : ℕ) (old cur : List (Front Note Limits)) (f g : Front Note Limits) → LeavesBelow i c old cur → slice_get cur i ≡ Some f
    → Retired true i c old cur → RetireServes f g c → Retired true (i + 1) c old (set cur i g)
retired_on i c old cur f g p at all retires k f' g' b was now = elim (cases_eq k i) [
  | inl here ↦
      let same : f' ≡ f = some_same f' f (sym was ∙ ap (slice_get old) here ∙ sym (p.above i (omega arith)) ∙ at) in
      let new : g' ≡ g = some_same g' g (sym now ∙ ap (slice_get (set cur i g)) here ∙ got_same cur i g (slice_get_within cur i f at)) in
      subst (λ x. RetireServes x g' c) (sym same) (subst (λ y. RetireServes f y c) (sym new) retires)
  | inr apart ↦ all k f' g' (omega (arith, apart)) was (sym (got_other cur i k g apart) ∙ now)
]

-- some lane before it is spent
pub spent_before : (i c : ℕ) (old cur : List (Front Note Limits)) (g : Front Note Limits) → Retired false i c old cur → Retired false (i + 1) c old (set cur i g)
spent_before i c old cur g s = (s.0, s.1, s.2, omega (arith, s.3), s.4, got_other cur i s.0 g (λ e. omega (arith, e, s.3)) ∙ s.5, s.6)

-- the lane itself is spent
pub spent_on : (i c : ℕ) (old cur : List (Front Note Limits)) (f g : Front Note Limits) → LeavesBelow i c old cur → slice_get cur i ≡ Some f → IsSpent f g
    → Retired false (i + 1) c old (set cur i g)
spent_on i c old cur f g p at s = (i, f, g, omega arith, sym (p.above i (omega arith)) ∙ at, got_same cur i g (slice_get_within cur i f at), s)

pub retired_after : (all : Bool) (i c : ℕ) (old cur : List (Front Note Limits)) (f g : Front Note Limits) → LeavesBelow i c old cur → slice_get cur i ≡ Some f
    → Retired all i c old cur → RetireServes f g c → Retired all (i + 1) c old (set cur i g)
retired_after true i c old cur f g p at all retires = retired_on i c old cur f g p at all retires
retired_after false i c old cur f g p at all retires = spent_before i c old cur g all
