-- Exchanges that are made and ended.
use Rattle.std.proofs.Common.{◌≡◌, ◌<◌, ◌+◌, ℕ, List, [], ◌∷◌, ◌++◌, length, map, slice_get, option_map, Option, Some, None, refl, sym, ◌∙◌, ap, subst, arith, length-append}
use Rattle.std.specs.Prelude.{All}
use Rattle.std.proofs.lemmas.List.{map-append, length-map}
use Rattle.std.proofs.lemmas.Option.{slice_get-map, get_or_from_slice_get}
use Rattle.smx_lock.specs.Fronts.{Front, LockId, first_front}
use Rattle.smx_history.specs.declared.limits.Limits.{Limits}
use Rattle.smx_history.specs.declared.note.Note.{Note}
use Rattle.smx_shared.specs.Views.{TapView, locks_of}
use Rattle.smx_shared.specs.Making.{AreLocks, Tapped, IsUnused, IsStuck}
use Rattle.smx_shared.specs.Serving.{SplitServes, SplitFails}
use Rattle.smx_shared.proofs.Lists.{All-both}
use Rattle.smx_shared.proofs.Passing.{has_at}

pub locks_none : (limits : Limits) → AreLocks 0 limits []
locks_none limits = record { count = refl; each = tt }

pub locks_push : (n : ℕ) (limits : Limits) (locks : List (LockId Limits)) (l : LockId Limits) → AreLocks n limits locks → l.fixed ≡ limits → AreLocks (n + 1) limits (locks ++ l ∷ [])
locks_push n limits locks l are fixed = record {
  count = omega (arith, length-append locks (l ∷ []), are.count);
  each = All-both (λ (x : LockId Limits). x.fixed ≡ limits) locks (l ∷ []) are.each (fixed, tt);
}

pub firsts_push : (locks : List (LockId Limits)) (l : LockId Limits) (fs : List (Front Note Limits)) (f : Front Note Limits) → fs ≡ map first_front locks → f ≡ first_front l
    → fs ++ f ∷ [] ≡ map first_front (locks ++ l ∷ [])
firsts_push locks l fs f is one = ap (λ xs. xs ++ f ∷ []) is ∙ ap (λ x. map first_front locks ++ x ∷ []) one ∙ sym (map-append first_front locks (l ∷ []))

-- the first seats' locks are the locks
pub locks_of-firsts : (locks : List (LockId Limits)) → locks_of (map first_front locks) ≡ locks
locks_of-firsts [] = refl
locks_of-firsts (l ∷ locks) = ap (λ ls. l ∷ ls) (locks_of-firsts locks)

-- each tap is of the lock of its lane
pub taps_locks : (lanes : ℕ) (locks : List (LockId Limits)) (new : List (Front Note Limits)) (taps : List TapView) → length locks ≡ lanes → Tapped lanes (map first_front locks) new taps
    → All (λ (t : TapView). slice_get locks t.lane ≡ Some t.front.lock) taps
taps_locks lanes locks new taps count tapped k d within =
    let t = has_at taps k within in
    let l = has_at locks k (omega (arith, within, tapped.made_count, count)) in
    let n = length-map locks (first_front {N = Note} {F = Limits}) in
    let was : slice_get (map (first_front {N = Note} {F = Limits}) locks) k ≡ Some (first_front {N = Note} {F = Limits} l.0) = slice_get-map (first_front {N = Note} {F = Limits}) locks k ∙ ap (option_map (first_front {N = Note} {F = Limits})) l.1 in
    let now = has_at new k (omega (arith, within, tapped.made_count, count, tapped.count, n)) in
    let served = tapped.each k (first_front {N = Note} {F = Limits} l.0) now.0 t.0 was now.1 t.1 in
    subst (λ (x : TapView). slice_get locks x.lane ≡ Some x.front.lock) (sym (get_or_from_slice_get taps k t.0 d t.1))
    (ap (slice_get locks) served.0 ∙ l.1 ∙ ap Some (sym served.1.lock))

pub tapped_firsts : (lanes : ℕ) (locks : List (LockId Limits)) (seats new : List (Front Note Limits)) (taps : List TapView) → seats ≡ map first_front locks → length locks ≡ lanes
    → Tapped (length seats) seats new taps → Tapped lanes (map first_front locks) new taps
tapped_firsts lanes locks seats new taps is count tapped =
    subst (λ n. Tapped n (map (first_front {N = Note} {F = Limits}) locks) new taps) (length-map locks (first_front {N = Note} {F = Limits}) ∙ count)
    (subst (λ fs. Tapped (length fs) fs new taps) is tapped)

-- the seats of a lane after its first split: that first seat was alone
door_unused : (l : LockId Limits) (g s : Front Note Limits) → SplitServes (first_front l) g s → IsUnused g
door_unused l g s split = (split.hold.serves.seen ∙ ap (λ h. h ++ []) (split.hold.serves.alone refl), split.hold.serves.mine, split.second refl)

tap_unused : (l : LockId Limits) (g s : Front Note Limits) → SplitServes (first_front l) g s → IsUnused s
tap_unused l g s split = (split.seen ∙ split.hold.serves.alone refl, split.mine, split.seats ∙ split.second refl)

-- on lane k of a new exchange one hold made the tap
made_at : (lanes k : ℕ) (locks : List (LockId Limits)) (new : List (Front Note Limits)) (taps : List TapView) → length locks ≡ lanes → Tapped lanes (map first_front locks) new taps → k < lanes
    → (l : LockId Limits) × (g : Front Note Limits) × (t : TapView) × (slice_get new k ≡ Some g) × (slice_get taps k ≡ Some t) × SplitServes (first_front l) g t.front
made_at lanes k locks new taps count tapped within =
    let l = has_at locks k (omega (arith, within, count)) in
    let was : slice_get (map (first_front {N = Note} {F = Limits}) locks) k ≡ Some (first_front {N = Note} {F = Limits} l.0) = slice_get-map (first_front {N = Note} {F = Limits}) locks k ∙ ap (option_map (first_front {N = Note} {F = Limits})) l.1 in
    let g = has_at new k (omega (arith, within, count, tapped.count, length-map locks (first_front {N = Note} {F = Limits}))) in
    let t = has_at taps k (omega (arith, within, tapped.made_count)) in
    (l.0, g.0, t.0, g.1, t.1, (tapped.each k (first_front {N = Note} {F = Limits} l.0) g.0 t.0 was g.1 t.1).1)

pub doors_unused : (lanes : ℕ) (locks : List (LockId Limits)) (new : List (Front Note Limits)) (taps : List TapView) → length locks ≡ lanes → Tapped lanes (map first_front locks) new taps
    → All IsUnused new
doors_unused lanes locks new taps count tapped k d within =
    let m = made_at lanes k locks new taps count tapped (omega (arith, within, count, tapped.count, length-map locks (first_front {N = Note} {F = Limits}))) in
    subst IsUnused (sym (get_or_from_slice_get new k m.1 d m.3)) (door_unused m.0 m.1 m.2.front m.5)

pub taps_unused : (lanes : ℕ) (locks : List (LockId Limits)) (new : List (Front Note Limits)) (taps : List TapView) → length locks ≡ lanes → Tapped lanes (map first_front locks) new taps
    → All (λ (t : TapView). IsUnused t.front) taps
taps_unused lanes locks new taps count tapped k d within =
    let m = made_at lanes k locks new taps count tapped (omega (arith, within, tapped.made_count)) in
    subst (λ (t : TapView). IsUnused t.front) (sym (get_or_from_slice_get taps k m.2 d m.4)) (tap_unused m.0 m.1 m.2.front m.5)

first_at : (o : Option (LockId Limits)) (f : Front Note Limits) → option_map first_front o ≡ Some f → f ≡ first_front f.lock
first_at (Some l) f e = let same : first_front l ≡ f = cc in sym same ∙ ap (λ (z : Front Note Limits). first_front z.lock) same
first_at None f e = absurd (cc)

-- of first seats one that made no other is its lock's first
pub stuck_first : (locks : List (LockId Limits)) (fs : List (Front Note Limits)) (g : Front Note Limits) → fs ≡ map first_front locks → IsStuck fs g → SplitFails (first_front g.lock) g
stuck_first locks fs g is s =
    let first = first_at (slice_get locks s.0) s.1 (sym (slice_get-map first_front locks s.0) ∙ ap (λ xs. slice_get xs s.0) (sym is) ∙ s.2) in
    subst (λ f. SplitFails f g) (first ∙ ap first_front (sym s.3)) s.4
