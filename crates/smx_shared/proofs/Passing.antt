-- A list of fronts, at one place.
use Rattle.std.proofs.Common.{◌≡◌, ◌≢◌, ◌<◌, ℕ, List, [], ◌∷◌, length, set, get_or, slice_get, Some, sym, ◌∙◌, ap, arith, inl, inr}
use Rattle.std.proofs.lemmas.List.{get_or-set_same, get_or-set_other, length-map, length-set}
use Rattle.std.proofs.lemmas.Bool.{cases_lt}
use Rattle.std.proofs.lemmas.Option.{slice_get-get_or, slice_get_past}
use Rattle.std.proofs.Math.ListN.{get_or-map}
use Rattle.smx_lock.specs.Fronts.{Front, LockId}
use Rattle.smx_history.specs.declared.limits.Limits.{Limits}
use Rattle.smx_history.specs.declared.note.Note.{Note}
use Rattle.smx_shared.specs.Views.{locks_of}

pub has_at : {X : Type 0} (xs : List X) (k : ℕ) → k < length xs → (x : X) × (slice_get xs k ≡ Some x)
has_at [] k h = absurd (omega arith)
has_at (x ∷ xs) k h = (get_or (x ∷ xs) k x, slice_get-get_or (x ∷ xs) k x h)

pub got_same : {X : Type 0} (xs : List X) (i : ℕ) (y : X) → i < length xs → slice_get (set xs i y) i ≡ Some y
got_same xs i y h = slice_get-get_or (set xs i y) i y (omega (arith, length-set xs i y)) ∙ ap Some (get_or-set_same xs i y y h)

pub got_other : {X : Type 0} (xs : List X) (i k : ℕ) (y : X) → k ≢ i → slice_get (set xs i y) k ≡ slice_get xs k
got_other xs i k y apart = elim (cases_lt k (length xs)) [
  | inl within ↦ slice_get-get_or (set xs i y) k y (omega (arith, length-set xs i y)) ∙ ap Some (get_or-set_other xs i k y y apart) ∙ sym (slice_get-get_or xs k y within)
  | inr past ↦ slice_get_past (set xs i y) k (omega (arith, length-set xs i y)) ∙ sym (slice_get_past xs k past)
]

pub some_same : {X : Type 0} (a b : X) → Some a ≡ Some b → a ≡ b
some_same a b h = cc

-- the lock of a seat is that of its place in the list
pub lock_at : (fs : List (Front Note Limits)) (ls : List (LockId Limits)) (i : ℕ) (f : Front Note Limits) (l : LockId Limits) → locks_of fs ≡ ls
    → f ≡ get_or fs i f → l ≡ get_or ls i l → i < length fs → f.lock ≡ l
lock_at fs ls i f l same at there within =
    ap (λ x. x.lock) at ∙ sym (get_or-map (λ (x : Front Note Limits). x.lock) fs i f) ∙ ap (λ xs. get_or xs i f.lock) same
    ∙ some_same (get_or ls i f.lock) (get_or ls i l) (sym (slice_get-get_or ls i f.lock w) ∙ slice_get-get_or ls i l w) ∙ sym there
  where
    w : i < length ls
    w = omega (arith, length-map fs (λ (x : Front Note Limits). x.lock), ap length same, within)
