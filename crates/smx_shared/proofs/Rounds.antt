-- Rounds over the lanes, step by step.
use Rattle.std.proofs.Common.{◌≡◌, ◌<◌, ◌≤◌, ◌+◌, ℕ, List, [], ◌∷◌, ◌++◌, length, set, take, get_or, slice_get, Some, refl, sym, ◌∙◌, ap, subst, arith, inl, inr, length-append, suc}
use Rattle.std.proofs.lemmas.List.{length-set, length-map, get_or_append_left, map-append}
use Rattle.std.proofs.lemmas.Bool.{cases_eq}
use Rattle.std.proofs.lemmas.Option.{slice_get-get_or, slice_get_read, slice_get_within, get_or_from_slice_get}
use Rattle.std.proofs.Math.Seq.{map-set_same, get_or-append_seam, take-suc}
use Rattle.std.proofs.Math.ListN.{get_or-map}
use Rattle.smx_lock.specs.Fronts.{Front}
use Rattle.smx_history.specs.declared.limits.Limits.{Limits}
use Rattle.smx_history.specs.declared.note.Note.{Note}
use Rattle.smx_shared.specs.Views.{locks_of}
use Rattle.smx_shared.specs.Rounds.{Makes}
use Rattle.smx_shared.proofs.Passing.{got_same, got_other, some_same}

pub got_end : {X : Type 0} (xs : List X) (x : X) (k : ℕ) → length xs ≡ k → slice_get (xs ++ x ∷ []) k ≡ Some x
got_end xs x k n =
    slice_get-get_or (xs ++ x ∷ []) k x (omega (arith, length-append xs (x ∷ []), n)) ∙ ap Some (ap (λ i. get_or (xs ++ x ∷ []) i x) (sym n) ∙ get_or-append_seam xs x [] x)

pub got_left : {X : Type 0} (xs : List X) (x : X) (k : ℕ) → k < length xs → slice_get (xs ++ x ∷ []) k ≡ slice_get xs k
got_left xs x k h =
    slice_get-get_or (xs ++ x ∷ []) k x (omega (arith, length-append xs (x ∷ []), h)) ∙ ap Some (get_or_append_left xs (x ∷ []) x k h) ∙ sym (slice_get-get_or xs k x h)

module _ {X : Type 0} (Made : ℕ → Front Note Limits → Front Note Limits → X → Type 0) where
  pub makes_none : (old : List (Front Note Limits)) → Makes Made 0 old old []
  makes_none old = record { count = refl; made_count = refl; each = λ k f g x was now at. absurd (let w = slice_get_within [] k x at in omega (arith, w)); above = λ k h. refl; locks = refl }

  pub makes_on : (i : ℕ) (old cur : List (Front Note Limits)) (made : List X) (f g : Front Note Limits) (x : X) → Makes Made i old cur made
      → slice_get cur i ≡ Some f → Made i f g x → g.lock ≡ f.lock → Makes Made (i + 1) old (set cur i g) (made ++ x ∷ [])
  makes_on i old cur made f g x p at did lock = record {
    count = length-set cur i g ∙ p.count;
    made_count = omega (arith, length-append made (x ∷ []), p.made_count);
    each = λ k f' g' x' was now new. elim (cases_eq k i) [
      | inl here ↦
          let same : f' ≡ f = some_same f' f (sym was ∙ ap (slice_get old) here ∙ sym (p.above i (omega arith)) ∙ at) in
          let after : g' ≡ g = some_same g' g (sym now ∙ ap (slice_get (set cur i g)) here ∙ got_same cur i g (slice_get_within cur i f at)) in
          let it : x' ≡ x = some_same x' x (sym new ∙ got_end made x k (p.made_count ∙ sym here)) in
          subst (λ n. Made n f' g' x') (sym here) (subst (λ z. Made i z g' x') (sym same) (subst (λ z. Made i f z x') (sym after) (subst (λ z. Made i f g z) (sym it) did)))
      | inr apart ↦
          let below : k < length made = (let w = slice_get_within (made ++ x ∷ []) k x' new in omega (arith, w, apart, length-append made (x ∷ []), p.made_count)) in
          p.each k f' g' x' was (sym (got_other cur i k g apart) ∙ now) (sym (got_left made x k below) ∙ new)
    ];
    above = λ k h. got_other cur i k g (λ e. omega (arith, e, h)) ∙ p.above k (omega arith);
    locks = map-set_same (λ (z : Front Note Limits). z.lock) cur i g f (lock ∙ ap (λ z. z.lock) (sym (get_or_from_slice_get cur i f f at))) ∙ p.locks;
  }

  pub makes_cur : (i n : ℕ) (old cur : List (Front Note Limits)) (made : List X) (f : Front Note Limits) → Makes Made i old cur made → n ≤ length old → i < n
      → f ≡ get_or cur i f → slice_get cur i ≡ Some f
  makes_cur i n old cur made f p room within at = slice_get_read cur (length cur) i f refl (omega (arith, p.count, room, within)) at

-- one more lock of a front
pub locks_more : (i : ℕ) (made cur old : List (Front Note Limits)) (f p : Front Note Limits) → locks_of made ≡ take i (locks_of old) → locks_of cur ≡ locks_of old
    → slice_get cur i ≡ Some f → p.lock ≡ f.lock → locks_of (made ++ p ∷ []) ≡ take (i + 1) (locks_of old)
locks_more i made cur old f p so_far same at lock =
    let within : i < length (locks_of cur) = (let w = slice_get_within cur i f at in omega (arith, w, length-map cur (λ (z : Front Note Limits). z.lock))) in
    let here : get_or (locks_of cur) i f.lock ≡ f.lock = get_or-map (λ (z : Front Note Limits). z.lock) cur i f ∙ ap (λ z. z.lock) (get_or_from_slice_get cur i f f at) in
    map-append (λ (z : Front Note Limits). z.lock) made (p ∷ [])
    ∙ ap (λ ls. ls ++ p.lock ∷ []) (so_far ∙ ap (take i) (sym same))
    ∙ ap (λ l. take i (locks_of cur) ++ l ∷ []) (lock ∙ sym here)
    ∙ sym (take-suc (locks_of cur) i f.lock within)
    ∙ ap (take (suc i)) same
    ∙ (let e : suc i ≡ i + 1 = omega arith in ap (λ n. take n (locks_of old)) e)
