-- Lists that grow at their end by one element.
use Rattle.std.proofs.Common.{◌≡◌, ◌<◌, ◌≤◌, ℕ, Bool, true, false, cond, ◌||◌, List, [], ◌∷◌, ◌++◌, length, take, get_or, refl, sym, ◌∙◌, ap, subst, arith, Some, slice_get, filter, length-append, length-take, inl, inr, zero, suc}
use Rattle.std.specs.List.{list_any, AllByRecursion}
use Rattle.std.proofs.lemmas.List.{append-nil, take-append-le}
use Rattle.std.proofs.lemmas.List.Elements.{filter-append}
use Rattle.std.proofs.lemmas.List.Folds.{list_any-append}
use Rattle.std.proofs.lemmas.Bool.{cases_lt}
use Rattle.std.proofs.lemmas.Option.{slice_get_within, slice_get-get_or, get_or_from_slice_get}
use Rattle.std.proofs.Math.Seq.{take-length, take-append_seam, get_or-append_seam}
use Rattle.std.proofs.Math.ListN.{get_or-append}
use Rattle.smx_history.specs.Prefixes.{AtEachPrefix, AtEach, StartsWith, RiseAbove, last_or}

-- a filter passes over a new element, or takes it
pub filter_other : {X : Type 0} (p : X → Bool) (xs : List X) (x : X) → p x ≡ false → filter p (xs ++ x ∷ []) ≡ filter p xs
filter_other p xs x h = filter-append p xs (x ∷ []) ∙ ap (λ b. filter p xs ++ cond b (x ∷ []) []) h ∙ append-nil (filter p xs)

pub filter_push : {X : Type 0} (p : X → Bool) (xs : List X) (x : X) → p x ≡ true → filter p (xs ++ x ∷ []) ≡ filter p xs ++ x ∷ []
filter_push p xs x h = filter-append p xs (x ∷ []) ∙ ap (λ b. filter p xs ++ cond b (x ∷ []) []) h

or_false : (b : Bool) → (b || false) ≡ b
or_false true = refl
or_false false = refl

pub any_other : {X : Type 0} (p : X → Bool) (xs : List X) (x : X) → p x ≡ false → list_any p (xs ++ x ∷ []) ≡ list_any p xs
any_other p xs x h = list_any-append p xs (x ∷ []) ∙ ap (λ b. list_any p xs || (b || false)) h ∙ or_false (list_any p xs)

pub any_push : {X : Type 0} (p : X → Bool) (xs : List X) (x : X) → p x ≡ true → list_any p (xs ++ x ∷ []) ≡ true
any_push p [] x h = rw h refl
any_push p (y ∷ xs) x h = elim (p y) as (λ b. (b || list_any p (xs ++ x ∷ [])) ≡ true) [ true ↦ refl | false ↦ any_push p xs x h ]

pub any_kept : {X : Type 0} (p : X → Bool) (xs ys : List X) → list_any p xs ≡ true → list_any p (xs ++ ys) ≡ true
any_kept p xs ys h = list_any-append p xs ys ∙ ap (λ b. b || list_any p ys) h

pub take_past : {X : Type 0} (k : ℕ) (xs : List X) → length xs ≤ k → take k xs ≡ xs
take_past zero [] h = refl
take_past (suc k) [] h = refl
take_past zero (x ∷ xs) h = absurd (omega arith)
take_past (suc k) (x ∷ xs) h = ap (λ ys. x ∷ ys) (take_past k xs (omega arith))

-- every prefix of the longer list is a prefix of the list, or the longer list
pub AtEachPrefix-push : {X : Type 0} (P : List X → Type 0) (xs : List X) (x : X) → AtEachPrefix P xs → P (xs ++ x ∷ []) → AtEachPrefix P (xs ++ x ∷ [])
AtEachPrefix-push P xs x h new k =
    elim (cases_lt (length xs) k) [
      | inl past ↦ subst P (sym (take_past k (xs ++ x ∷ []) (let n = length-append xs (x ∷ []) in omega arith))) new
      | inr within ↦ subst P (sym (take-append-le k xs (x ∷ []) within)) (h k)
    ]

pub AtEachPrefix-whole : {X : Type 0} (P : List X → Type 0) (xs : List X) → AtEachPrefix P xs → P xs
AtEachPrefix-whole P xs h = subst P (take-length xs) (h (length xs))

pub AtEach-push : {X : Type 0} (Q : List X → X → Type 0) (xs : List X) (x : X) → AtEach Q xs → Q xs x → AtEach Q (xs ++ x ∷ [])
AtEach-push Q xs x h new k y at =
    let within : k < length (xs ++ x ∷ []) = slice_get_within (xs ++ x ∷ []) k y at in
    let n = length-append xs (x ∷ []) in
    let is : get_or (xs ++ x ∷ []) k y ≡ y = get_or_from_slice_get (xs ++ x ∷ []) k y y at in
    elim (cases_lt k (length xs)) [
      | inl inside ↦
          let there : get_or xs k y ≡ y = sym (get_or-append xs (x ∷ []) y k inside) ∙ is in
          let was : slice_get xs k ≡ Some y = slice_get-get_or xs k y inside ∙ ap Some there in
          rw (take-append-le k xs (x ∷ []) (omega arith)) (h k y was)
      | inr last ↦
          let here : k ≡ length xs = omega arith in
          let same : x ≡ y = sym (get_or-append_seam xs x [] y) ∙ ap (λ j. get_or (xs ++ x ∷ []) j y) (sym here) ∙ is in
          let all : take k (xs ++ x ∷ []) ≡ xs = ap (λ j. take j (xs ++ x ∷ [])) here ∙ take-append_seam xs (x ∷ []) in
          rw (all, ← same) new
    ]

-- a longer list begins with what it began with
pub StartsWith-more : {X : Type 0} (ys xs zs : List X) → StartsWith ys xs → StartsWith (ys ++ zs) xs
StartsWith-more ys xs zs h =
    let n : length xs ≤ length ys = omega (arith, length-take (length xs) ys, ap length h) in
    take-append-le (length xs) ys zs n ∙ h

pub StartsWith-length : {X : Type 0} (ys xs : List X) → StartsWith ys xs → length xs ≤ length ys
StartsWith-length ys xs h = omega (arith, length-take (length xs) ys, ap length h)

pub RiseAbove-push : (low : ℕ) (xs : List ℕ) (x : ℕ) → RiseAbove low xs → last_or low xs < x → RiseAbove low (xs ++ x ∷ [])
RiseAbove-push low [] x rise above = (above, tt)
RiseAbove-push low (y ∷ xs) x rise above = (rise.0, RiseAbove-push y xs x rise.1 above)

pub last_or-push : {X : Type 0} (low : X) (xs : List X) (x : X) → last_or low (xs ++ x ∷ []) ≡ x
last_or-push low [] x = refl
last_or-push low (y ∷ xs) x = last_or-push y xs x

pub All-push : {X : Type 0} (P : X → Type 0) (xs : List X) (x : X) → AllByRecursion P xs → P x → AllByRecursion P (xs ++ x ∷ [])
All-push P [] x h new = (new, tt)
All-push P (y ∷ xs) x h new = (h.0, All-push P xs x h.1 new)

-- what holds of each element of a longer list held before the last, and of the last
pub AtEach-init : {X : Type 0} (Q : List X → X → Type 0) (xs : List X) (x : X) → AtEach Q (xs ++ x ∷ []) → AtEach Q xs
AtEach-init Q xs x h k y at =
    let within : k < length xs = slice_get_within xs k y at in
    let n = length-append xs (x ∷ []) in
    let same : get_or (xs ++ x ∷ []) k y ≡ y = get_or-append xs (x ∷ []) y k within ∙ get_or_from_slice_get xs k y y at in
    let there : slice_get (xs ++ x ∷ []) k ≡ Some y = slice_get-get_or (xs ++ x ∷ []) k y (omega arith) ∙ ap Some same in
    subst (λ ys. Q ys y) (take-append-le k xs (x ∷ []) (omega arith)) (h k y there)

pub AtEach-last : {X : Type 0} (Q : List X → X → Type 0) (xs : List X) (x : X) → AtEach Q (xs ++ x ∷ []) → Q xs x
AtEach-last Q xs x h =
    let n = length-append xs (x ∷ []) in
    let there : slice_get (xs ++ x ∷ []) (length xs) ≡ Some x = slice_get-get_or (xs ++ x ∷ []) (length xs) x (omega arith) ∙ ap Some (get_or-append_seam xs x [] x) in
    subst (λ ys. Q ys x) (take-append_seam xs (x ∷ [])) (h (length xs) x there)

pub AtEachPrefix-init : {X : Type 0} (P : List X → Type 0) (xs : List X) (x : X) → AtEachPrefix P (xs ++ x ∷ []) → AtEachPrefix P xs
AtEachPrefix-init P xs x h k =
    elim (cases_lt (length xs) k) [
      | inl past ↦ subst P (take-append_seam xs (x ∷ []) ∙ sym (take_past k xs (omega arith))) (h (length xs))
      | inr within ↦ subst P (take-append-le k xs (x ∷ []) within) (h k)
    ]
