-- What a list that is one element longer tells of the list before, and of the element.
use Rattle.std.proofs.Common.{◌≡◌, ◌<◌, ◌+◌, ◌==◌, ℕ, Bool, true, false, cond, List, [], ◌∷◌, ◌++◌, length, map, take, get_or, refl, ◌∙◌, ap, arith, Some, slice_get, filter, length-append, count_by, zero, suc, nat_eq}
use Rattle.std.specs.List.{AllByRecursion, IsDistinct}
use Rattle.std.proofs.lemmas.List.Sums.{sum_by-cons}
use Rattle.std.proofs.lemmas.Option.{slice_get_within, get_or_from_slice_get}
use Rattle.std.proofs.Math.Seq.{take-suc}
use Rattle.smx_history.specs.declared.entry.Entry.{Entry}
use Rattle.smx_history.specs.Prefixes.{StartsWith, RiseAbove, last_or}
use Rattle.smx_history.proofs.ListPushes.{All-push}
use Rattle.smx_history.proofs.Counts.{count_by-push}

pub RiseAbove-init : (low : ℕ) (xs ys : List ℕ) → RiseAbove low (xs ++ ys) → RiseAbove low xs
RiseAbove-init low [] ys rise = tt
RiseAbove-init low (x ∷ xs) ys rise = (rise.0, RiseAbove-init x xs ys rise.1)

pub RiseAbove-end : (low : ℕ) (xs : List ℕ) (x : ℕ) → RiseAbove low (xs ++ x ∷ []) → last_or low xs < x
RiseAbove-end low [] x rise = rise.0
RiseAbove-end low (y ∷ xs) x rise = RiseAbove-end y xs x rise.1

pub IsDistinct-end : (xs : List ℕ) (x : ℕ) → IsDistinct nat_eq (xs ++ x ∷ []) → AllByRecursion (λ y. nat_eq y x ≡ false) xs
unfolding IsDistinct
IsDistinct-end [] x h = tt
IsDistinct-end (y ∷ xs) x h = (All-end xs h.0, IsDistinct-end xs x h.1)
  where
    All-end : (zs : List ℕ) → AllByRecursion (λ z. nat_eq y z ≡ false) (zs ++ x ∷ []) → nat_eq y x ≡ false
    All-end [] h = h.0
    All-end (z ∷ zs) h = All-end zs h.1

-- what a list begins with may be followed by the next element
pub StartsWith-next : {X : Type 0} (ys xs : List X) (x : X) → StartsWith ys xs → slice_get ys (length xs) ≡ Some x → StartsWith ys (xs ++ x ∷ [])
StartsWith-next ys xs x h at =
    let n = length-append xs (x ∷ []) in
    let count : length (xs ++ x ∷ []) ≡ suc (length xs) = omega (arith, n) in
    ap (λ k. take k ys) count ∙ take-suc ys (length xs) x (slice_get_within ys (length xs) x at)
    ∙ ap (λ zs. zs ++ get_or ys (length xs) x ∷ []) h ∙ ap (λ z. xs ++ z ∷ []) (get_or_from_slice_get ys (length xs) x x at)

get_end : {X : Type 0} (xs : List X) (x : X) → slice_get (xs ++ x ∷ []) (length xs) ≡ Some x
get_end [] x = refl
get_end (y ∷ xs) x = get_end xs x

get_taken : {X : Type 0} (k i : ℕ) (ys : List X) (x : X) → slice_get (take k ys) i ≡ Some x → slice_get ys i ≡ Some x
get_taken zero i [] x at = cc
get_taken zero i (y ∷ ys) x at = cc
get_taken (suc k) i [] x at = cc
get_taken (suc k) zero (y ∷ ys) x at = at
get_taken (suc k) (suc i) (y ∷ ys) x at = get_taken k i ys x at

pub StartsWith-end : {X : Type 0} (ys xs : List X) (x : X) → StartsWith ys (xs ++ x ∷ []) → slice_get ys (length xs) ≡ Some x
StartsWith-end ys xs x h = get_taken (length (xs ++ x ∷ [])) (length xs) ys x (ap (λ zs. slice_get zs (length xs)) h ∙ get_end xs x)

-- none of a number where none is counted
pub none_numbered : (u : ℕ) (us : List Entry) → count_by (λ e. e.number == u) us ≡ 0 → AllByRecursion (λ k. nat_eq k u ≡ false) (map (λ e. e.number) us)
none_numbered u [] h = tt
none_numbered u (e ∷ us) h = none_numbered_at (e.number == u) refl (none_numbered u us)
  where
    none_numbered_at : (b : Bool) → (e.number == u) ≡ b → (count_by (λ x. x.number == u) us ≡ 0 → AllByRecursion (λ k. nat_eq k u ≡ false) (map (λ x. x.number) us)) → (nat_eq e.number u ≡ false) × AllByRecursion (λ k. nat_eq k u ≡ false) (map (λ x. x.number) us)
    none_numbered_at true is later = absurd (omega (arith, h, sum_by-cons (λ (x : Entry). cond (x.number == u) 1 0) e us, ap {B = ℕ} (λ b. cond b 1 0) is))
    none_numbered_at false is later = (is, later (omega (arith, h, sum_by-cons (λ (x : Entry). cond (x.number == u) 1 0) e us)))

pub count_numbered : (u : ℕ) (us : List Entry) → AllByRecursion (λ k. nat_eq k u ≡ false) (map (λ e. e.number) us) → count_by (λ e. e.number == u) us ≡ 0
count_numbered u [] h = refl
count_numbered u (e ∷ us) h = omega (arith, count_numbered u us h.1, sum_by-cons (λ (x : Entry). cond (x.number == u) 1 0) e us, ap {B = ℕ} (λ b. cond b 1 0) h.0)

pub count_other : {X : Type 0} (p : X → Bool) (xs : List X) (x : X) → p x ≡ false → count_by p (xs ++ x ∷ []) ≡ count_by p xs
count_other p xs x h = count_by-push p xs x ∙ ap (λ b. count_by p xs + cond b 1 0) h ∙ (omega arith)

pub count_one : {X : Type 0} (p : X → Bool) (xs : List X) (x : X) → p x ≡ true → count_by p (xs ++ x ∷ []) ≡ count_by p xs + 1
count_one p xs x h = count_by-push p xs x ∙ ap (λ b. count_by p xs + cond b 1 0) h

-- part of numbers that are apart are apart
pub apart-filter : (p : Entry → Bool) (us : List Entry) → IsDistinct nat_eq (map (λ e. e.number) us) → IsDistinct nat_eq (map (λ e. e.number) (filter p us))
unfolding IsDistinct
apart-filter p [] h = h
apart-filter p (t ∷ us) h = apart-filter_at (p t) (apart-filter p us h.1) (others us h.0)
  where
    others_at : (w : Entry) (ws : List Entry) (b : Bool) → nat_eq t.number w.number ≡ false → AllByRecursion (λ y. nat_eq t.number y ≡ false) (map (λ e. e.number) (filter p ws)) → AllByRecursion (λ y. nat_eq t.number y ≡ false) (map (λ e. e.number) (cond b (w ∷ filter p ws) (filter p ws)))
    others_at w ws true a rest = (a, rest)
    others_at w ws false a rest = rest

    others : (ws : List Entry) → AllByRecursion (λ y. nat_eq t.number y ≡ false) (map (λ e. e.number) ws) → AllByRecursion (λ y. nat_eq t.number y ≡ false) (map (λ e. e.number) (filter p ws))
    others [] a = a
    others (w ∷ ws) a = others_at w ws (p w) a.0 (others ws a.1)

    apart-filter_at : (b : Bool) → IsDistinct nat_eq (map (λ e. e.number) (filter p us)) → AllByRecursion (λ y. nat_eq t.number y ≡ false) (map (λ e. e.number) (filter p us)) → IsDistinct nat_eq (map (λ e. e.number) (cond b (t ∷ filter p us) (filter p us)))
    apart-filter_at true rest apart = (apart, rest)
    apart-filter_at false rest apart = rest

pub IsDistinct-push : (xs : List ℕ) (x : ℕ) → IsDistinct nat_eq xs → AllByRecursion (λ y. nat_eq y x ≡ false) xs → IsDistinct nat_eq (xs ++ x ∷ [])
unfolding IsDistinct
IsDistinct-push [] x h apart = (tt, tt)
IsDistinct-push (y ∷ xs) x h apart = (All-push (λ z. nat_eq y z ≡ false) xs x h.0 apart.0, IsDistinct-push xs x h.1 apart.1)
