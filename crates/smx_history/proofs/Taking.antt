-- The next request to be taken: none before it has its name.
use Rattle.std.proofs.Common.{◌≡◌, ◌<◌, ◌+◌, ◌==◌, ℕ, Bool, true, false, cond, ◌||◌, ◌&&◌, List, [], ◌∷◌, ◌++◌, map, take, drop, refl, sym, ◌∙◌, ap, arith, filter, zero, suc, add-one}
use Rattle.std.specs.List.{list_any, AllByRecursion}
use Rattle.std.proofs.lemmas.List.{take-append-drop}
use Rattle.std.proofs.lemmas.Bool.{and_from, and_parts, and_left, and_right, eq-eqb, eqb-true, ne_eqb, false_from_ne_true, or_right, both_ways}
use Rattle.smx_history.specs.declared.entry.Entry.{Entry}
use Rattle.smx_history.specs.declared.entry.Kind.{Kind}
use Rattle.smx_history.specs.declared.entry.Kind.TheVariants as kind
use Rattle.smx_history.specs.Prefixes.{AtEach, RiseAbove}
use Rattle.smx_history.specs.Entries.{is_take, is_settling, takes, has_name, is_settled}
use Rattle.smx_history.specs.Legal.{IsPaired}
use Rattle.smx_history.proofs.Reading.{All-from_get}
use Rattle.smx_history.proofs.ListPushes.{any_kept}

-- a list is what stands before an element, the element and the rest
pub drop-split : {X : Type 0} (n : ℕ) (xs : List X) (y : X) (ys : List X) → drop n xs ≡ y ∷ ys → xs ≡ take n xs ++ y ∷ ys
drop-split n xs y ys h = sym (take-append-drop n xs) ∙ ap (λ zs. take n xs ++ zs) h

drop-next_suc : {X : Type 0} (n : ℕ) (xs : List X) (y : X) (ys : List X) → drop n xs ≡ y ∷ ys → drop (suc n) xs ≡ ys
drop-next_suc zero [] y ys h = cc
drop-next_suc (suc n) [] y ys h = cc
drop-next_suc zero (x ∷ xs) y ys h = cc
drop-next_suc (suc n) (x ∷ xs) y ys h = drop-next_suc n xs y ys h

pub drop-next : {X : Type 0} (n : ℕ) (xs : List X) (y : X) (ys : List X) → drop n xs ≡ y ∷ ys → drop (n + 1) xs ≡ ys
drop-next n xs y ys h = rw add-one (drop-next_suc n xs y ys h)

pub filter-and : {X : Type 0} (p q : X → Bool) (xs : List X) → filter (λ x. p x && q x) xs ≡ filter q (filter p xs)
filter-and p q [] = refl
filter-and p q (x ∷ xs) = filter-and_at (p x) (filter-and p q xs)
  where
    filter-and_at : (b : Bool) → filter (λ x. p x && q x) xs ≡ filter q (filter p xs) → cond (b && q x) (x ∷ filter (λ x. p x && q x) xs) (filter (λ x. p x && q x) xs) ≡ filter q (cond b (x ∷ filter p xs) (filter p xs))
    filter-and_at true h = ap (λ zs. cond (q x) (x ∷ zs) zs) h
    filter-and_at false h = h

-- the ordinals that rise are above the start
rises_at : (low c : ℕ) (xs : List Entry) (y : Entry) (zs : List Entry) → y.client ≡ c → RiseAbove low (map (λ e. e.ordinal) (filter (λ e. e.client == c) (xs ++ y ∷ zs))) → low < y.ordinal
rises_at low c [] y zs of rise = let here : (y.client == c) ≡ true = eq-eqb y.client c of in let r = rw here at rise in r.0
rises_at low c (x ∷ xs) y zs of rise = rises_at_x (x.client == c) rise (λ l. rises_at l c xs y zs of)
  where
    rises_at_x : (b : Bool) → RiseAbove low (map (λ e. e.ordinal) (cond b (x ∷ filter (λ e. e.client == c) (xs ++ y ∷ zs)) (filter (λ e. e.client == c) (xs ++ y ∷ zs)))) → ((l : ℕ) → RiseAbove l (map (λ e. e.ordinal) (filter (λ e. e.client == c) (xs ++ y ∷ zs))) → l < y.ordinal) → low < y.ordinal
    rises_at_x true r later = let h = later x.ordinal r.1 in omega (arith, h, r.0)
    rises_at_x false r later = later low r

-- before an accept none of its client has its ordinal
pub none_before : (low c : ℕ) (xs : List Entry) (y : Entry) (zs : List Entry) → y.client ≡ c → RiseAbove low (map (λ e. e.ordinal) (filter (λ e. e.client == c) (xs ++ y ∷ zs))) → AllByRecursion (λ x. has_name c y.ordinal x ≡ false) xs
none_before low c [] y zs of rise = tt
none_before low c (x ∷ xs) y zs of rise = none_before_x (x.client == c) refl rise (λ l. none_before l c xs y zs of)
  where
    none_before_x : (b : Bool) → (x.client == c) ≡ b → RiseAbove low (map (λ e. e.ordinal) (cond b (x ∷ filter (λ e. e.client == c) (xs ++ y ∷ zs)) (filter (λ e. e.client == c) (xs ++ y ∷ zs)))) → ((l : ℕ) → RiseAbove l (map (λ e. e.ordinal) (filter (λ e. e.client == c) (xs ++ y ∷ zs))) → AllByRecursion (λ x. has_name c y.ordinal x ≡ false) xs) → AllByRecursion (λ x. has_name c y.ordinal x ≡ false) (x ∷ xs)
    none_before_x true e r later =
        let above = rises_at x.ordinal c xs y zs of r.1 in
        (and_right (x.client == c) (x.ordinal == y.ordinal) (ne_eqb x.ordinal y.ordinal (λ same. omega (arith, above, same))), later x.ordinal r.1)
    none_before_x false e r later = (and_left (x.client == c) (x.ordinal == y.ordinal) e, later low r)

pub any_none : {X : Type 0} (p : X → Bool) (xs : List X) → AllByRecursion (λ x. p x ≡ false) xs → list_any p xs ≡ false
any_none p [] h = refl
any_none p (x ∷ xs) h = rw (h.0, any_none p xs h.1) refl

pub filter_none : {X : Type 0} (p : X → Bool) (xs : List X) → AllByRecursion (λ x. p x ≡ false) xs → filter p xs ≡ []
filter_none p [] h = refl
filter_none p (x ∷ xs) h = rw (h.0, filter_none p xs h.1) refl

-- an answer is to a request that was taken
settling_taken : (kind : Kind) (es : List Entry) (e : Entry) → IsPaired kind es e → is_settling kind ≡ true → list_any (λ t. is_take t.kind && (has_name e.client e.ordinal t && (t.number == e.number))) es ≡ true
settling_taken kind.Answer es e paired h = paired.taken
settling_taken kind.Late es e paired h = paired.taken
settling_taken kind.Fail es e paired h = paired.0.taken
settling_taken kind.Down es e paired h = cc
settling_taken kind.Up es e paired h = cc
settling_taken kind.Admit es e paired h = cc
settling_taken kind.Accept es e paired h = cc
settling_taken kind.Take es e paired h = cc
settling_taken kind.Collect es e paired h = cc
settling_taken kind.Retire es e paired h = cc

pub any_weaker : {X : Type 0} (p q : X → Bool) (xs : List X) → ((x : X) → p x ≡ true → q x ≡ true) → list_any p xs ≡ true → list_any q xs ≡ true
any_weaker p q [] w h = h
any_weaker p q (x ∷ xs) w h = any_weaker_at (p x) refl h (any_weaker p q xs w)
  where
    any_weaker_at : (b : Bool) → p x ≡ b → (b || list_any p xs) ≡ true → (list_any p xs ≡ true → list_any q xs ≡ true) → (q x || list_any q xs) ≡ true
    any_weaker_at true e t later = rw (w x e) refl
    any_weaker_at false e t later = or_right (q x) (list_any q xs) (later t)

pub any-and : (es : List Entry) (c n : ℕ) → AllByRecursion (λ t. has_name c n t ≡ false) (takes es) → list_any (λ t. is_take t.kind && has_name c n t) es ≡ false
any-and [] c n none = refl
any-and (e ∷ es) c n none = any-and_at (is_take e.kind) none (any-and es c n)
  where
    any-and_at : (b : Bool) → AllByRecursion (λ t. has_name c n t ≡ false) (cond b (e ∷ takes es) (takes es)) → (AllByRecursion (λ t. has_name c n t ≡ false) (takes es) → list_any (λ t. is_take t.kind && has_name c n t) es ≡ false) → ((b && has_name c n e) || list_any (λ t. is_take t.kind && has_name c n t) es) ≡ false
    any-and_at true h later = rw (h.0, later h.1) refl
    any-and_at false h later = later h

-- where no take has the name, no answer has it
pub not_settled : (c n : ℕ) (es : List Entry) → AtEach (λ before e. IsPaired e.kind before e) es → AllByRecursion (λ t. has_name c n t ≡ false) (takes es) → is_settled c n es ≡ false
not_settled c n es paired none =
    any_none (λ e. is_settling e.kind && has_name c n e) es
    (All-from_get (λ e. (is_settling e.kind && has_name c n e) ≡ false) es (λ k e at. false_from_ne_true _ (λ both.
    let w = and_parts (is_settling e.kind) (has_name c n e) both in
    let same = and_parts (e.client == c) (e.ordinal == n) w.1 in
    let before = settling_taken e.kind (take k es) e (paired k e at) w.0 in
    let named : list_any (λ t. is_take t.kind && has_name c n t) (take k es) ≡ true =
    any_weaker (λ t. is_take t.kind && (has_name e.client e.ordinal t && (t.number == e.number))) (λ t. is_take t.kind && has_name c n t) (take k es)
    (λ t h. let u = and_parts (is_take t.kind) (has_name e.client e.ordinal t && (t.number == e.number)) h in
    let x = and_parts (has_name e.client e.ordinal t) (t.number == e.number) u.1 in
    and_from _ _ u.0 (rw (← eqb-true e.client c same.0, ← eqb-true e.ordinal n same.1) x.0)) before in
    let now : list_any (λ t. is_take t.kind && has_name c n t) (take k es ++ drop k es) ≡ true = any_kept (λ t. is_take t.kind && has_name c n t) (take k es) (drop k es) named in
    let here : list_any (λ t. is_take t.kind && has_name c n t) es ≡ true = rw take-append-drop at now in
    let no : list_any (λ t. is_take t.kind && has_name c n t) es ≡ false = any-and es c n none in
    both_ways _ no here)))
