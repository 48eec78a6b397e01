-- A client that was not admitted has no entry.
use Rattle.std.proofs.Common.{◌≡◌, ◌<◌, ◌≤◌, ◌==◌, ℕ, Bool, true, false, cond, ◌||◌, ◌&&◌, List, [], ◌∷◌, ◌++◌, map, take, drop, refl, ◌∙◌, arith, filter}
use Rattle.std.specs.List.{list_any, AllByRecursion}
use Rattle.std.proofs.lemmas.List.{take-append-drop}
use Rattle.std.proofs.lemmas.Bool.{and_from, and_parts, eqb-true, eq-eqb, ne_eqb, false_from_ne_true, both_ways}
use Rattle.smx_history.specs.declared.entry.Kind.{Kind}
use Rattle.smx_history.specs.declared.entry.Kind.TheVariants as kind
use Rattle.smx_history.specs.declared.entry.Entry.{Entry}
use Rattle.smx_history.specs.Prefixes.{AtEach, RiseAbove, last_or}
use Rattle.smx_history.specs.Entries.{is_admit, is_accept, is_answer, is_collect, is_retire, has_name, admits, accepts_of, answers_of, collects_of, is_retired, is_accepted}
use Rattle.smx_history.specs.Legal.{StandsWell, IsPaired, IsServed}
use Rattle.smx_history.proofs.ListPushes.{any_kept}
use Rattle.smx_history.proofs.Reading.{All-from_get, All-each, answer_accepted}
use Rattle.smx_history.proofs.Taking.{any_none, filter_none, any_weaker}

-- numbers that rise are none above the last
pub rise_last : (low : ℕ) (xs : List ℕ) → RiseAbove low xs → (low ≤ last_or low xs) × AllByRecursion (λ x. x ≤ last_or low xs) xs
rise_last low [] rise = (omega arith, tt)
rise_last low (x ∷ xs) rise = let rest = rise_last x xs rise.1 in (omega (arith, rest.0, rise.0), (rest.0, rest.1))

none_equal : {X : Type 0} (f : X → ℕ) (p : X → Bool) (c last : ℕ) (xs : List X) → last < c → AllByRecursion (λ n. n ≤ last) (map f (filter p xs)) → list_any (λ x. p x && (f x == c)) xs ≡ false
none_equal f p c last [] above all = refl
none_equal f p c last (x ∷ xs) above all = none_equal_at (p x) all (none_equal f p c last xs above)
  where
    none_equal_at : (b : Bool) → AllByRecursion (λ n. n ≤ last) (map f (cond b (x ∷ filter p xs) (filter p xs))) → (AllByRecursion (λ n. n ≤ last) (map f (filter p xs)) → list_any (λ y. p y && (f y == c)) xs ≡ false) → ((b && (f x == c)) || list_any (λ y. p y && (f y == c)) xs) ≡ false
    none_equal_at true h later = rw (ne_eqb (f x) c (λ e. omega (arith, h.0, above, e)), later h.1) refl
    none_equal_at false h later = later h

-- above the greatest client none was admitted
pub none_admitted : (es : List Entry) (c : ℕ) → RiseAbove 0 (map (λ e. e.client) (admits es)) → last_or 0 (map (λ e. e.client) (admits es)) < c → list_any (λ e. is_admit e.kind && (e.client == c)) es ≡ false
none_admitted es c rise above =
    let r = rise_last 0 (map (λ e. e.client) (admits es)) rise in
    none_equal (λ (e : Entry). e.client) (λ e. is_admit e.kind) c (last_or 0 (map (λ e. e.client) (admits es))) es above r.1

-- accepts, collects and retires are of clients that were admitted
is_own : Kind → Bool
is_own kind.Accept = true
is_own kind.Collect = true
is_own kind.Retire = true
is_own _ = false

own_served : (k : Kind) (before : List Entry) (e : Entry) → StandsWell k before e → is_own k ≡ true → IsServed before e
unfolding is_own
own_served kind.Accept before e h own = h.0
own_served kind.Collect before e h own = h
own_served kind.Retire before e h own = h
own_served kind.Admit before e h own = cc
own_served kind.Take before e h own = cc
own_served kind.Answer before e h own = cc
own_served kind.Late before e h own = cc
own_served kind.Fail before e h own = cc
own_served kind.Down before e h own = cc
own_served kind.Up before e h own = cc

none_own : (c : ℕ) (es : List Entry) → AtEach (λ before e. StandsWell e.kind before e) es → list_any (λ e. is_admit e.kind && (e.client == c)) es ≡ false → AllByRecursion (λ e. (is_own e.kind && (e.client == c)) ≡ false) es
none_own c es standing none =
    All-from_get (λ e. (is_own e.kind && (e.client == c)) ≡ false) es (λ k e at. false_from_ne_true _ (λ both.
    let w = and_parts (is_own e.kind) (e.client == c) both in
    let served = own_served e.kind (take k es) e (standing k e at) w.0 in
    let before : list_any (λ x. is_admit x.kind && (x.client == c)) (take k es) ≡ true =
    any_weaker (λ x. is_admit x.kind && ((x.client == e.client) && (x.by == e.by))) (λ x. is_admit x.kind && (x.client == c)) (take k es)
    (λ x h.
    let u = and_parts (is_admit x.kind) ((x.client == e.client) && (x.by == e.by)) h in
    let y = and_parts (x.client == e.client) (x.by == e.by) u.1 in
    and_from _ _ u.0 (eq-eqb x.client c (eqb-true x.client e.client y.0 ∙ eqb-true e.client c w.1))) served.0 in
    let now : list_any (λ x. is_admit x.kind && (x.client == c)) (take k es ++ drop k es) ≡ true = any_kept (λ x. is_admit x.kind && (x.client == c)) (take k es) (drop k es) before in
    let here : list_any (λ x. is_admit x.kind && (x.client == c)) es ≡ true = rw take-append-drop at now in
    both_ways _ none here))

-- what is known of a client that was not admitted
pub record IsUnseen (c : ℕ) (es : List Entry) : Type 0 where
  pub accepts : accepts_of c es ≡ []
  pub answers : answers_of c es ≡ []
  pub collects : collects_of c es ≡ []
  pub retired : is_retired c es ≡ false

own_kind : (k : Kind) (b : Bool) → (is_own k && b) ≡ false → ((is_accept k && b) ≡ false) × ((is_collect k && b) ≡ false) × ((is_retire k && b) ≡ false)
unfolding is_own
own_kind kind.Accept b h = (h, refl, refl)
own_kind kind.Collect b h = (refl, h, refl)
own_kind kind.Retire b h = (refl, refl, h)
own_kind kind.Admit b h = (refl, refl, refl)
own_kind kind.Take b h = (refl, refl, refl)
own_kind kind.Answer b h = (refl, refl, refl)
own_kind kind.Late b h = (refl, refl, refl)
own_kind kind.Fail b h = (refl, refl, refl)
own_kind kind.Down b h = (refl, refl, refl)
own_kind kind.Up b h = (refl, refl, refl)

pub unseen : (c : ℕ) (es : List Entry) → AtEach (λ before e. StandsWell e.kind before e) es → AtEach (λ before e. IsPaired e.kind before e) es → list_any (λ e. is_admit e.kind && (e.client == c)) es ≡ false → IsUnseen c es
unseen c es standing paired none =
    let own = none_own c es standing none in
    let no_accept : AllByRecursion (λ e. (is_accept e.kind && (e.client == c)) ≡ false) es =
    All-each (λ e. (is_own e.kind && (e.client == c)) ≡ false) (λ e. (is_accept e.kind && (e.client == c)) ≡ false) (λ e h. (own_kind e.kind (e.client == c) h).0) es own in
    record {
      accepts = filter_none (λ e. is_accept e.kind && (e.client == c)) es no_accept;
      answers = filter_none (λ e. is_answer e.kind && (e.client == c)) es
          (All-from_get (λ e. (is_answer e.kind && (e.client == c)) ≡ false) es (λ k e at. false_from_ne_true _ (λ both.
          let w = and_parts (is_answer e.kind) (e.client == c) both in
          let before : is_accepted e.client e.ordinal (take k es) ≡ true = answer_accepted e.kind (take k es) e (paired k e at) w.0 in
          let weaker : list_any (λ x. is_accept x.kind && (x.client == c)) (take k es) ≡ true =
          any_weaker (λ x. is_accept x.kind && has_name e.client e.ordinal x) (λ x. is_accept x.kind && (x.client == c)) (take k es)
          (λ x h.
          let u = and_parts (is_accept x.kind) (has_name e.client e.ordinal x) h in
          let y = and_parts (x.client == e.client) (x.ordinal == e.ordinal) u.1 in
          and_from _ _ u.0 (eq-eqb x.client c (eqb-true x.client e.client y.0 ∙ eqb-true e.client c w.1))) before in
          let now : list_any (λ x. is_accept x.kind && (x.client == c)) (take k es ++ drop k es) ≡ true = any_kept (λ x. is_accept x.kind && (x.client == c)) (take k es) (drop k es) weaker in
          let here : list_any (λ x. is_accept x.kind && (x.client == c)) es ≡ true = rw take-append-drop at now in
          both_ways _ (any_none (λ x. is_accept x.kind && (x.client == c)) es no_accept) here)));
      collects = filter_none (λ e. is_collect e.kind && (e.client == c)) es
          (All-each (λ e. (is_own e.kind && (e.client == c)) ≡ false) (λ e. (is_collect e.kind && (e.client == c)) ≡ false) (λ e h. (own_kind e.kind (e.client == c) h).1) es own);
      retired = any_none (λ e. is_retire e.kind && (e.client == c)) es
          (All-each (λ e. (is_own e.kind && (e.client == c)) ≡ false) (λ e. (is_retire e.kind && (e.client == c)) ≡ false) (λ e h. (own_kind e.kind (e.client == c) h).2) es own);
    }
