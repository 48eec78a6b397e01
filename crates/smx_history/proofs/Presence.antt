-- The clients that are present.
use Rattle.std.proofs.Common.{◌≡◌, ◌==◌, Bool, true, false, not, ◌&&◌, ◌||◌, List, [], ◌∷◌, ◌++◌, filter, refl, ◌∙◌, ap, ◌≤◌, ℕ, cond, length, map, arith, inl, inr, count_by, suc}
use Rattle.std.proofs.lemmas.List.Elements.{filter_agree}
use Rattle.std.proofs.lemmas.List.Folds.{list_any-append}
use Rattle.smx_history.specs.declared.entry.Entry.{Entry}
use Rattle.smx_history.specs.declared.entry.Kind.TheVariants as kind
use Rattle.smx_history.specs.Entries.{is_admit, is_retire, admits, is_retired, present, is_accept, has_name, is_accepted}
use Rattle.smx_history.proofs.ListPushes.{filter_push}
use Rattle.smx_history.proofs.Frames.{admits-other, is_retired-other}
use Rattle.smx_history.proofs.Taking.{filter-and, any_weaker}
use Rattle.smx_history.proofs.Counts.{eqb_sym, count_by-filter, count-filter-le, any_count}
use Rattle.std.specs.List.{list_any}
use Rattle.std.proofs.lemmas.List.Sums.{sum_by-cons, length-filter}
use Rattle.std.proofs.lemmas.Bool.{and_from, and_parts, eqb-true, eq-eqb, ne_eqb, cases_eq, cases_Bool}
use Rattle.smx_history.specs.declared.limits.Limits.{Limits}
use Rattle.smx_history.specs.Prefixes.{RiseAbove}
use Rattle.smx_history.specs.Legal.{IsMembership, KeepsRules}
use Rattle.smx_history.proofs.Unseen.{unseen}

-- the client joins those that are present
pub present_admitted : (es : List Entry) (e : Entry) → e.kind ≡ kind.Admit → is_retired e.client es ≡ false → present (es ++ e ∷ []) ≡ present es ++ e ∷ []
present_admitted es e k here =
    ap (filter (λ x. not (is_retired x.client (es ++ e ∷ [])))) (filter_push (λ x. is_admit x.kind) es e (ap is_admit k))
    ∙ filter_agree (λ x. not (is_retired x.client (es ++ e ∷ []))) (λ x. not (is_retired x.client es)) (λ x. ap not (is_retired-other x.client es e (ap is_retire k))) (admits es ++ e ∷ [])
    ∙ filter_push (λ x. not (is_retired x.client es)) (admits es) e (ap not here)

-- the client leaves those that are present
pub present_retired : (es : List Entry) (e : Entry) → e.kind ≡ kind.Retire → present (es ++ e ∷ []) ≡ filter (λ a. not (a.client == e.client)) (present es)
present_retired es e k =
    ap (filter (λ x. not (is_retired x.client (es ++ e ∷ [])))) (admits-other es e (ap is_admit k))
    ∙ filter_agree (λ x. not (is_retired x.client (es ++ e ∷ []))) (λ x. not (is_retired x.client es) && not (x.client == e.client))
    (λ x. ap not (list_any-append (λ y. is_retire y.kind && (y.client == x.client)) es (e ∷ []) ∙ ap (λ b. is_retired x.client es || b) (one x)) ∙ de_morgan (is_retired x.client es) (x.client == e.client)) (admits es)
    ∙ filter-and (λ x. not (is_retired x.client es)) (λ x. not (x.client == e.client)) (admits es)
  where
    or_nothing : (b : Bool) → (b || false) ≡ b
    or_nothing true = refl
    or_nothing false = refl

    de_morgan : (a b : Bool) → not (a || b) ≡ (not a && not b)
    de_morgan true b = refl
    de_morgan false b = refl

    one : (x : Entry) → ((is_retire e.kind && (e.client == x.client)) || false) ≡ (x.client == e.client)
    one x = or_nothing (is_retire e.kind && (e.client == x.client)) ∙ ap (λ b. b && (e.client == x.client)) (ap is_retire k) ∙ eqb_sym e.client x.client

-- numbers that rise have each number once
rise_count : {X : Type 0} (f : X → ℕ) (c low : ℕ) (xs : List X) → RiseAbove low (map f xs) → (count_by (λ x. f x == c) xs ≤ 1) × (c ≤ low → count_by (λ x. f x == c) xs ≡ 0)
rise_count f c low [] rise = (omega arith, λ h. refl)
rise_count f c low (x ∷ xs) rise =
    let rest = rise_count f c (f x) xs rise.1 in
    let cons = sum_by-cons (λ y. cond (f y == c) 1 0) x xs in
    elim (cases_eq (f x) c) [
      | inl same ↦
          let one : cond (f x == c) 1 0 ≡ suc 0 = ap {B = ℕ} (λ b. cond b 1 0) (eq-eqb (f x) c same) in
          let none = rest.1 (omega (arith, same)) in
          (omega (arith, cons, one, none), λ h. absurd (omega (arith, h, rise.0, same)))
      | inr apart ↦
          let zero' : ◌≡◌ {A = ℕ} (cond (f x == c) 1 0) 0 = ap {B = ℕ} (λ b. cond b 1 0) (ne_eqb (f x) c apart) in
          (omega (arith, cons, zero', rest.0), λ h. let none = rest.1 (omega (arith, h, rise.0)) in omega (arith, cons, zero', none))
    ]

-- a client that was admitted and has not retired is present once
pub present_once : (es : List Entry) (c : ℕ) → IsMembership es → list_any (λ e. is_admit e.kind && (e.client == c)) es ≡ true → is_retired c es ≡ false → count_by (λ a. a.client == c) (present es) ≡ 1
present_once es c membership there here =
    let few = count-filter-le (λ (a : Entry). a.client == c) (λ a. not (is_retired a.client es)) (admits es) in
    let once = (rise_count (λ (e : Entry). e.client) c 0 (admits es) membership.clients).0 in
    let all = count_by-filter (λ (a : Entry). a.client == c) (λ a. not (is_retired a.client es)) (admits es) ∙ count_by-filter (λ (a : Entry). (a.client == c) && not (is_retired a.client es)) (λ a. is_admit a.kind) es in
    let some = any_count (λ (a : Entry). ((a.client == c) && not (is_retired a.client es)) && is_admit a.kind) es
    (any_weaker (λ e. is_admit e.kind && (e.client == c)) (λ (a : Entry). ((a.client == c) && not (is_retired a.client es)) && is_admit a.kind) es
    (λ x h. let w = and_parts (is_admit x.kind) (x.client == c) h in
    and_from _ _ (and_from _ _ w.1 (ap not (ap (λ d. is_retired d es) (eqb-true x.client c w.1) ∙ here))) w.0) there) in
    omega (arith, few, once, all, some)

-- a client with an accept was admitted
pub accepted_admitted : (limits : Limits) (es : List Entry) (c n : ℕ) → KeepsRules limits es → is_accepted c n es ≡ true → list_any (λ e. is_admit e.kind && (e.client == c)) es ≡ true
accepted_admitted limits es c n legal there =
    elim (cases_Bool (list_any (λ e. is_admit e.kind && (e.client == c)) es)) [
      | inl some ↦ some
      | inr none ↦
          let empty = unseen c es legal.standing legal.pairing none in
          let weak = any_weaker (λ x. is_accept x.kind && has_name c n x) (λ x. is_accept x.kind && (x.client == c)) es
          (λ x h. let w = and_parts (is_accept x.kind) (has_name c n x) h in let y = and_parts (x.client == c) (x.ordinal == n) w.1 in and_from _ _ w.0 y.0) there in
          let some = any_count (λ x. is_accept x.kind && (x.client == c)) es weak in
          absurd (omega (arith, some, length-filter (λ x. is_accept x.kind && (x.client == c)) es, ap length empty.accepts))
    ]
