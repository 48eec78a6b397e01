-- The client to which an address goes, and whether a route is there, as they are computed.
use Rattle.std.proofs.Common.{◌≡◌, ◌≤◌, ◌==◌, ◌&&◌, ◌||◌, ◌∷◌, [], ℕ, Bool, true, false, List, length, get_or, take, drop, Option, Some, None, refl, ap, sym, ◌∙◌, arith, inl, inr, zero, suc, ◌⊎◌, nat_eq, nat_lt}
use Rattle.std.specs.List.{Contains, filter, starts_with}
use Rattle.std.specs.Prelude.{MatchOption, option_map, bytes_eq}
use Rattle.std.proofs.lemmas.Bool.{cases_Bool, cases_lt, eqb-true, eq-eqb, lt-ltb, le-ltb, ltb-true, and_parts, and_from, false≢true}
use Rattle.std.proofs.lemmas.List.{take_at}
use Rattle.std.proofs.lemmas.List.Elements.{All-contains, All-filter, All-contains_itself, filter_passes}
use Rattle.std.proofs.lemmas.List.Folds.{list_any_at}
use Rattle.std.proofs.lemmas.Map.Views.{Contains-from_any}
use Rattle.std.proofs.lemmas.Slice.Eq.{starts_is, bytes_eq-Decides}
use Rattle.smx_routes.specs.Routing.{Route, BeginsWith, IsLongest, IsRouted, is_preferred, better_of, best, client_for, is_route, has_route}

-- the first route is not preferred to the second
record IsBelow (s r : Route) : Type 0 where
  shorter : length s.prefix ≤ length r.prefix
  later : length s.prefix ≡ length r.prefix → r.client ≤ s.client

-- the route is in the list, and none there is preferred to it
record IsBest (rs : List Route) (r : Route) : Type 0 where
  there : Contains rs r
  unbeaten : (s : Route) → Contains rs s → IsBelow s r

starts : (address prefix : List ℕ) → starts_with nat_eq address prefix ≡ true → BeginsWith address prefix
starts address prefix is = record {
  rest = drop (length prefix) address;
  is = (starts_is (λ a b. (eqb-true a b, eq-eqb a b)) address prefix (starts_with nat_eq address prefix) refl).0 is;
}

started : (address prefix : List ℕ) → BeginsWith address prefix → starts_with nat_eq address prefix ≡ true
started address prefix begins = (starts_is (λ a b. (eqb-true a b, eq-eqb a b)) address prefix (starts_with nat_eq address prefix) refl).1 begins.rest begins.is

below_itself : (s r : Route) → r ≡ s → IsBelow s r
below_itself s r same =
    let prefixes : length r.prefix ≡ length s.prefix = ap (λ (x : Route). length x.prefix) same in
    let clients : r.client ≡ s.client = ap (λ (x : Route). x.client) same in
    record { shorter = omega arith; later = λ e. omega arith }

below_both : (s r t : Route) → IsBelow s r → IsBelow r t → IsBelow s t
below_both s r t first second = record {
  shorter = omega (arith, first.shorter, second.shorter);
  later = λ e.
      let one = first.later (omega (arith, first.shorter, second.shorter)) in
      let two = second.later (omega (arith, first.shorter, second.shorter)) in
      omega arith;
}

below_preferred : (s r : Route) → is_preferred s r ≡ true → IsBelow r s
below_preferred s r is =
    elim (cases_lt (length r.prefix) (length s.prefix)) [
      | inl longer ↦ record { shorter = omega arith; later = λ e. absurd (omega arith) }
      | inr no_longer ↦
          let rest : ((length s.prefix == length r.prefix) && nat_lt s.client r.client) ≡ true = rw (le-ltb (length r.prefix) (length s.prefix) no_longer) at is in
          let parts = and_parts (length s.prefix == length r.prefix) (nat_lt s.client r.client) rest in
          let lengths = eqb-true (length s.prefix) (length r.prefix) parts.0 in
          let clients = ltb-true s.client r.client parts.1 in
          record { shorter = omega arith; later = λ e. omega arith }
    ]

below_other : (s r : Route) → is_preferred s r ≡ false → IsBelow s r
below_other s r is =
    elim (cases_lt (length r.prefix) (length s.prefix)) [
      | inl longer ↦ absurd (false≢true (sym is ∙ ap (λ b. b || ((length s.prefix == length r.prefix) && nat_lt s.client r.client)) (lt-ltb (length r.prefix) (length s.prefix) longer)))
      | inr no_longer ↦ record {
        shorter = no_longer;
        later = λ e. elim (cases_lt s.client r.client) [
          | inl smaller ↦
              let both = and_from (length s.prefix == length r.prefix) (nat_lt s.client r.client) (eq-eqb (length s.prefix) (length r.prefix) e) (lt-ltb s.client r.client smaller) in
              let short = le-ltb (length r.prefix) (length s.prefix) no_longer in
              absurd (false≢true (sym is ∙ (λ i. short i || both i)))
          | inr not_smaller ↦ not_smaller
        ];
      }
    ]

contained : (r s : Route) (rs : List Route) → Contains (r ∷ rs) s → (r ≡ s) ⊎ Contains rs s
contained r s rs (zero, within, is) = inl is
contained r s rs (suc k, within, is) = inr (k, omega arith, is)

behind : (r s : Route) (rs : List Route) → Contains rs s → Contains (r ∷ rs) s
behind r s rs has = (suc has.0, omega (arith, has.1), has.2)

best_of : (r : Route) (rs : List Route) (o : Option Route) → MatchOption o (rs ≡ []) (IsBest rs) → IsBest (r ∷ rs) (better_of r o)
best_of r rs None none = record {
  there = (0, omega arith, refl);
  unbeaten = λ s has. elim (contained r s rs has) [
    | inl same ↦ below_itself s r same
    | inr rest ↦ absurd (omega (arith, rest.1, ap (λ (xs : List Route). length xs) none))
  ];
}
best_of r rs (Some b) is = elim (cases_Bool (is_preferred b r)) [
  | inl better ↦ rw better (record {
    there = behind r b rs is.there;
    unbeaten = λ s has. elim (contained r s rs has) [
      | inl same ↦ below_both s r b (below_itself s r same) (below_preferred b r better)
      | inr rest ↦ is.unbeaten s rest
    ];
  })
  | inr worse ↦ rw worse (record {
    there = (0, omega arith, refl);
    unbeaten = λ s has. elim (contained r s rs has) [
      | inl same ↦ below_itself s r same
      | inr rest ↦ below_both s b r (is.unbeaten s rest) (below_other b r worse)
    ];
  })
]

best_is : (rs : List Route) → MatchOption (best rs) (rs ≡ []) (IsBest rs)
best_is [] = refl
best_is (r ∷ rs) = best_of r rs (best rs) (best_is rs)

contained_filter : (p : Route → Bool) (r : Route) (rs : List Route) → p r ≡ true → Contains rs r → Contains (filter p rs) r
contained_filter p r [] is has = absurd (omega (arith, has.1))
contained_filter p r (x ∷ xs) is has =
    elim (cases_Bool (p x)) [
      | inl kept ↦ rw kept (elim (contained x r xs has) [
        | inl same ↦ (0, omega arith, same)
        | inr rest ↦ behind x r (filter p xs) (contained_filter p r xs is rest)
      ])
      | inr dropped ↦ rw dropped (elim (contained x r xs has) [
        | inl same ↦ absurd (false≢true (sym dropped ∙ ap p same ∙ is))
        | inr rest ↦ contained_filter p r xs is rest
      ])
    ]

module _ (rs : List Route) (address : List ℕ) where
  abbrev fits : Route → Bool
  fits r = starts_with nat_eq address r.prefix

  from_fitting : (r : Route) → Contains (filter fits rs) r → Contains rs r × BeginsWith address r.prefix
  from_fitting r has = (
    All-contains (Contains rs) (filter fits rs) r (All-filter fits (Contains rs) rs (All-contains_itself rs)) has,
    starts address r.prefix (All-contains (λ x. fits x ≡ true) (filter fits rs) r (filter_passes fits rs) has),
  )

  -- two prefixes of an address are one where they are as long
  one_prefix : (p q : List ℕ) → BeginsWith address p → BeginsWith address q → length p ≡ length q → p ≡ q
  one_prefix p q first second same =
      sym (ap (take (length q)) first.is ∙ take_at p first.rest (length q) same) ∙ ap (take (length q)) second.is ∙ take_at q second.rest (length q) refl

  longest_is : (r : Route) → IsLongest rs address r → (o : Option Route) → MatchOption o (filter fits rs ≡ []) (IsBest (filter fits rs)) → Some r.client ≡ option_map (λ x. x.client) o
  longest_is r longest None none =
      let has = contained_filter fits r rs (started address r.prefix longest.begins) longest.there in
      absurd (omega (arith, has.1, ap (λ (xs : List Route). length xs) none))
  longest_is r longest (Some b) is =
      let has = contained_filter fits r rs (started address r.prefix longest.begins) longest.there in
      let from = from_fitting b is.there in
      let below = is.unbeaten r has in
      let no_longer = longest.longest b from.0 from.1 in
      let lengths : length r.prefix ≡ length b.prefix = omega (arith, below.shorter, no_longer) in
      let clients : b.client ≤ r.client = below.later lengths in
      let least : r.client ≤ b.client = longest.least b from.0 (sym (one_prefix r.prefix b.prefix longest.begins from.1 lengths)) in
      ap (λ n. Some n) (omega arith)

  none_is : ((r : Route) → Contains rs r → ¬ BeginsWith address r.prefix) → (o : Option Route) → MatchOption o (filter fits rs ≡ []) (IsBest (filter fits rs)) → None ≡ option_map (λ x. x.client) o
  none_is none None is = refl
  none_is none (Some b) is = let from = from_fitting b is.there in absurd (none b from.0 from.1)

-- an address goes to one client
pub routed_is : (rs : List Route) (address : List ℕ) (o : Option ℕ) → IsRouted rs address o → o ≡ client_for rs address
routed_is rs address None is = none_is rs address is (best (filter (fits rs address) rs)) (best_is (filter (fits rs address) rs))
routed_is rs address (Some client) is = ap (λ n. Some n) (sym is.2) ∙ longest_is rs address is.0 is.1 (best (filter (fits rs address) rs)) (best_is (filter (fits rs address) rs))

bytes : (p q : List ℕ) → bytes_eq p q ≡ true → p ≡ q
bytes p q is = (bytes_eq-Decides p q).0 is

pub same_route : (r s : Route) → is_route r s ≡ true → r ≡ s
same_route r s is =
    let parts = and_parts (bytes_eq r.prefix s.prefix) (r.client == s.client) is in
    λ i. record { prefix = bytes r.prefix s.prefix parts.0 i; client = eqb-true r.client s.client parts.1 i }

route_itself : (r s : Route) → s ≡ r → is_route r s ≡ true
route_itself r s same = and_from (bytes_eq r.prefix s.prefix) (r.client == s.client) ((bytes_eq-Decides r.prefix s.prefix).1 (ap (λ (x : Route). x.prefix) (sym same))) (eq-eqb r.client s.client (ap (λ (x : Route). x.client) (sym same)))

pub has_it : (rs : List Route) (r : Route) → Contains rs r → has_route rs r ≡ true
has_it rs r has = list_any_at (is_route r) rs has.0 r has.1 (route_itself r (get_or rs has.0 r) has.2)

pub is_there : (rs : List Route) (r : Route) → has_route rs r ≡ true → Contains rs r
is_there rs r has = Contains-from_any same_route r rs has

pub has_not : (rs : List Route) (r : Route) → ¬ Contains rs r → has_route rs r ≡ false
has_not rs r has = elim (cases_Bool (has_route rs r)) [
  | inl there ↦ absurd (has (is_there rs r there))
  | inr missing ↦ missing
]
