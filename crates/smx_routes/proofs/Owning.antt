-- The routes of a table by the clients, after a change at one client.
use Rattle.std.proofs.Common.{◌≡◌, ◌==◌, ℕ, Bool, true, false, not, cond, List, [], ◌∷◌, ◌++◌, map, Some, None, refl, sym, ap, ◌∙◌, inl, inr}
use Rattle.std.specs.Prelude.{IsPermutation}
use Rattle.std.specs.Option.{option_map_or}
use Rattle.std.specs.List.{filter, flat_map}
use Rattle.std.specs.Map.{lookup, set_value, remove_entry}
use Rattle.std.specs.Ordering.{nat_cmp, match_ordering}
use Rattle.std.specs.Cmp.{unsigned_tied, nat_eq_equiv}
use Rattle.std.specs.Global.{Vec}
use Rattle.std.specs.BTreeMap.{insert_entry, is_at}
use Rattle.std.specs.declared.cmp.Ordering.{Ordering}
use Rattle.std.specs.declared.cmp.Ordering.TheVariants.{Less, Equal, Greater}
use Rattle.std.proofs.lemmas.Bool.{cases_Bool, eqb-true}
use Rattle.std.proofs.lemmas.List.{map-append, append-nil}
use Rattle.std.proofs.lemmas.List.Elements.{filter-append}
use Rattle.std.proofs.lemmas.List.Sorted.{IsPermutation-refl, IsPermutation-sym, IsPermutation-trans, IsPermutation-to_front, IsPermutation-middle, IsPermutation-append_left, IsPermutation-append_right}
use Rattle.smx_routes.specs.Routing.{Route, route}
use Rattle.smx_routes.specs.Private.Owned.{owned_at}

abbrev pub Entries : Type 0
Entries = List (ℕ × Vec (Vec ℕ))

abbrev pub owned : Entries → List Route
owned es = flat_map owned_at es

-- one more route before some, and behind others
later : (r : Route) (front rest new : List Route) → IsPermutation (r ∷ rest) new → IsPermutation (r ∷ (front ++ rest)) (front ++ new)
later r front rest new moved =
    IsPermutation-trans _ _ _ (IsPermutation-sym _ _ (IsPermutation-middle front r rest)) (IsPermutation-append_right front _ _ moved)

module _ (client : ℕ) where
  abbrev pub at_client : ℕ → Bool
  at_client k = is_at (nat_cmp client) k

  the_client : (k : ℕ) → at_client k ≡ true → client ≡ k
  the_client k is = eqb-true client k (sym (unsigned_tied client k) ∙ is)

  one_more : (k : ℕ) (v w : Vec (Vec ℕ)) (p : Vec ℕ) → client ≡ k → w.items ≡ v.items ++ p ∷ [] → IsPermutation (route p.items client ∷ owned_at (k, v)) (owned_at (k, w))
  one_more k v w p same more =
      let put : owned_at (k, w) ≡ owned_at (k, v) ++ route p.items client ∷ [] =
      ap (map (λ q. route q.items k)) more ∙ map-append (λ q. route q.items k) v.items (p ∷ []) ∙ ap (λ n. owned_at (k, v) ++ route p.items n ∷ []) (sym same) in
      rw put (IsPermutation-sym _ _ (IsPermutation-to_front (owned_at (k, v)) (route p.items client)))

  -- one more of the client's prefixes
  pub pushed : (es : Entries) (v w : Vec (Vec ℕ)) (p : Vec ℕ) → lookup at_client es ≡ Some v → w.items ≡ v.items ++ p ∷ [] → IsPermutation (route p.items client ∷ owned es) (owned (set_value at_client es w))
  pushed [] v w p found more = cc
  pushed (e ∷ es) v w p found more = elim (cases_Bool (at_client e.0)) [
    | inl here ↦
        let is : Some e.1 ≡ Some v = rw here at found in
        let value : e.1 ≡ v = cc in
        let first : w.items ≡ e.1.items ++ p ∷ [] = more ∙ ap (λ (u : Vec (Vec ℕ)). u.items ++ p ∷ []) (sym value) in
        rw here (IsPermutation-append_left (owned es) _ _ (one_more e.0 e.1 w p (the_client e.0 here) first))
    | inr other ↦ rw other (later (route p.items client) (owned_at e) (owned es) (owned (set_value at_client es w)) (pushed es v w p (rw other at found) more))
  ]

  -- the client's prefixes as they were
  pub kept : (es : Entries) (v w : Vec (Vec ℕ)) → lookup at_client es ≡ Some v → w.items ≡ v.items → owned (set_value at_client es w) ≡ owned es
  kept [] v w found same = refl
  kept (e ∷ es) v w found same = elim (cases_Bool (at_client e.0)) [
    | inl here ↦
        let is : Some e.1 ≡ Some v = rw here at found in
        let value : e.1 ≡ v = cc in
        let first : w.items ≡ e.1.items = same ∙ ap (λ (u : Vec (Vec ℕ)). u.items) (sym value) in
        rw here (ap (λ ps. map (λ q. route q.items e.0) ps ++ owned es) first)
    | inr other ↦ rw other (ap (λ rs. owned_at e ++ rs) (kept es v w (rw other at found) same))
  ]

  added_at : (o : Ordering) (e : ℕ × Vec (Vec ℕ)) (es : Entries) (w : Vec (Vec ℕ)) (p : Vec ℕ) → nat_cmp client e.0 ≡ o → lookup at_client (e ∷ es) ≡ None → w.items ≡ p ∷ []
      → (lookup at_client es ≡ None → IsPermutation (route p.items client ∷ owned es) (owned (insert_entry nat_cmp es client w)))
      → IsPermutation (route p.items client ∷ owned (e ∷ es)) (owned (match_ordering o ((client, w) ∷ e ∷ es) ((e.0, w) ∷ es) (e ∷ insert_entry nat_cmp es client w)))
  added_at Less e es w p is missing one rest = rw one (IsPermutation-refl _)
  added_at Equal e es w p is missing one rest = let found : Some e.1 ≡ None = rw is at missing in cc
  added_at Greater e es w p is missing one rest =
      later (route p.items client) (owned_at e) (owned es) (owned (insert_entry nat_cmp es client w)) (rest (rw is at missing))

  -- the first of the client's prefixes
  pub added : (es : Entries) (w : Vec (Vec ℕ)) (p : Vec ℕ) → lookup at_client es ≡ None → w.items ≡ p ∷ [] → IsPermutation (route p.items client ∷ owned es) (owned (insert_entry nat_cmp es client w))
  added [] w p missing one = rw one (IsPermutation-refl _)
  added (e ∷ es) w p missing one = added_at (nat_cmp client e.0) e es w p refl missing one (λ rest. added es w p rest one)

  abbrev is_its : Route → Bool
  is_its r = r.client == client

  abbrev is_other : Route → Bool
  is_other r = not (r.client == client)

  filter_at : (p : Route → Bool) (b : Bool) (k : ℕ) (ps : List (Vec ℕ)) → ((q : List ℕ) → p (route q k) ≡ b) → filter p (map (λ q. route q.items k) ps) ≡ cond b (map (λ q. route q.items k) ps) []
  filter_at p true k [] alike = refl
  filter_at p false k [] alike = refl
  filter_at p true k (q ∷ ps) alike = rw (alike q.items) (ap (λ rs. route q.items k ∷ rs) (filter_at p true k ps alike))
  filter_at p false k (q ∷ ps) alike = rw (alike q.items) (filter_at p false k ps alike)

  its_test : (k : ℕ) → (k == client) ≡ at_client k
  its_test k = nat_eq_equiv.symm k client ∙ sym (unsigned_tied client k)

  -- where the client has no entry
  none_its : (es : Entries) → lookup at_client es ≡ None → (filter is_its (owned es) ≡ []) × (filter is_other (owned es) ≡ owned es)
  none_its [] missing = (refl, refl)
  none_its (e ∷ es) missing = elim (cases_Bool (at_client e.0)) [
    | inl here ↦ let found : Some e.1 ≡ None = rw here at missing in cc
    | inr other ↦
        let rest = none_its es (rw other at missing) in
        let test : (e.0 == client) ≡ false = its_test e.0 ∙ other in (
          filter-append is_its (owned_at e) (owned es) ∙ ap (λ rs. rs ++ filter is_its (owned es)) (filter_at is_its false e.0 e.1.items (λ q. test)) ∙ rest.0,
          filter-append is_other (owned_at e) (owned es) ∙ (λ i. filter_at is_other true e.0 e.1.items (λ q. ap not test) i ++ rest.1 i),
        )
  ]

  -- what is taken out is the client's, and the others are left
  pub parted : (es : Entries) → lookup at_client (remove_entry at_client es) ≡ None → (option_map_or (λ v. owned_at (client, v)) (lookup at_client es) [] ≡ filter is_its (owned es)) × (owned (remove_entry at_client es) ≡ filter is_other (owned es))
  parted [] none = (refl, refl)
  parted (e ∷ es) none = elim (cases_Bool (at_client e.0)) [
    | inl here ↦
        let rest = none_its es (rw here at none) in
        let test : (e.0 == client) ≡ true = its_test e.0 ∙ here in
        rw here (
          ap (λ k. owned_at (k, e.1)) (the_client e.0 here)
              ∙ sym (filter-append is_its (owned_at e) (owned es) ∙ (λ i. filter_at is_its true e.0 e.1.items (λ q. test) i ++ rest.0 i) ∙ append-nil (owned_at e)),
          sym (filter-append is_other (owned_at e) (owned es) ∙ (λ i. filter_at is_other false e.0 e.1.items (λ q. ap not test) i ++ rest.1 i)),
        )
    | inr other ↦
        let rest = parted es (rw (other, other) at none) in
        let test : (e.0 == client) ≡ false = its_test e.0 ∙ other in
        rw other (
          rest.0 ∙ sym (filter-append is_its (owned_at e) (owned es) ∙ ap (λ rs. rs ++ filter is_its (owned es)) (filter_at is_its false e.0 e.1.items (λ q. test))),
          sym (filter-append is_other (owned_at e) (owned es) ∙ (λ i. filter_at is_other true e.0 e.1.items (λ q. ap not test) i ++ sym rest.1 i)),
        )
  ]
