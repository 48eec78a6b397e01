-- A table by the prefixes, after a change at one prefix.
use Rattle.std.proofs.Common.{◌≡◌, ◌==◌, ℕ, Bool, true, false, cond, List, Option, None, rules, refl, sym, ap, subst, ◌∙◌, inl, inr}
use Rattle.std.specs.Option.{option_map_or}
use Rattle.std.specs.Result.{OnErr}
use Rattle.std.specs.declared.result.Result.{Result}
use Rattle.std.specs.declared.result.Result.TheVariants.{Ok, Err}
use Rattle.std.specs.Prelude.{bytes_eq}
use Rattle.std.specs.Map.{lookup, IsKeyTest, AreApart, KeepsOthers}
use Rattle.std.specs.Ordering.{nat_cmp, is_eq}
use Rattle.std.specs.Cmp.{unsigned_tied, nat_eq_equiv}
use Rattle.std.specs.Cmp.Lexicographic.{nat_list_eq_equiv}
use Rattle.std.specs.Global.{Vec}
use Rattle.std.specs.HashMap.{HashMap, get_by, UpdatesBy}
use Rattle.std.specs.BTreeSet.{BTreeSet, contains}
use Rattle.std.proofs.lemmas.Bool.{cases_Bool}
use Rattle.std.proofs.lemmas.Slice.Eq.{bytes_eq-Decides}
use Rattle.smx_routes.specs.declared.by_prefix.ByPrefix.{ByPrefix}
use Rattle.smx_routes.specs.Private.Holders.{has_holder, HasSame, SetsHolder}

other_entries : {K X : Type 0} (eq : K → K → Bool) (test : K → Bool) (old new : List (K × X)) → KeepsOthers eq test old new → (other : K → Bool) → IsKeyTest eq other → AreApart test other → lookup other new ≡ lookup other old
unfolding KeepsOthers
other_entries eq test old new h = h

apart : (bs cs ks : List ℕ) → bytes_eq bs cs ≡ false → bytes_eq bs ks ≡ true → bytes_eq cs ks ≡ false
apart bs cs ks other same =
    nat_list_eq_equiv.symm cs ks ∙ sym (nat_list_eq_equiv.congr bs ks cs same) ∙ other

-- the octets of another prefix find what they found
others : {X S : Type 0} (bs : List ℕ) (m n : HashMap (Vec ℕ) X S) (w : Option X) → UpdatesBy (λ x y. bytes_eq x.items y.items) (λ k. bytes_eq bs k.items) m n w
    → (cs : List ℕ) → bytes_eq bs cs ≡ false → get_by (λ k. bytes_eq cs k.items) n ≡ get_by (λ k. bytes_eq cs k.items) m
others bs m n w updates cs other =
    other_entries _ _ _ _ updates.3 _ (λ x y. nat_list_eq_equiv.congr cs x.items y.items) (λ k. apart bs cs k.items other)

-- whether a client is in the set, if there is one
abbrev pub is_held : Option (BTreeSet ℕ) → ℕ → Bool
is_held o client = option_map_or (λ clients. contains nat_cmp clients client) o false

module _ (old new : ByPrefix) (prefix : List ℕ) (w : Option (BTreeSet ℕ)) (updates : UpdatesBy (λ x y. bytes_eq x.items y.items) (λ k. bytes_eq prefix k.items) old.clients new.clients w) where
  here : (p : List ℕ) (c : ℕ) → bytes_eq prefix p ≡ true → has_holder new p c ≡ is_held w c
  here p c same = subst (λ q. has_holder new q c ≡ is_held w c) ((bytes_eq-Decides prefix p).0 same) (ap (λ o. is_held o c) updates.1)

  there : (p : List ℕ) (c : ℕ) → bytes_eq prefix p ≡ false → has_holder new p c ≡ has_holder old p c
  there p c other = ap (λ o. is_held o c) (others prefix old.clients new.clients w updates p other)

  -- the set at the prefix has the same clients
  pub same-HasSame : ((c : ℕ) → is_held w c ≡ has_holder old prefix c) → HasSame old new
  same-HasSame same = λ p c. elim (cases_Bool (bytes_eq prefix p)) [
    | inl equal ↦ here p c equal ∙ same c ∙ ap (λ q. has_holder old q c) ((bytes_eq-Decides prefix p).0 equal)
    | inr other ↦ there p c other
  ]

  -- the set at the prefix has, or hasn't, the client, and has the same others
  pub set-SetsHolder : (b : Bool) (client : ℕ) → ((c : ℕ) → is_held w c ≡ cond (is_eq (nat_cmp client c)) b (has_holder old prefix c)) → SetsHolder b old prefix client new
  set-SetsHolder b client set = λ p c. elim (cases_Bool (bytes_eq prefix p)) [
    | inl equal ↦
        let turned : bytes_eq p prefix ≡ true = nat_list_eq_equiv.symm p prefix ∙ equal in
        let client_test : is_eq (nat_cmp client c) ≡ (c == client) = unsigned_tied client c ∙ nat_eq_equiv.symm client c in
        let old_here : has_holder old prefix c ≡ has_holder old p c = ap (λ q. has_holder old q c) ((bytes_eq-Decides prefix p).0 equal) in
        here p c equal ∙ set c ∙ (λ i. cond (client_test i) b (old_here i)) ∙ rw turned refl
    | inr other ↦
        let turned : bytes_eq p prefix ≡ false = nat_list_eq_equiv.symm p prefix ∙ other in
        there p c other ∙ rw turned refl
  ]

-- a set with no clients taken out leaves the same
pub none-HasSame : (mid new : ByPrefix) (prefix : List ℕ) → UpdatesBy (λ x y. bytes_eq x.items y.items) (λ k. bytes_eq prefix k.items) mid.clients new.clients None → ((c : ℕ) → has_holder mid prefix c ≡ false) → HasSame mid new
none-HasSame mid new prefix updates none = same-HasSame mid new prefix None updates (λ c. sym (none c))

-- what holds anyway
pub on_err : {T E P : Type 0} (r : Result T E) → P → OnErr r P
on_err (Ok x) p = search rules
on_err (Err e) p = p
