-- How entries and counts go on by one movement.
use Rattle.std.proofs.Common.{◌≡◌, ◌<◌, ◌≤◌, ◌==◌, ◌+◌, ◌-◌, ℕ, true, false, List, [], ◌∷◌, ◌++◌, length, reverse, get_or, set, Option, Some, None, refl, ap, sym, ◌∙◌, arith, add-one, inl, inr, zero, suc, subst, nat_lt}
use Rattle.std.specs.Prelude.{if◌then◌else◌, All, replicate, slice_get}
use Rattle.std.specs.List.{range_with_len}
use Rattle.std.proofs.lemmas.Bool.{cases_Bool, eqb-true, eq-eqb, false≢true, or_parts, ltb-false}
use Rattle.std.proofs.lemmas.List.{get_or-set_other, reverse-append}
use Rattle.std.proofs.lemmas.List.FromFn.{length-range_with_len, get_or-range_with_len}
use Rattle.std.proofs.lemmas.Grind.{get_or-set_at}
use Rattle.std.proofs.lemmas.Option.{slice_get_within, get_or_from_slice_get}
use Rattle.smx_slots.specs.declared.movement.Movement.{Movement}
use Rattle.smx_slots.specs.declared.movement.Movement.TheVariants.{Bound, Accepted, Settled, Left}
use Rattle.smx_slots.specs.declared.limits.AccountLimits.{AccountLimits}
use Rattle.smx_slots.specs.declared.entries.Entry.{Entry}
use Rattle.smx_slots.specs.Ledger.{Book, is_bound, is_known, requests_of, bound_of, is_below, may_bind}
use Rattle.smx_slots.specs.Private.LedgerFields.{IsOf, IsForgotten, IsEntry, AreCounts}

pub latest : (xs ys : List Movement) (n : Movement) → ys ≡ xs ++ n ∷ [] → reverse ys ≡ n ∷ reverse xs
latest xs ys n more = ap reverse more ∙ reverse-append xs (n ∷ [])

-- one key more
range_suc : (a n : ℕ) → range_with_len a (suc n) ≡ range_with_len a n ++ (a + n) ∷ []
range_suc a zero = let here : a ≡ a + 0 = omega arith in ap (λ (x : ℕ). x ∷ []) here
range_suc a (suc n) =
    let next : a + 1 + n ≡ a + suc n = omega arith in
    ap (λ (xs : List ℕ). a ∷ xs) (range_suc (a + 1) n ∙ ap (λ (x : ℕ). range_with_len (a + 1) n ++ x ∷ []) next)

pub range_more : (a n : ℕ) → range_with_len a (n + 1) ≡ range_with_len a n ++ (a + n) ∷ []
range_more a n = rw (add-one n) (range_suc a n)

-- the first keys are below their count
pub keys_within : (n m : ℕ) (keys : List ℕ) → keys ≡ range_with_len 0 n → n ≡ m → All (λ key. key < m) keys
keys_within n m keys are same = λ k d low.
    let within : k < n = omega (arith, low, ap length are, length-range_with_len 0 n) in
    let is : get_or keys k d ≡ 0 + k = ap (λ (xs : List ℕ). get_or xs k d) are ∙ get_or-range_with_len 0 n k d within in
    omega (arith, is, within, same)

-- the account at an index has a key
pub key_within : (keys : List ℕ) (n i key : ℕ) → All (λ k. k < n) keys → Some key ≡ slice_get keys i → key < n
key_within keys n i key low at =
    let within = slice_get_within keys i key (sym at) in
    let is = get_or_from_slice_get keys i key 0 (sym at) in
    omega (arith, low i 0 within, is)

zero_at : (n k : ℕ) → get_or {A = ℕ} (replicate n 0) k 0 ≡ 0
zero_at zero k = refl
zero_at (suc n) zero = refl
zero_at (suc n) (suc k) = zero_at n k

-- a count of none
pub none_counted : (n k : ℕ) (counts : List ℕ) → counts ≡ replicate n 0 → get_or counts k 0 ≡ 0
none_counted n k counts are = ap (λ (xs : List ℕ). get_or xs k 0) are ∙ zero_at n k

-- of a client that isn't known nothing is left
pub forgotten : (client : ℕ) (movements : List Movement) → is_known client movements ≡ false → IsForgotten client movements
forgotten client movements unknown =
    let parts = or_parts (is_bound client movements) (nat_lt 0 (requests_of client movements)) unknown in
    let few = ltb-false 0 (requests_of client movements) parts.1 in
    record { gone = parts.0; requests = omega (arith, few) }

-- a client may be bound where nothing stands in the way
pub bind_allowed : (client key : ℕ) (limits : AccountLimits) (book : Book) → slice_get book.limits key ≡ Some limits → book.draining ≡ false → is_known client book.movements ≡ false
    → is_below limits.binds (bound_of key book.movements) ≡ true → may_bind client (Some key) book ≡ true
bind_allowed client key limits book at goes_on unknown below =
    let none = forgotten client book.movements unknown in
    rw (goes_on, none.gone, none.requests, at, below) refl

-- whose movement it is
abbrev client_of : Movement → ℕ
client_of (Bound c key) = c
client_of (Accepted c) = c
client_of (Settled c) = c
client_of (Left c) = c

itself : (n : ℕ) → (n == n) ≡ true
itself n = eq-eqb n n refl

apart : (q p : ℕ) → (q == p) ≡ false → p ≡ q → ⊥
apart q p differ same = absurd (false≢true (sym differ ∙ eq-eqb q p (sym same)))

module _ (accounts : ℕ) (movements : List Movement) where
  -- a movement of another client
  passes : (n : Movement) (o : Option Entry) (c : ℕ) → (client_of n == c) ≡ false → IsEntry accounts o c movements → IsEntry accounts o c (n ∷ movements)
  passes (Bound d key) (Some e) c differ h = record { account = rw differ h.account; here = rw differ h.here; requests = h.requests; within = h.within }
  passes (Bound d key) None c differ h = record { gone = rw differ h.gone; requests = h.requests }
  passes (Accepted d) (Some e) c differ h = record { account = h.account; here = h.here; requests = rw differ h.requests; within = h.within }
  passes (Accepted d) None c differ h = record { gone = h.gone; requests = rw differ h.requests }
  passes (Settled d) (Some e) c differ h = record { account = h.account; here = h.here; requests = rw differ h.requests; within = h.within }
  passes (Settled d) None c differ h = record { gone = h.gone; requests = rw differ h.requests }
  passes (Left d) (Some e) c differ h = record { account = h.account; here = rw differ h.here; requests = h.requests; within = h.within }
  passes (Left d) None c differ h = record { gone = rw differ h.gone; requests = h.requests }

  module _ (old new : ℕ → Option Entry) (entry : Option Entry) (client : ℕ) (is : (c : ℕ) → IsEntry accounts (old c) c movements) (sets : (c : ℕ) → new c ≡ (if client == c then entry else old c)) where
    -- the client's entry changes, and the others' stay
    pub entries_after : (n : Movement) → client_of n ≡ client → IsEntry accounts entry client (n ∷ movements) → (c : ℕ) → IsEntry accounts (new c) c (n ∷ movements)
    entries_after n its own c = elim (cases_Bool (client == c)) [
      | inl here ↦
          let found : new c ≡ entry = sets c ∙ ap (λ b. if b then entry else old c) here in
          rw found (subst (λ (d : ℕ). IsEntry accounts entry d (n ∷ movements)) (eqb-true client c here) own)
      | inr other ↦
          let found : new c ≡ old c = sets c ∙ ap (λ b. if b then entry else old c) other in
          rw found (passes n (old c) c (ap (λ (d : ℕ). d == c) its ∙ other) (is c))
    ]

  module _ (client : ℕ) where
    pub own_bound : (key : ℕ) → key < accounts → IsForgotten client movements → IsEntry accounts (Some (record { key = key; here = true; requests = 0 })) client (Bound client key ∷ movements)
    own_bound key low h = record { account = rw (itself client) refl; here = rw (itself client) refl; requests = h.requests; within = low }

    module _ (e : Entry) (h : IsOf accounts e client movements) where
      pub own_accepted : IsEntry accounts (Some (record e { requests = e.requests + 1 })) client (Accepted client ∷ movements)
      own_accepted = record { account = h.account; here = h.here; requests = rw (itself client) (ap (λ (x : ℕ). x + 1) h.requests); within = h.within }

      pub own_settled : IsEntry accounts (Some (record e { requests = e.requests - 1 })) client (Settled client ∷ movements)
      own_settled = record { account = h.account; here = h.here; requests = rw (itself client) (ap (λ (x : ℕ). x - 1) h.requests); within = h.within }

      pub last_settled : e.here ≡ false → e.requests - 1 ≡ 0 → IsEntry accounts None client (Settled client ∷ movements)
      last_settled gone none = record { gone = h.here ∙ gone; requests = rw (itself client) (ap (λ (x : ℕ). x - 1) h.requests ∙ none) }

      pub own_left : IsEntry accounts (Some (record e { here = false })) client (Left client ∷ movements)
      own_left = record { account = h.account; here = rw (itself client) refl; requests = h.requests; within = h.within }

      pub last_left : e.requests ≡ 0 → IsEntry accounts None client (Left client ∷ movements)
      last_left none = record { gone = rw (itself client) refl; requests = h.requests ∙ none }

-- one count changes
changed : (old new : List ℕ) (count next : ℕ → ℕ) (key x : ℕ) → AreCounts old count → key < length old → new ≡ set old key x → x ≡ next key → ((k : ℕ) → (key == k) ≡ false → next k ≡ count k) → AreCounts new next
changed old new count next key x is low sets its others k = elim (cases_Bool (key == k)) [
  | inl here ↦
      let same : k ≡ key = sym (eqb-true key k here) in
      ap (λ (xs : List ℕ). get_or xs k 0) sets ∙ get_or-set_at old key k x 0 same low ∙ its ∙ ap next (sym same)
  | inr other ↦ ap (λ (xs : List ℕ). get_or xs k 0) sets ∙ get_or-set_other old key k x 0 (apart key k other) ∙ is k ∙ sym (others k other)
]

module _ (movements : List Movement) (old new : List ℕ) (key client : ℕ) (low : key < length old) where
  pub bound_after : AreCounts old (λ k. bound_of k movements) → new ≡ set old key (get_or old key 0 + 1) → AreCounts new (λ k. bound_of k (Bound client key ∷ movements))
  bound_after is sets = changed old new (λ k. bound_of k movements) (λ k. bound_of k (Bound client key ∷ movements)) key (get_or old key 0 + 1) is low sets
      (rw (itself key) (ap (λ (x : ℕ). x + 1) (is key))) (λ k other. rw other refl)

-- more accounts, of which nothing is counted
pub more_counted : (n : ℕ) (old : List ℕ) (count : ℕ → ℕ) → AreCounts old count → AreCounts (old ++ replicate n 0) count
more_counted n old count is k = padded old k ∙ is k where
  padded : (xs : List ℕ) (k : ℕ) → get_or {A = ℕ} (xs ++ replicate n 0) k 0 ≡ get_or xs k 0
  padded [] k = zero_at n k
  padded (x ∷ xs) zero = refl
  padded (x ∷ xs) (suc k) = padded xs k

pub more_accounts : (few many : ℕ) → few ≤ many → (o : Option Entry) (client : ℕ) (movements : List Movement) → IsEntry few o client movements → IsEntry many o client movements
more_accounts few many le (Some e) client movements h = record { account = h.account; here = h.here; requests = h.requests; within = omega (arith, h.within) }
more_accounts few many le None client movements h = h
