-- Rows in a slab, by the places that the keys tell.
use Rattle.std.proofs.Common.{◌≡◌, ◌≢◌, ◌<◌, ◌≤◌, ◌==◌, ℕ, true, false, List, [], ◌∷◌, ◌++◌, map, refl, sym, ◌∙◌, ap, arith, Option, Some, None, inl, inr, cond}
use Rattle.std.specs.Prelude.{slice_index_or}
use Rattle.std.specs.List.{AllByRecursion}
use Rattle.std.specs.Map.{lookup, set_value, remove_entry}
use Rattle.std.specs.Ordering.{nat_cmp, match_ordering}
use Rattle.std.specs.Cmp.{unsigned_tied}
use Rattle.std.specs.BTreeMap.{insert_entry}
use Rattle.std.proofs.lemmas.Bool.{cases_Bool, cases_eq, ne_eqb, eq-eqb, eqb-true}
use Rattle.std.proofs.lemmas.Bool.Decides.{nat_tests}
use Rattle.slab.specs.Slab.{Slab, get, Updates}
use Rattle.smx_history.specs.Prefixes.{RiseAbove}
use Rattle.smx_lane.specs.declared.client_rows.Row.{Row}
use Rattle.smx_lane.specs.declared.client_rows.ClientRows.{ClientRows}
use Rattle.smx_lane.specs.Private.ClientRows.{is_client, client_of, client_at, place_of, rows_in, rows_of, KeepsClientRows, HasSameRows}

abbrev pub Keys : Type 0
Keys = List (ℕ × ℕ)

-- each key's client has its row at the place of the key
abbrev pub AreThere : Slab Row → Keys → Type 0
AreThere s keys = AllByRecursion (λ (e : ℕ × ℕ). client_at s e.1 ≡ Some e.0) keys

abbrev pub clients : Keys → List ℕ
clients keys = map (λ (e : ℕ × ℕ). e.0) keys

swapped : (c k : ℕ) → (c == k) ≡ (k == c)
swapped c k = grind (arith, nat_tests)

-- a key is the client's where they are equal
pub same_client : (c k : ℕ) → (k == c) ≡ is_client c k
same_client c k = sym (swapped c k) ∙ sym (unsigned_tied c k)

is-client : (c k : ℕ) → is_client c k ≡ true → k ≡ c
is-client c k h = eqb-true k c (same_client c k ∙ h)

client-is : (c : ℕ) → is_client c c ≡ true
client-is c = sym (same_client c c) ∙ eq-eqb c c refl

other-client : (c k : ℕ) → k ≢ c → is_client c k ≡ false
other-client c k ne = sym (same_client c k) ∙ ne_eqb k c ne

-- the row at a place that has a client
pub row-at : (s : Slab Row) (at c : ℕ) → client_at s at ≡ Some c → (r : Row) × (get s at ≡ Some r) × (r.client ≡ c)
row-at s at c is = by (get s at) refl is
  where
    by : (o : Option Row) → get s at ≡ o → client_of o ≡ Some c → (r : Row) × (get s at ≡ Some r) × (r.client ≡ c)
    by None e h = cc
    by (Some r) e h = (r, e, cc)

-- the place that the keys tell has a row of the client
pub place-there : (s : Slab Row) (c at : ℕ) (keys : Keys) → AreThere s keys → lookup (is_client c) keys ≡ Some at → client_at s at ≡ Some c
place-there s c at [] there found = cc
place-there s c at (e ∷ keys) there found = elim (cases_Bool (is_client c e.0)) [
  | inl here ↦
      let is : Some e.1 ≡ Some at = rw here at found in
      let value : e.1 ≡ at = cc in
      ap (client_at s) (sym value) ∙ there.0 ∙ ap Some (is-client c e.0 here)
  | inr other ↦ place-there s c at keys there.1 (rw other at found)
]

-- a look-up among the rows finds the row at that place
pub row-there : (s : Slab Row) (c at : ℕ) (keys : Keys) (r : Row) → AreThere s keys → lookup (is_client c) keys ≡ Some at → get s at ≡ Some r → lookup (is_client c) (rows_in s keys) ≡ Some r
row-there s c at [] r there found is = cc
row-there s c at (e ∷ keys) r there found is =
    let row = row-at s e.1 e.0 there.0 in
    elim (cases_Bool (is_client c e.0)) [
      | inl here ↦
          let place : Some e.1 ≡ Some at = rw here at found in
          let value : e.1 ≡ at = cc in
          let same : Some row.0 ≡ Some r = sym row.1 ∙ ap (get s) value ∙ is in
          rw (row.1, here) same
      | inr other ↦ rw (row.1, other) (row-there s c at keys r there.1 (rw other at found) is)
    ]

-- where the keys tell no place there is no row
pub row-absent : (s : Slab Row) (c : ℕ) (keys : Keys) → AreThere s keys → lookup (is_client c) keys ≡ None → lookup (is_client c) (rows_in s keys) ≡ None
row-absent s c [] there missing = refl
row-absent s c (e ∷ keys) there missing =
    let row = row-at s e.1 e.0 there.0 in
    elim (cases_Bool (is_client c e.0)) [
      | inl here ↦ let found : Some e.1 ≡ None = rw here at missing in cc
      | inr other ↦ rw (row.1, other) (row-absent s c keys there.1 (rw other at missing))
    ]

-- the clients of the rows are the keys
pub same-clients : (s : Slab Row) (keys : Keys) → AreThere s keys → map (λ (e : ℕ × Row). e.0) (rows_in s keys) ≡ clients keys
same-clients s [] there = refl
same-clients s (e ∷ keys) there =
    let row = row-at s e.1 e.0 there.0 in
    rw row.1 (ap (λ cs. e.0 ∷ cs) (same-clients s keys there.1))

-- keys at other places
abbrev pub AreElsewhere : ℕ → Keys → Type 0
AreElsewhere at keys = AllByRecursion (λ (e : ℕ × ℕ). e.1 ≢ at) keys

-- every other place keeps its row
abbrev pub KeepsOtherRows : Slab Row → Slab Row → ℕ → Type 0
KeepsOtherRows s n at = (j : ℕ) → j ≢ at → get n j ≡ get s j

-- the rows at other places stay
other-rows : (s n : Slab Row) (at : ℕ) (keys : Keys) → KeepsOtherRows s n at → AreElsewhere at keys → rows_in n keys ≡ rows_in s keys
other-rows s n at [] others apart = refl
other-rows s n at (e ∷ keys) others apart =
    rw (others e.1 apart.0, other-rows s n at keys others apart.1) refl

others-there : (s n : Slab Row) (at : ℕ) (keys : Keys) → KeepsOtherRows s n at → AreElsewhere at keys → AreThere s keys → AreThere n keys
others-there s n at [] others apart there = tt
others-there s n at (e ∷ keys) others apart there =
    (ap client_of (others e.1 apart.0) ∙ there.0, others-there s n at keys others apart.1 there.1)

-- a place has one client
elsewhere : (s : Slab Row) (at c k j : ℕ) → client_at s at ≡ Some c → client_at s j ≡ Some k → k ≢ c → j ≢ at
elsewhere s at c k j is there ne = λ e.
    let same : Some k ≡ Some c = sym there ∙ ap (client_at s) e ∙ is in
    let k_is : k ≡ c = cc in
    absurd (ne k_is)

-- the keys of clients above one are at other places
above-elsewhere : (s : Slab Row) (at c low : ℕ) (keys : Keys) → client_at s at ≡ Some c → c ≤ low → RiseAbove low (clients keys) → AreThere s keys → AreElsewhere at keys
above-elsewhere s at c low [] is le rise there = tt
above-elsewhere s at c low (e ∷ keys) is le rise there =
    (elsewhere s at c e.0 e.1 is there.0 (λ h. omega (arith, h, rise.0)), above-elsewhere s at c e.0 keys is (omega (arith, rise.0)) rise.1 there.1)

-- no key is at a place that is vacant
vacant-elsewhere : (s : Slab Row) (at : ℕ) (keys : Keys) → get s at ≡ None → AreThere s keys → AreElsewhere at keys
vacant-elsewhere s at [] vacant there = tt
vacant-elsewhere s at (e ∷ keys) vacant there = (
  (λ h. let no : None ≡ Some e.0 = sym (ap (client_at s) h ∙ ap client_of vacant) ∙ there.0 in cc),
  vacant-elsewhere s at keys vacant there.1,
)

-- a change of the row at the client's place is one of the client's row
pub changed-rows : (s n : Slab Row) (c at low : ℕ) (keys : Keys) (new : Row) → Updates s n at (Some new) → AreThere s keys → RiseAbove low (clients keys) → lookup (is_client c) keys ≡ Some at
    → rows_in n keys ≡ set_value (is_client c) (rows_in s keys) new
changed-rows s n c at low [] new updates there rise found = cc
changed-rows s n c at low (e ∷ keys) new updates there rise found =
    let row = row-at s e.1 e.0 there.0 in
    let is = place-there s c at (e ∷ keys) there found in
    elim (cases_Bool (is_client c e.0)) [
      | inl here ↦
          let place : Some e.1 ≡ Some at = rw here at found in
          let value : e.1 ≡ at = cc in
          let key = is-client c e.0 here in
          let written : get n e.1 ≡ Some new = ap (get n) value ∙ updates.changed in
          let rest = other-rows s n at keys updates.others (above-elsewhere s at c e.0 keys is (omega (arith, key)) rise.1 there.1) in
          rw (written, row.1, here, rest) refl
      | inr other ↦
          let ne : e.0 ≢ c = λ h. let yes : is_client c e.0 ≡ true = ap (is_client c) h ∙ client-is c in cc in
          let kept : get n e.1 ≡ Some row.0 = updates.others e.1 (elsewhere s at c e.0 e.1 is there.0 ne) ∙ row.1 in
          rw (kept, row.1, other, changed-rows s n c at e.0 keys new updates there.1 rise.1 (rw other at found)) refl
    ]

-- without the client's key, the client's row is gone
removed-rows : (s n : Slab Row) (c at low : ℕ) (keys : Keys) → KeepsOtherRows s n at → AreThere s keys → RiseAbove low (clients keys) → lookup (is_client c) keys ≡ Some at
    → rows_in n (remove_entry (is_client c) keys) ≡ remove_entry (is_client c) (rows_in s keys)
removed-rows s n c at low [] others there rise found = refl
removed-rows s n c at low (e ∷ keys) others there rise found =
    let row = row-at s e.1 e.0 there.0 in
    let is = place-there s c at (e ∷ keys) there found in
    elim (cases_Bool (is_client c e.0)) [
      | inl here ↦
          let key = is-client c e.0 here in
          let rest = other-rows s n at keys others (above-elsewhere s at c e.0 keys is (omega (arith, key)) rise.1 there.1) in
          rw (row.1, here, rest) refl
      | inr other ↦
          let ne : e.0 ≢ c = λ h. let yes : is_client c e.0 ≡ true = ap (is_client c) h ∙ client-is c in cc in
          let kept : get n e.1 ≡ Some row.0 = others e.1 (elsewhere s at c e.0 e.1 is there.0 ne) ∙ row.1 in
          rw (row.1, other, kept, removed-rows s n c at e.0 keys others there.1 rise.1 (rw other at found)) refl
    ]

removed-there : (s n : Slab Row) (c at low : ℕ) (keys : Keys) → KeepsOtherRows s n at → AreThere s keys → RiseAbove low (clients keys) → lookup (is_client c) keys ≡ Some at
    → AreThere n (remove_entry (is_client c) keys)
removed-there s n c at low [] others there rise found = tt
removed-there s n c at low (e ∷ keys) others there rise found =
    let is = place-there s c at (e ∷ keys) there found in
    elim (cases_Bool (is_client c e.0)) [
      | inl here ↦
          let key = is-client c e.0 here in
          rw here (others-there s n at keys others (above-elsewhere s at c e.0 keys is (omega (arith, key)) rise.1 there.1) there.1)
      | inr other ↦
          let ne : e.0 ≢ c = λ h. let yes : is_client c e.0 ≡ true = ap (is_client c) h ∙ client-is c in cc in
          let kept : client_at n e.1 ≡ Some e.0 = ap client_of (others e.1 (elsewhere s at c e.0 e.1 is there.0 ne)) ∙ there.0 in
          rw other (kept, removed-there s n c at e.0 keys others there.1 rise.1 (rw other at found))
    ]

lower : (low below : ℕ) (xs : List ℕ) → below ≤ low → RiseAbove low xs → RiseAbove below xs
lower low below [] le rise = tt
lower low below (x ∷ xs) le rise = (omega (arith, rise.0), rise.1)

removed-rise : (c low : ℕ) (keys : Keys) → RiseAbove low (clients keys) → RiseAbove low (clients (remove_entry (is_client c) keys))
removed-rise c low [] rise = tt
removed-rise c low (e ∷ keys) rise = elim (cases_Bool (is_client c e.0)) [
  | inl here ↦ rw here (lower e.0 low (clients keys) (omega (arith, rise.0)) rise.1)
  | inr other ↦ rw other (rise.0, removed-rise c e.0 keys rise.1)
]

-- the keys of the others stay
removed-known : (c d : ℕ) (keys : Keys) → d ≢ c → lookup (is_client d) (remove_entry (is_client c) keys) ≡ lookup (is_client d) keys
removed-known c d [] ne = refl
removed-known c d (e ∷ keys) ne = elim (cases_Bool (is_client c e.0)) [
  | inl here ↦
      let key = is-client c e.0 here in
      let no : is_client d e.0 ≡ false = other-client d e.0 (λ h. ne (sym h ∙ key)) in
      rw (here, no) refl
  | inr other ↦ rw other (ap (cond (is_client d e.0) (Some e.1)) (removed-known c d keys ne))
]

-- the keys of a client above all others
greater : (c k : ℕ) → k < c → (a b d : Keys) → match_ordering (nat_cmp c k) a b d ≡ d
greater c k lt a b d = grind (arith, nat_tests)

above : (c low : ℕ) (keys : Keys) → RiseAbove low (clients keys ++ c ∷ []) → low < c
above c low [] rise = rise.0
above c low (e ∷ keys) rise = omega (arith, rise.0, above c e.0 keys rise.1)

pub added-last : (c low at : ℕ) (keys : Keys) → RiseAbove low (clients keys ++ c ∷ []) → insert_entry nat_cmp keys c at ≡ keys ++ (c, at) ∷ []
added-last c low at [] rise = refl
added-last c low at (e ∷ keys) rise = greater c e.0 (above c e.0 keys rise.1) _ _ _ ∙ ap (λ xs. e ∷ xs) (added-last c e.0 at keys rise.1)

added-rise : (c low at : ℕ) (keys : Keys) → RiseAbove low (clients keys ++ c ∷ []) → RiseAbove low (clients (keys ++ (c, at) ∷ []))
added-rise c low at [] rise = rise
added-rise c low at (e ∷ keys) rise = (rise.0, added-rise c e.0 at keys rise.1)

added-known : (c low at : ℕ) (keys : Keys) → RiseAbove low (clients keys ++ c ∷ []) → lookup (is_client c) (keys ++ (c, at) ∷ []) ≡ Some at
added-known c low at [] rise = rw (client-is c) refl
added-known c low at (e ∷ keys) rise =
    let lt = above c e.0 keys rise.1 in
    rw (other-client c e.0 (λ h. omega (arith, h, lt))) (added-known c e.0 at keys rise.1)

still-known : (c d at place : ℕ) (keys : Keys) → lookup (is_client d) keys ≡ Some place → lookup (is_client d) (keys ++ (c, at) ∷ []) ≡ Some place
still-known c d at place [] found = cc
still-known c d at place (e ∷ keys) found = elim (cases_Bool (is_client d e.0)) [
  | inl here ↦ rw here (rw here at found)
  | inr other ↦ rw other (still-known c d at place keys (rw other at found))
]

added-there : (s n : Slab Row) (c at : ℕ) (keys : Keys) (r : Row) → Updates s n at (Some r) → r.client ≡ c → get s at ≡ None → AreThere s keys → AreThere n (keys ++ (c, at) ∷ [])
added-there s n c at [] r updates client vacant there = (ap client_of updates.changed ∙ ap Some client, tt)
added-there s n c at (e ∷ keys) r updates client vacant there =
    let apart = vacant-elsewhere s at (e ∷ keys) vacant there in
    (ap client_of (updates.others e.1 apart.0) ∙ there.0, added-there s n c at keys r updates client vacant there.1)

added-rows : (s n : Slab Row) (c at : ℕ) (keys : Keys) (r : Row) → Updates s n at (Some r) → get s at ≡ None → AreThere s keys
    → rows_in n (keys ++ (c, at) ∷ []) ≡ rows_in s keys ++ (c, r) ∷ []
added-rows s n c at [] r updates vacant there = rw updates.changed refl
added-rows s n c at (e ∷ keys) r updates vacant there =
    let row = row-at s e.1 e.0 there.0 in
    let apart = vacant-elsewhere s at (e ∷ keys) vacant there in
    let kept : get n e.1 ≡ Some row.0 = updates.others e.1 apart.0 ∙ row.1 in
    rw (kept, row.1, added-rows s n c at keys r updates vacant there.1) refl

-- a row that is changed stays its client's
changed-client : (s n : Slab Row) (at j : ℕ) (r new : Row) → Updates s n at (Some new) → get s at ≡ Some r → new.client ≡ r.client → client_at n j ≡ client_at s j
changed-client s n at j r new updates was same = elim (cases_eq j at) [
  | inl here ↦ ap (client_at n) here ∙ ap client_of updates.changed ∙ ap Some same ∙ sym (ap client_of was) ∙ sym (ap (client_at s) here)
  | inr other ↦ ap client_of (updates.others j other)
]

changed-there : (s n : Slab Row) (keys : Keys) → ((j : ℕ) → client_at n j ≡ client_at s j) → AreThere s keys → AreThere n keys
changed-there s n [] same there = tt
changed-there s n (e ∷ keys) same there = (same e.1 ∙ there.0, changed-there s n keys same there.1)

-- the same rows at the same places
pub KeepsClientRows-same : (s n : ClientRows) → KeepsClientRows s → HasSameRows s n → KeepsClientRows n
KeepsClientRows-same s n keeps same =
    let at : (j : ℕ) → client_at n.rows j ≡ client_at s.rows j = λ j. ap (λ slots. client_of (slice_index_or slots j None)) same.rows in
    record {
      rise = rw same.keys keeps.rise;
      there = rw same.keys (changed-there s.rows n.rows s.keys.entries at keeps.there);
      known = λ j c is. rw same.keys (keeps.known j c (sym (at j) ∙ is));
    }

same-rows : (s n : Slab Row) (keys : Keys) → ((j : ℕ) → get n j ≡ get s j) → rows_in n keys ≡ rows_in s keys
same-rows s n [] same = refl
same-rows s n (e ∷ keys) same = rw (same e.1, same-rows s n keys same) refl

pub rows-same : (s n : ClientRows) → HasSameRows s n → rows_of n ≡ rows_of s
rows-same s n same = ap (rows_in n.rows) same.keys ∙ same-rows s.rows n.rows s.keys.entries (λ j. ap (λ slots. slice_index_or slots j None) same.rows)

pub KeepsClientRows-changed : (s n : ClientRows) (at : ℕ) (r new : Row) → KeepsClientRows s → n.keys.entries ≡ s.keys.entries → Updates s.rows n.rows at (Some new) → get s.rows at ≡ Some r → new.client ≡ r.client → KeepsClientRows n
KeepsClientRows-changed s n at r new keeps keys updates was client =
    let same = λ (j : ℕ). changed-client s.rows n.rows at j r new updates was client in
    record {
      rise = rw keys keeps.rise;
      there = rw keys (changed-there s.rows n.rows s.keys.entries same keeps.there);
      known = λ j c is. rw keys (keeps.known j c (sym (same j) ∙ is));
    }

pub KeepsClientRows-added : (s n : ClientRows) (c at : ℕ) (r : Row) → KeepsClientRows s → RiseAbove 0 (clients s.keys.entries ++ c ∷ []) → r.client ≡ c → get s.rows at ≡ None
    → n.keys.entries ≡ insert_entry nat_cmp s.keys.entries c at → Updates s.rows n.rows at (Some r) → KeepsClientRows n
KeepsClientRows-added s n c at r keeps rise client vacant entries updates =
    let old = s.keys.entries in
    let keys : n.keys.entries ≡ old ++ (c, at) ∷ [] = entries ∙ added-last c 0 at old rise in
    let known : (j d : ℕ) → client_at n.rows j ≡ Some d → lookup (is_client d) (old ++ (c, at) ∷ []) ≡ Some j = λ j d is. elim (cases_eq j at) [
      | inl here ↦
          let both : Some d ≡ Some c = sym is ∙ ap (client_at n.rows) here ∙ ap client_of updates.changed ∙ ap Some client in
          let d_is : d ≡ c = cc in
          ap (λ k. lookup (is_client k) (old ++ (c, at) ∷ [])) d_is ∙ added-known c 0 at old rise ∙ ap Some (sym here)
      | inr other ↦ still-known c d at j old (keeps.known j d (sym (ap client_of (updates.others j other)) ∙ is))
    ] in
    record {
      rise = rw keys (added-rise c 0 at old rise);
      there = rw keys (added-there s.rows n.rows c at old r updates client vacant keeps.there);
      known = λ j d is. rw keys (known j d is);
    }

pub rows-added : (s : ClientRows) (n : Slab Row) (keys : Keys) (c at : ℕ) (r : Row) → KeepsClientRows s → RiseAbove 0 (clients s.keys.entries ++ c ∷ []) → get s.rows at ≡ None
    → keys ≡ insert_entry nat_cmp s.keys.entries c at → Updates s.rows n at (Some r) → rows_in n keys ≡ rows_of s ++ (c, r) ∷ []
rows-added s n keys c at r keeps rise vacant entries updates =
    ap (rows_in n) (entries ∙ added-last c 0 at s.keys.entries rise) ∙ added-rows s.rows n c at s.keys.entries r updates vacant keeps.there

pub KeepsClientRows-removed : (s n : ClientRows) (c at : ℕ) → KeepsClientRows s → place_of c s ≡ Some at → n.keys.entries ≡ remove_entry (is_client c) s.keys.entries → Updates s.rows n.rows at None → KeepsClientRows n
KeepsClientRows-removed s n c at keeps found entries updates =
    let old = s.keys.entries in
    let known : (j d : ℕ) → client_at n.rows j ≡ Some d → lookup (is_client d) (remove_entry (is_client c) old) ≡ Some j = λ j d is.
    let other : j ≢ at = λ h. let no : None ≡ Some d = sym (ap (client_at n.rows) h ∙ ap client_of updates.changed) ∙ is in cc in
    let was = keeps.known j d (sym (ap client_of (updates.others j other)) ∙ is) in
    let ne : d ≢ c = λ h. let both : Some j ≡ Some at = sym was ∙ ap (λ k. place_of k s) h ∙ found in let same : j ≡ at = cc in absurd (other same) in
    removed-known c d old ne ∙ was
    in
    record {
      rise = rw entries (removed-rise c 0 old keeps.rise);
      there = rw entries (removed-there s.rows n.rows c at 0 old updates.others keeps.there keeps.rise found);
      known = λ j d is. rw entries (known j d is);
    }

pub rows-removed : (s : ClientRows) (n : Slab Row) (keys : Keys) (c at : ℕ) → KeepsClientRows s → place_of c s ≡ Some at → keys ≡ remove_entry (is_client c) s.keys.entries → Updates s.rows n at None
    → rows_in n keys ≡ remove_entry (is_client c) (rows_of s)
rows-removed s n keys c at keeps found entries updates =
    ap (rows_in n) entries ∙ removed-rows s.rows n c at 0 s.keys.entries updates.others keeps.there keeps.rise found

pub rows-changed : (s : ClientRows) (n : Slab Row) (c at : ℕ) (new : Row) → KeepsClientRows s → place_of c s ≡ Some at → Updates s.rows n at (Some new)
    → rows_in n s.keys.entries ≡ set_value (is_client c) (rows_of s) new
rows-changed s n c at new keeps found updates = changed-rows s.rows n c at 0 s.keys.entries new updates keeps.there keeps.rise found

-- the row that the place has
pub placed : (s : ClientRows) (c at : ℕ) → KeepsClientRows s → place_of c s ≡ Some at → (r : Row) × (get s.rows at ≡ Some r) × (r.client ≡ c)
placed s c at keeps found = row-at s.rows at c (place-there s.rows c at s.keys.entries keeps.there found)

pub looked-up : (s : ClientRows) (c at : ℕ) (r : Row) → KeepsClientRows s → place_of c s ≡ Some at → get s.rows at ≡ Some r → lookup (is_client c) (rows_of s) ≡ Some r
looked-up s c at r keeps found is = row-there s.rows c at s.keys.entries r keeps.there found is

pub not-there : (s : ClientRows) (c : ℕ) → KeepsClientRows s → place_of c s ≡ None → lookup (is_client c) (rows_of s) ≡ None
not-there s c keeps missing = row-absent s.rows c s.keys.entries keeps.there missing
