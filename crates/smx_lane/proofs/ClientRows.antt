-- Rows by their clients, as the members show them.
use Rattle.std.proofs.Common.{◌≡◌, ◌<◌, ◌≤◌, ◌+◌, ◌==◌, ℕ, true, false, not, List, [], ◌∷◌, ◌++◌, length, map, drop, refl, sym, ◌∙◌, ap, arith, Option, Some, None, MatchOption, is_some, subst, slice_get, inl, inr}
use Rattle.std.specs.List.{AllByRecursion}
use Rattle.std.specs.Option.{IsSome, option_copied}
use denote.Ref.{Bor}
use Rattle.std.specs.Map.{lookup, set_value, remove_entry}
use Rattle.std.proofs.lemmas.Bool.{cases_Bool, le-leb, lt-leb, ne_eqb, eqb-true}
use Rattle.std.proofs.lemmas.List.Sums.{sum_by-cons}
use Rattle.std.proofs.lemmas.List.{map-append, length-map}
use Rattle.smx_history.specs.Prefixes.{RiseAbove}
use Rattle.smx_history.specs.Contents.{Member}
use Rattle.smx_history.specs.Replies.{member_with}
use Rattle.smx_history.proofs.Updates.{new_row, with_row, without}
use Rattle.smx_history.proofs.Keeping.{map-with_row}
use Rattle.smx_history.proofs.RetireAgrees.{rise_part}
use Rattle.smx_lane.specs.declared.client_rows.Row.{Row}
use Rattle.smx_lane.specs.declared.roster.Roster.TheInside.{Inside}
use Rattle.smx_lane.specs.Members.{refusal_by, waiting_of}
use Rattle.smx_history.specs.declared.reply.Refusal.{Refusal}
use Rattle.smx_history.specs.declared.reply.Refusal.TheVariants.{ClientFull}
use Rattle.smx_lane.specs.Roster.{member_in, KeepsRows}
use Rattle.smx_lane.specs.Private.ClientRows.{is_client, place_of, rows_in, rows_of, KeepsClientRows}
use Rattle.smx_lane.proofs.ClientPlaces.{same_client, same-clients, clients, placed, looked-up, not-there, rows-changed, KeepsClientRows-changed}
use Rattle.slab.specs.Slab.{get, with_value, Updates}
use Rattle.slab.proofs.SlabLemmas.{Updates-with_value}

abbrev pub Entries : Type 0
Entries = List (ℕ × Row)

-- what a look-up finds is the client's member
pub row_found : (c : ℕ) (es : Entries) (r : Row) → lookup (is_client c) es ≡ Some r → member_with c (map member_in es) ≡ Some (member_in (c, r))
row_found c [] r found = cc
row_found c (e ∷ es) r found = elim (cases_Bool (is_client c e.0)) [
  | inl here ↦
      let is : Some e.1 ≡ Some r = rw here at found in
      let value : e.1 ≡ r = cc in
      let test : (e.0 == c) ≡ true = same_client c e.0 ∙ here in
      let key : e.0 ≡ c = eqb-true e.0 c test in
      rw test (ap (λ (k : ℕ). Some (member_in (k, e.1))) key ∙ ap (λ (x : Row). Some (member_in (c, x))) value)
  | inr other ↦
      let test : (e.0 == c) ≡ false = same_client c e.0 ∙ other in
      rw test (row_found c es r (rw other at found))
]

-- where it finds none there is no such member
pub row_missing : (c : ℕ) (es : Entries) → lookup (is_client c) es ≡ None → member_with c (map member_in es) ≡ None
row_missing c [] missing = refl
row_missing c (e ∷ es) missing = elim (cases_Bool (is_client c e.0)) [
  | inl here ↦ let found : Some e.1 ≡ None = rw here at missing in cc
  | inr other ↦
      let test : (e.0 == c) ≡ false = same_client c e.0 ∙ other in
      rw test (row_missing c es (rw other at missing))
]

-- numbers above c stay as they are
with_row-above : (f : Member → Member) (ms : List Member) (c low : ℕ) → c ≤ low → RiseAbove low (map (λ m. m.client) ms) → with_row c f ms ≡ ms
with_row-above f [] c low le rise = refl
with_row-above f (m ∷ ms) c low le rise =
    let other : (m.client == c) ≡ false = ne_eqb m.client c (λ e. omega (arith, rise.0)) in
    rw other (ap (λ xs. m ∷ xs) (with_row-above f ms c m.client (omega (arith, rise.0)) rise.1))

-- a change of the client's row, as the members show it
pub changed_row : (f : Member → Member) (c low : ℕ) (es : Entries) (r new : Row) → lookup (is_client c) es ≡ Some r → RiseAbove low (map (λ m. m.client) (map member_in es)) → member_in (c, new) ≡ f (member_in (c, r)) → map member_in (set_value (is_client c) es new) ≡ with_row c f (map member_in es)
changed_row f c low [] r new found rise change = cc
changed_row f c low (e ∷ es) r new found rise change = elim (cases_Bool (is_client c e.0)) [
  | inl here ↦
      let is : Some e.1 ≡ Some r = rw here at found in
      let value : e.1 ≡ r = cc in
      let test : (e.0 == c) ≡ true = same_client c e.0 ∙ here in
      let key : e.0 ≡ c = eqb-true e.0 c test in
      let first : member_in (e.0, new) ≡ f (member_in e) = ap (λ (k : ℕ). member_in (k, new)) key ∙ change ∙ ap (λ (k : ℕ). f (member_in (k, r))) (sym key) ∙ ap (λ (x : Row). f (member_in (e.0, x))) (sym value) in
      let rest = with_row-above f (map member_in es) c e.0 (omega (arith, key)) rise.1 in
      rw (here, test) (ap (λ m. m ∷ map member_in es) first ∙ ap (λ ms. f (member_in e) ∷ ms) (sym rest))
  | inr other ↦
      let test : (e.0 == c) ≡ false = same_client c e.0 ∙ other in
      rw (other, test) (ap (λ ms. member_in e ∷ ms) (changed_row f c e.0 es r new (rw other at found) rise.1 change))
]

-- the responses that wait, after a change of one row
waiting-changed : (c : ℕ) (es : Entries) (r new : Row) → lookup (is_client c) es ≡ Some r → waiting_of (map member_in (set_value (is_client c) es new)) + length r.waiting.items ≡ waiting_of (map member_in es) + length new.waiting.items
waiting-changed c [] r new found = cc
waiting-changed c (e ∷ es) r new found = elim (cases_Bool (is_client c e.0)) [
  | inl here ↦
      let is : Some e.1 ≡ Some r = rw here at found in
      let value : e.1 ≡ r = cc in
      let w : Member → ℕ = λ m. length m.waiting in
      let same : length e.1.waiting.items ≡ length r.waiting.items = ap (λ (x : Row). length x.waiting.items) value in
      rw here (omega (arith, same, sum_by-cons w (member_in (e.0, new)) (map member_in es), sum_by-cons w (member_in e) (map member_in es)))
  | inr other ↦
      let w : Member → ℕ = λ m. length m.waiting in
      let rest = waiting-changed c es r new (rw other at found) in
      rw other (omega (arith, rest, sum_by-cons w (member_in e) (map member_in (set_value (is_client c) es new)), sum_by-cons w (member_in e) (map member_in es)))
]

-- the responses of one row are among those that wait
pub row_waits : (c : ℕ) (es : Entries) (r : Row) → lookup (is_client c) es ≡ Some r → length r.waiting.items ≤ waiting_of (map member_in es)
row_waits c [] r found = cc
row_waits c (e ∷ es) r found = elim (cases_Bool (is_client c e.0)) [
  | inl here ↦
      let is : Some e.1 ≡ Some r = rw here at found in
      let value : e.1 ≡ r = cc in
      let same : length e.1.waiting.items ≡ length r.waiting.items = ap (λ (x : Row). length x.waiting.items) value in
      omega (arith, same, sum_by-cons (λ (m : Member). length m.waiting) (member_in e) (map member_in es))
  | inr other ↦ omega (arith, row_waits c es r (rw other at found), sum_by-cons (λ (m : Member). length m.waiting) (member_in e) (map member_in es))
]

-- so it is with what holds of each row
pub All-row : (P : ℕ × Row → Type 0) (c : ℕ) (es : Entries) (r : Row) → AllByRecursion P es → lookup (is_client c) es ≡ Some r → (k : ℕ) × P (k, r)
All-row P c [] r all found = cc
All-row P c (e ∷ es) r all found = elim (cases_Bool (is_client c e.0)) [
  | inl here ↦
      let is : Some e.1 ≡ Some r = rw here at found in
      let value : e.1 ≡ r = cc in
      (e.0, subst (λ (x : Row). P (e.0, x)) value all.0)
  | inr other ↦ All-row P c es r all.1 (rw other at found)
]

All-set : (P : ℕ × Row → Type 0) (c : ℕ) (es : Entries) (new : Row) → ((k : ℕ) → P (k, new)) → AllByRecursion P es → AllByRecursion P (set_value (is_client c) es new)
All-set P c [] new one all = tt
All-set P c (e ∷ es) new one all = elim (cases_Bool (is_client c e.0)) [
  | inl here ↦ rw here (one e.0, all.1)
  | inr other ↦ rw other (all.0, All-set P c es new one all.1)
]

All-removed : (P : ℕ × Row → Type 0) (c : ℕ) (es : Entries) → AllByRecursion P es → AllByRecursion P (remove_entry (is_client c) es)
All-removed P c [] all = tt
All-removed P c (e ∷ es) all = elim (cases_Bool (is_client c e.0)) [
  | inl here ↦ rw here all.1
  | inr other ↦ rw other (all.0, All-removed P c es all.1)
]

-- a change of the row at the client's place, as the members show it
pub members-written : (a : Inside) (f : Member → Member) (c at : ℕ) (r new : Row) → KeepsRows a → place_of c a.table ≡ Some at → get a.table.rows at ≡ Some r → member_in (c, new) ≡ f (member_in (c, r))
    → map member_in (rows_in (with_value a.table.rows at new) a.table.keys.entries) ≡ with_row c f (map member_in (rows_of a.table))
members-written a f c at r new keeps found is change =
    let updates = Updates-with_value a.table.rows at new (ap is_some is) in
    ap (map member_in) (rows-changed a.table (with_value a.table.rows at new) c at new keeps.table found updates)
    ∙ changed_row f c 0 (rows_of a.table) r new (looked-up a.table c at r keeps.table found is) keeps.clients change

-- a change of one row that leaves the places of its box
pub KeepsRows-written : (a b : Inside) (f : Member → Member) (c at : ℕ) (r new : Row) → KeepsRows a → ((x : Member) → (f x).client ≡ x.client)
    → place_of c a.table ≡ Some at → get a.table.rows at ≡ Some r → member_in (c, new) ≡ f (member_in (c, r)) → new.client ≡ r.client → new.waiting.capacity ≡ r.waiting.capacity
    → b.places ≡ a.places → b.table.keys.entries ≡ a.table.keys.entries → b.table.rows ≡ with_value a.table.rows at new → b.waiting + length r.waiting.items ≡ a.waiting + length new.waiting.items → KeepsRows b
KeepsRows-written a b f c at r new keeps same found is change client places same_places keys rows count =
    let es = rows_of a.table in
    let box : ℕ → ℕ × Row → Type 0 = λ n e. e.1.waiting.capacity ≡ n in
    let updates = Updates-with_value a.table.rows at new (ap is_some is) in
    let there = looked-up a.table c at r keeps.table found is in
    let old = All-row (box a.places) c es r keeps.boxes there in
    let sums = waiting-changed c es r new there in
    let ms = changed_row f c 0 es r new there keeps.clients change in
    let written = rows-changed a.table (with_value a.table.rows at new) c at new keeps.table found updates in
    let entries : rows_of b.table ≡ set_value (is_client c) es new = ap (rows_in b.table.rows) keys ∙ ap (λ s. rows_in s a.table.keys.entries) rows ∙ written in
    record {
      table = KeepsClientRows-changed a.table b.table at r new keeps.table keys (subst (λ s. Updates a.table.rows s at (Some new)) (sym rows) updates) is client;
      boxes = rw (entries, same_places) (All-set (box a.places) c es new (λ _. places ∙ old.1) keeps.boxes);
      clients = rw (entries, ms, map-with_row (λ x. x.client) f c same (map member_in es)) keeps.clients;
      waiting = rw entries (omega (arith, sums, count, keeps.waiting));
    }

-- the place has the member's row
pub at-place : (a : Inside) (c at : ℕ) → KeepsRows a → place_of c a.table ≡ Some at → IsSome (get a.table.rows at)
at-place a c at keeps found = ap is_some (placed a.table c at keeps.table found).1

pub member-at : (a : Inside) (c at : ℕ) (r : Row) → KeepsRows a → place_of c a.table ≡ Some at → get a.table.rows at ≡ Some r → member_with c (map member_in (rows_of a.table)) ≡ Some (member_in (c, r))
member-at a c at r keeps found is = row_found c (rows_of a.table) r (looked-up a.table c at r keeps.table found is)

pub no-member : (a : Inside) (c : ℕ) → KeepsRows a → place_of c a.table ≡ None → member_with c (map member_in (rows_of a.table)) ≡ None
no-member a c keeps missing = row_missing c (rows_of a.table) (not-there a.table c keeps.table missing)

-- numbers above c leave all rows
without-above : (ms : List Member) (c low : ℕ) → c ≤ low → RiseAbove low (map (λ m. m.client) ms) → without c ms ≡ ms
without-above [] c low h rise = refl
without-above (m ∷ ms) c low h rise =
    let other : (m.client == c) ≡ false = ne_eqb m.client c (λ e. omega (arith, rise.0)) in
    let rest = without-above ms c m.client (omega (arith, rise.0)) rise.1 in
    rw (other, rest) refl

-- the rows without the client's, as the members show them
pub removed_row : (c low : ℕ) (es : Entries) → RiseAbove low (map (λ m. m.client) (map member_in es)) → map member_in (remove_entry (is_client c) es) ≡ without c (map member_in es)
removed_row c low [] rise = refl
removed_row c low (e ∷ es) rise = elim (cases_Bool (is_client c e.0)) [
  | inl here ↦
      let test : (e.0 == c) ≡ true = same_client c e.0 ∙ here in
      let key : e.0 ≡ c = eqb-true e.0 c test in
      rw (here, test) (sym (without-above (map member_in es) c e.0 (omega (arith, key)) rise.1))
  | inr other ↦
      let test : (e.0 == c) ≡ false = same_client c e.0 ∙ other in
      rw (other, test) (ap (λ ms. member_in e ∷ ms) (removed_row c e.0 es rise.1))
]

waiting-removed : (c : ℕ) (es : Entries) (r : Row) → lookup (is_client c) es ≡ Some r → waiting_of (map member_in (remove_entry (is_client c) es)) + length r.waiting.items ≡ waiting_of (map member_in es)
waiting-removed c [] r found = cc
waiting-removed c (e ∷ es) r found = elim (cases_Bool (is_client c e.0)) [
  | inl here ↦
      let is : Some e.1 ≡ Some r = rw here at found in
      let value : e.1 ≡ r = cc in
      let same : length e.1.waiting.items ≡ length r.waiting.items = ap (λ (x : Row). length x.waiting.items) value in
      rw here (omega (arith, same, sum_by-cons (λ (m : Member). length m.waiting) (member_in e) (map member_in es)))
  | inr other ↦
      let w : Member → ℕ = λ m. length m.waiting in
      let rest = waiting-removed c es r (rw other at found) in
      rw other (omega (arith, rest, sum_by-cons w (member_in e) (map member_in (remove_entry (is_client c) es)), sum_by-cons w (member_in e) (map member_in es)))
]

-- the roster without the client's row
pub KeepsRows-removed : (a b : Inside) (c : ℕ) (r : Row) → KeepsRows a → KeepsClientRows b.table → lookup (is_client c) (rows_of a.table) ≡ Some r
    → b.places ≡ a.places → rows_of b.table ≡ remove_entry (is_client c) (rows_of a.table) → b.waiting + length r.waiting.items ≡ a.waiting → KeepsRows b
KeepsRows-removed a b c r keeps table found same_places entries count =
    let es = rows_of a.table in
    let ms = map member_in es in
    let sums = waiting-removed c es r found in
    record {
      table = table;
      boxes = rw (entries, same_places) (All-removed (λ (e : ℕ × Row). e.1.waiting.capacity ≡ a.places) c es keeps.boxes);
      clients = rw (entries, removed_row c 0 es keeps.clients) (rise_part (λ (m : Member). m.client) (λ m. not (m.client == c)) 0 ms keeps.clients);
      waiting = rw entries (omega (arith, sums, count, keeps.waiting));
    }

-- the clients of the members are the keys
clients-are : (es : Entries) → map (λ m. m.client) (map member_in es) ≡ map (λ (e : ℕ × Row). e.0) es
clients-are [] = refl
clients-are (e ∷ es) = ap (λ cs. e.0 ∷ cs) (clients-are es)

pub keys-rise : (a : Inside) (by c : ℕ) → KeepsRows a → RiseAbove 0 (map (λ m. m.client) (map member_in (rows_of a.table) ++ new_row by c ∷ [])) → RiseAbove 0 (clients a.table.keys.entries ++ c ∷ [])
keys-rise a by c keeps rise =
    let es = rows_of a.table in
    let same = clients-are es ∙ same-clients a.table.rows a.table.keys.entries keeps.table.there in
    subst (λ cs. RiseAbove 0 (cs ++ c ∷ [])) same (rw (map-append (λ (m : Member). m.client) (map member_in es) (new_row by c ∷ [])) at rise)

-- there are as many members as keys
pub as-many : (a : Inside) → KeepsRows a → length (map member_in (rows_of a.table)) ≡ length a.table.keys.entries
as-many a keeps =
    let es = rows_of a.table in
    let keys = a.table.keys.entries in
    length-map es member_in ∙ sym (length-map es (λ e. e.0)) ∙ ap length (same-clients a.table.rows keys keeps.table.there) ∙ length-map keys (λ e. e.0)

-- what is read at the client's place is the member's row
pub found-member : (a : Inside) (c at : ℕ) (o : Option (Bor Row)) → KeepsRows a → place_of c a.table ≡ Some at → option_copied o ≡ get a.table.rows at
    → MatchOption o (member_with c (map member_in (rows_of a.table)) ≡ None) (λ row. member_with c (map member_in (rows_of a.table)) ≡ Some (member_in (c, row.now)))
found-member a c at None keeps found is = let bad : false ≡ true = ap is_some is ∙ at-place a c at keeps found in cc
found-member a c at (Some row) keeps found is = member-at a c at row.now keeps found (sym is)

-- the box has its places
pub box_places : (a : Inside) (c at : ℕ) (r : Row) → KeepsRows a → place_of c a.table ≡ Some at → get a.table.rows at ≡ Some r → r.waiting.capacity ≡ a.places
box_places a c at r keeps found is = (All-row (λ (e : ℕ × Row). e.1.waiting.capacity ≡ a.places) c (rows_of a.table) r keeps.boxes (looked-up a.table c at r keeps.table found is)).1

-- what waits in the box is counted
pub box_counts : (a : Inside) (c at : ℕ) (r : Row) → KeepsRows a → place_of c a.table ≡ Some at → get a.table.rows at ≡ Some r → length r.waiting.items ≤ a.waiting
box_counts a c at r keeps found is = omega (arith, keeps.waiting, row_waits c (rows_of a.table) r (looked-up a.table c at r keeps.table found is))

-- the first element and the rest
pub front_is : {X : Type 0} (xs : List X) (x : X) → slice_get xs 0 ≡ Some x → xs ≡ x ∷ drop 1 xs
front_is [] x h = cc
front_is (y ∷ xs) x h = let same : y ≡ x = cc in ap (λ z. z ∷ xs) same

-- which refusal it is, from what the code tests
pub refused_row : (places : ℕ) (by_lane : Option Refusal) (m : Member) → places ≤ m.pending → refusal_by places by_lane (Some m) ≡ Some ClientFull
refused_row places by_lane m h = rw (le-leb places m.pending h) refl

pub refused_by_lane : (places : ℕ) (by_lane : Option Refusal) (m : Member) → m.pending < places → refusal_by places by_lane (Some m) ≡ by_lane
refused_by_lane places by_lane m h = rw (lt-leb places m.pending h) refl

-- where nothing stands first there is nothing to drop
pub none_dropped : {X : Type 0} (xs : List X) → slice_get xs 0 ≡ None → drop 1 xs ≡ xs
none_dropped [] h = refl
none_dropped (x ∷ xs) h = cc

-- each member has a place
pub has_place : (a : Inside) (c : ℕ) → KeepsRows a → IsSome (member_with c (map member_in (rows_of a.table))) → IsSome (place_of c a.table)
has_place a c keeps there = by (place_of c a.table) refl
  where
    by : (o : Option ℕ) → place_of c a.table ≡ o → IsSome o
    by None e = let no : false ≡ true = sym (ap is_some (no-member a c keeps e)) ∙ there in cc
    by (Some at) e = refl
