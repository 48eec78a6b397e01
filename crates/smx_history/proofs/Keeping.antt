-- What each call keeps of the room.
use Rattle.std.proofs.Common.{◌≡◌, ◌<◌, ◌≤◌, ◌+◌, ◌==◌, ℕ, Bool, true, false, cond, if◌then◌else◌, List, [], ◌∷◌, ◌++◌, length, map, get_or, refl, sym, ◌∙◌, ap, arith, sum, sum_by, Some, length-append, count_by, inl, inr, subst, set, zero, suc}
use Rattle.std.specs.List.{AllByRecursion}
use Rattle.std.proofs.lemmas.List.{length-map}
use Rattle.std.proofs.lemmas.List.Sums.{sum_by-append, sum-map}
use Rattle.std.proofs.lemmas.Bool.{ne_eqb, eq-eqb, eqb-true, eqb-false, cases_eq, cond_both}
use Rattle.smx_history.specs.declared.request.Request.{Request}
use Rattle.smx_history.specs.declared.note.Event.TheVariants.{Accept}
use Rattle.smx_history.specs.History.{entry_by}
use Rattle.smx_history.specs.Prefixes.{RiseAbove}
use Rattle.smx_history.specs.Contents.{Content, Member}
use Rattle.smx_history.proofs.Room.{KeepsRoom, FitsBox}
use Rattle.smx_history.specs.Replies.{member_with}
use Rattle.smx_history.proofs.Updates.{with_row, accepted}
use Rattle.smx_history.proofs.Refusals.{IsAllowed}

-- what a change of a row leaves as it is, it leaves so in all rows
pub map-with_row : {X : Type 0} (g : Member → X) (f : Member → Member) (c : ℕ) → ((m : Member) → g (f m) ≡ g m) → (ms : List Member) → map g (with_row c f ms) ≡ map g ms
map-with_row g f c same [] = refl
map-with_row g f c same (m ∷ ms) =
    let rest = map-with_row g f c same ms in
    elim (m.client == c) as (λ b. g (cond b (f m) m) ∷ map g (with_row c f ms) ≡ g m ∷ map g ms) [
      | true ↦ rw (same m, rest) refl
      | false ↦ rw rest refl
    ]

pub sum_by-with_row : (g : Member → ℕ) (f : Member → Member) (c : ℕ) → ((m : Member) → g (f m) ≡ g m) → (ms : List Member) → sum_by g (with_row c f ms) ≡ sum_by g ms
sum_by-with_row g f c same ms = sym (sum-map g (with_row c f ms)) ∙ ap sum (map-with_row g f c same ms) ∙ sum-map g ms

pub length-with_row : (f : Member → Member) (c : ℕ) (ms : List Member) → length (with_row c f ms) ≡ length ms
length-with_row f c ms = length-map ms (λ m. if m.client == c then f m else m)

-- what holds of each row after a change
pub All-with_row : (P Q : Member → Type 0) (f : Member → Member) (c : ℕ) → ((m : Member) → m.client ≡ c → P m → Q (f m)) → ((m : Member) → (m.client ≡ c → ⊥) → P m → Q m) → (ms : List Member) → AllByRecursion P ms → AllByRecursion Q (with_row c f ms)
All-with_row P Q f c here there [] h = tt
All-with_row P Q f c here there (m ∷ ms) h =
    let head : Q (cond (m.client == c) (f m) m) =
    cond_both (m.client == c) (f m) m Q (λ e. here m (eqb-true m.client c e) h.0) (λ e. there m (eqb-false m.client c e) h.0) in
    (head, All-with_row P Q f c here there ms h.1)

pub All-both : {X : Type 0} (P Q : X → Type 0) (xs : List X) → AllByRecursion P xs → AllByRecursion Q xs → AllByRecursion (λ x. P x × Q x) xs
All-both P Q [] p q = tt
All-both P Q (x ∷ xs) p q = ((p.0, q.0), All-both P Q xs p.1 q.1)

pub All-each : {X : Type 0} (P Q : X → Type 0) → ((x : X) → P x → Q x) → (xs : List X) → AllByRecursion P xs → AllByRecursion Q xs
All-each P Q f [] h = tt
All-each P Q f (x ∷ xs) h = (f x h.0, All-each P Q f xs h.1)

-- above c no row is of c
rows_above : (ms : List Member) (c low : ℕ) (P : Member → Type 0) → c ≤ low → RiseAbove low (map (λ m. m.client) ms) → AllByRecursion (λ n. n.client ≡ c → P n) ms
rows_above [] c low P h rise = tt
rows_above (m ∷ ms) c low P h rise = ((λ e. absurd (omega (arith, rise.0))), rows_above ms c m.client P (omega (arith, rise.0)) rise.1)

-- a client has one row
pub one_row : (ms : List Member) (c low : ℕ) (m : Member) → RiseAbove low (map (λ m. m.client) ms) → member_with c ms ≡ Some m → AllByRecursion (λ n. n.client ≡ c → n ≡ m) ms
one_row [] c low m rise found = tt
one_row (n ∷ ms) c low m rise found =
    elim (cases_eq n.client c) [
      | inl e ↦
          let here : (n.client == c) ≡ true = eq-eqb n.client c e in
          let same : Some n ≡ Some m = rw here at found in
          ((λ _. cc), rows_above ms c n.client (λ x. x ≡ m) (omega arith) rise.1)
      | inr e ↦
          let other : (n.client == c) ≡ false = ne_eqb n.client c e in
          let later : member_with c ms ≡ Some m = rw other at found in
          ((λ same. absurd (e same)), one_row ms c n.client m rise.1 later)
    ]

-- one more request of c
pub count_by-push : {X : Type 0} (p : X → Bool) (xs : List X) (x : X) → count_by p (xs ++ x ∷ []) ≡ count_by p xs + cond (p x) 1 0
count_by-push p xs x = omega (arith, sum_by-append (λ y. cond (p y) 1 0) xs (x ∷ []))

-- the box of a client has room for one more accept
box-accepted : (v : Content) (by : ℕ) (r : Request) (n : Member) → n.client ≡ r.client → FitsBox v n → n.pending < v.limits.client → FitsBox (accepted v by r) (record n { last = r.ordinal; pending = n.pending + 1 })
box-accepted v by r n is fits few =
    let q : count_by (λ x. x.client == n.client) (v.queue ++ r ∷ []) ≡ count_by (λ x. x.client == n.client) v.queue + 1 =
    count_by-push (λ x. x.client == n.client) v.queue r ∙ ap (λ b. count_by (λ x. x.client == n.client) v.queue + cond b 1 0) (eq-eqb r.client n.client (sym is)) in
    (omega (arith, q, fits.0), omega (arith, few))

-- and that of another client has what it had
box-accepted_other : (v : Content) (by : ℕ) (r : Request) (n : Member) → (n.client ≡ r.client → ⊥) → FitsBox v n → FitsBox (accepted v by r) n
box-accepted_other v by r n apart fits =
    let q : count_by (λ x. x.client == n.client) (v.queue ++ r ∷ []) ≡ count_by (λ x. x.client == n.client) v.queue + 0 =
    count_by-push (λ x. x.client == n.client) v.queue r ∙ ap (λ b. count_by (λ x. x.client == n.client) v.queue + cond b 1 0) (ne_eqb r.client n.client (λ e. apart (sym e))) in
    (omega (arith, q, fits.0), fits.1)

-- the row that was found is the client's, and meets what all rows of the client meet
pub found_meets : (P : Member → Type 0) (c : ℕ) (m : Member) (ms : List Member) → AllByRecursion (λ x. x.client ≡ c → P x) ms → member_with c ms ≡ Some m → P m
found_meets P c m [] all found = cc
found_meets P c m (x ∷ ms) all found = found_at (x.client == c) refl found (found_meets P c m ms all.1)
  where
    found_at : (b : Bool) → (x.client == c) ≡ b → cond b (Some x) (member_with c ms) ≡ Some m → (member_with c ms ≡ Some m → P m) → P m
    found_at true e f later = let same : x ≡ m = cc in subst P same (all.0 (eqb-true x.client c e))
    found_at false e f later = later f

-- a client with a row was admitted
pub found_known : (g c : ℕ) (m : Member) (ms : List Member) → AllByRecursion (λ x. x.client ≤ g) ms → member_with c ms ≡ Some m → c ≤ g
found_known g c m ms all found =
    found_meets (λ _. c ≤ g) c m ms (All-each (λ x. x.client ≤ g) (λ x. x.client ≡ c → c ≤ g) (λ x h is. omega (arith, h, is)) ms all) found

-- none counted, and none with one more that fails
pub push_none : {X : Type 0} (p : X → Bool) (xs : List X) (x : X) → count_by p xs ≡ 0 → p x ≡ false → count_by p (xs ++ x ∷ []) ≡ 0
push_none p xs x none fails = count_by-push p xs x ∙ ap (λ b. count_by p xs + cond b 1 0) fails ∙ ap (λ n. n + 0) none

-- an accept keeps the room
pub KeepsRoom-accepted : (v : Content) (by : ℕ) (r : Request) (m : Member) → KeepsRoom v → member_with r.client v.members ≡ Some m → IsAllowed v m → KeepsRoom (accepted v by r)
KeepsRoom-accepted v by r m k found a =
    let f : Member → Member = λ n. record n { last = r.ordinal; pending = n.pending + 1 } in
    let n : length (v.queue ++ r ∷ []) ≡ length v.queue + 1 = length-append v.queue (r ∷ []) in
    let e : length (v.entries ++ entry_by by (Accept r) ∷ []) ≡ length v.entries + 1 = length-append v.entries (entry_by by (Accept r) ∷ []) in
    let w : sum_by (λ x. length x.waiting) (with_row r.client f v.members) ≡ sum_by (λ x. length x.waiting) v.members = sum_by-with_row (λ x. length x.waiting) f r.client (λ _. refl) v.members in
    let l : length (with_row r.client f v.members) ≡ length v.members = length-with_row f r.client v.members in
    let few : AllByRecursion (λ x. FitsBox v x × (x.client ≡ r.client → x.pending < v.limits.client)) v.members =
    All-both (FitsBox v) (λ x. x.client ≡ r.client → x.pending < v.limits.client) v.members k.boxes
    (All-each (λ x. x.client ≡ r.client → x ≡ m) (λ x. x.client ≡ r.client → x.pending < v.limits.client) (λ x h is. let y = h is in omega (arith, ap (λ (z : Member). z.pending) y, a.client)) v.members (one_row v.members r.client 0 m k.clients found)) in
    record {
      limits = k.limits;
      queue = omega (arith, a.queue, n);
      window = k.window;
      size = omega (arith, a.history, n, e, w, l);
      boxes = All-with_row (λ x. FitsBox v x × (x.client ≡ r.client → x.pending < v.limits.client)) (FitsBox (accepted v by r)) f r.client
          (λ x is h. box-accepted v by r x is h.0 (h.1 is)) (λ x apart h. box-accepted_other v by r x apart h.0) v.members few;
      queue_known = λ c above. push_none (λ x. x.client == c) v.queue r (k.queue_known c above) (ne_eqb r.client c (λ e. let known = found_known v.greatest r.client m v.members k.members_known found in omega (arith, known, above, e)));
      window_known = k.window_known;
      members_known = All-with_row (λ x. x.client ≤ v.greatest) (λ x. x.client ≤ v.greatest) f r.client (λ x _ h. h) (λ x _ h. h) v.members k.members_known;
      clients = let P : List ℕ → Type 0 = λ cs. RiseAbove 0 cs in subst P (sym (map-with_row (λ x. x.client) f r.client (λ _. refl) v.members)) k.clients;
    }

pub All-set_row : {X : Type 0} (P : X → Type 0) (xs : List X) (i : ℕ) (y : X) → P y → AllByRecursion P xs → AllByRecursion P (set xs i y)
All-set_row P [] i y h all = all
All-set_row P (x ∷ xs) zero y h all = (h, all.1)
All-set_row P (x ∷ xs) (suc i) y h all = (all.0, All-set_row P xs i y h all.1)

pub All-get_row : {X : Type 0} (P : X → Type 0) (xs : List X) (i : ℕ) (d : X) → i < length xs → AllByRecursion P xs → P (get_or xs i d)
All-get_row P [] i d h all = absurd (omega arith)
All-get_row P (x ∷ xs) zero d h all = all.0
All-get_row P (x ∷ xs) (suc i) d h all = All-get_row P xs i d (omega arith) all.1
