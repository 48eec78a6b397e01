-- What settles a place keeps the room.
use Rattle.std.proofs.Common.{◌≡◌, ◌<◌, ◌≤◌, ◌+◌, ◌-◌, ◌==◌, ℕ, true, false, cond, List, [], ◌∷◌, ◌++◌, length, map, drop, get_or, refl, sym, ap, arith, sum_by, length-append, length-drop, Some, suc, subst, inl, inr}
use Rattle.std.proofs.lemmas.List.Sums.{sum_by-cons}
use Rattle.std.proofs.lemmas.List.Edits.{length-remove}
use Rattle.std.proofs.lemmas.Bool.{eq-eqb, ne_eqb, cases_eq}
use Rattle.smx_pdu.specs.declared.pdu.Pdu.{Pdu}
use Rattle.smx_history.specs.declared.place.Place.{Place}
use Rattle.smx_history.specs.declared.entry.Entry.{Entry}
use Rattle.smx_history.specs.declared.note.Event.TheVariants.{Collect}
use Rattle.smx_history.specs.declared.response.Response.{Response}
use Rattle.smx_history.specs.Prefixes.{RiseAbove}
use Rattle.smx_history.specs.History.{entry_by}
use Rattle.smx_history.specs.Contents.{Content, Member}
use Rattle.smx_history.proofs.Room.{KeepsRoom, FitsBox}
use Rattle.smx_history.specs.Replies.{member_with}
use Rattle.smx_history.proofs.Updates.{settled, settled_late, collected, response_for, with_row}
use Rattle.smx_history.proofs.Members.{with_row-above}
use Rattle.smx_history.proofs.Counts.{count_by-remove}
use Rattle.smx_history.proofs.Keeping.{All-with_row, All-each, map-with_row, length-with_row, found_meets, one_row, All-both}

-- a change of one row changes the total by what it changes that row
sum_one : (g : Member → ℕ) (f : Member → Member) (c low : ℕ) (m : Member) (ms : List Member) → ((x : Member) → g (f x) ≡ g x + 1) → RiseAbove low (map (λ x. x.client) ms) → member_with c ms ≡ Some m → sum_by g (with_row c f ms) ≡ sum_by g ms + 1
sum_one g f c low m [] more rise found = cc
sum_one g f c low m (x ∷ ms) more rise found =
    elim (cases_eq x.client c) [
      | inl same ↦
          let here : (x.client == c) ≡ true = eq-eqb x.client c same in
          let rest = with_row-above f ms c x.client (omega arith) rise.1 in
          rw (here, rest) (omega (arith, sum_by-cons g (f x) ms, sum_by-cons g x ms, more x))
      | inr apart ↦
          let there : (x.client == c) ≡ false = ne_eqb x.client c apart in
          let later : member_with c ms ≡ Some m = rw there at found in
          let ih = sum_one g f c x.client m ms more rise.1 later in
          rw there (omega (arith, sum_by-cons g x (with_row c f ms), sum_by-cons g x ms, ih))
    ]

-- a client with a place in the window has room in its box
pub box_has_room : (v : Content) (q : Place) (i : ℕ) (m : Member) → KeepsRoom v → i < length v.window → q ≡ get_or v.window i q → member_with q.client v.members ≡ Some m → length m.waiting < v.limits.client
box_has_room v q i m k within is found =
    let both = found_meets (λ x. FitsBox v x × (x.client ≡ q.client)) q.client m v.members (All-each (FitsBox v) (λ x. x.client ≡ q.client → FitsBox v x × (x.client ≡ q.client)) (λ x h same. (h, same)) v.members k.boxes) found in
    let r = count_by-remove (λ p. p.client == m.client) v.window i q within is in
    let one : cond (q.client == m.client) 1 0 ≡ suc 0 = ap {B = ℕ} (λ b. cond b 1 0) (eq-eqb q.client m.client (sym both.1)) in
    omega (arith, r, one, both.0.0, both.0.1)

pub KeepsRoom-settled : (v : Content) (e : Entry) (p : Pdu) (q : Place) (i : ℕ) (m : Member) → KeepsRoom v → i < length v.window → q ≡ get_or v.window i q → member_with q.client v.members ≡ Some m → KeepsRoom (settled v e p q i)
KeepsRoom-settled v e p q i m k within is found =
    let f : Member → Member = λ x. record x { waiting = x.waiting ++ response_for q p ∷ [] } in
    let w = length-remove v.window i within in
    let n = length-append v.entries (e ∷ []) in
    let s : sum_by (λ x. length x.waiting) (with_row q.client f v.members) ≡ sum_by (λ x. length x.waiting) v.members + 1 =
    sum_one (λ x. length x.waiting) f q.client 0 m v.members (λ x. length-append x.waiting (response_for q p ∷ [])) k.clients found in
    let l : length (with_row q.client f v.members) ≡ length v.members = length-with_row f q.client v.members in
    record {
      limits = k.limits;
      queue = k.queue;
      window = omega (arith, w, k.window);
      size = omega (arith, w, n, s, l, k.size);
      boxes = All-with_row (FitsBox v) (FitsBox (settled v e p q i)) f q.client
          (λ x same fits.
          let r = count_by-remove (λ y. y.client == x.client) v.window i q within is in
          let one : cond (q.client == x.client) 1 0 ≡ suc 0 = ap {B = ℕ} (λ b. cond b 1 0) (eq-eqb q.client x.client (sym same)) in
          (omega (arith, r, one, length-append x.waiting (response_for q p ∷ []), fits.0), fits.1))
          (λ x apart fits.
          let r = count_by-remove (λ y. y.client == x.client) v.window i q within is in
          (omega (arith, r, fits.0), fits.1)) v.members k.boxes;
      queue_known = k.queue_known;
      window_known = λ c above. let r = count_by-remove (λ y. y.client == c) v.window i q within is in omega (arith, r, k.window_known c above);
      members_known = All-with_row (λ x. x.client ≤ v.greatest) (λ x. x.client ≤ v.greatest) f q.client (λ x _ h. h) (λ x _ h. h) v.members k.members_known;
      clients = let P : List ℕ → Type 0 = λ cs. RiseAbove 0 cs in subst P (sym (map-with_row (λ x. x.client) f q.client (λ _. refl) v.members)) k.clients;
    }

-- where the client has retired, a place goes and an entry comes
pub KeepsRoom-settled_late : (v : Content) (e : Entry) (q : Place) (i : ℕ) → KeepsRoom v → i < length v.window → q ≡ get_or v.window i q → KeepsRoom (settled_late v e i)
KeepsRoom-settled_late v e q i k within is =
    let w = length-remove v.window i within in
    let n = length-append v.entries (e ∷ []) in
    record {
      limits = k.limits;
      queue = k.queue;
      window = omega (arith, w, k.window);
      size = omega (arith, w, n, k.size);
      boxes = All-each (FitsBox v) (FitsBox (settled_late v e i))
          (λ x fits. let r = count_by-remove (λ y. y.client == x.client) v.window i q within is in (omega (arith, r, fits.0), fits.1)) v.members k.boxes;
      queue_known = k.queue_known;
      window_known = λ c above. let r = count_by-remove (λ y. y.client == c) v.window i q within is in omega (arith, r, k.window_known c above);
      members_known = k.members_known;
      clients = k.clients;
    }

sum_down : (f : Member → Member) (c low : ℕ) (m : Member) (ms : List Member) → length (f m).waiting + 1 ≡ length m.waiting → RiseAbove low (map (λ x. x.client) ms) → member_with c ms ≡ Some m → sum_by (λ x. length x.waiting) (with_row c f ms) + 1 ≡ sum_by (λ x. length x.waiting) ms
sum_down f c low m [] less rise found = cc
sum_down f c low m (x ∷ ms) less rise found =
    elim (cases_eq x.client c) [
      | inl same ↦
          let here : (x.client == c) ≡ true = eq-eqb x.client c same in
          let is : Some x ≡ Some m = rw here at found in
          let x-is : x ≡ m = cc in
          let rest = with_row-above f ms c x.client (omega arith) rise.1 in
          let one : length (f x).waiting + 1 ≡ length x.waiting = subst (λ (y : Member). length (f y).waiting + 1 ≡ length y.waiting) (sym x-is) less in
          rw (here, rest) (omega (arith, sum_by-cons (λ (y : Member). length y.waiting) (f x) ms, sum_by-cons (λ (y : Member). length y.waiting) x ms, one))
      | inr apart ↦
          let there : (x.client == c) ≡ false = ne_eqb x.client c apart in
          let later : member_with c ms ≡ Some m = rw there at found in
          let ih = sum_down f c x.client m ms less rise.1 later in
          rw there (omega (arith, sum_by-cons (λ (y : Member). length y.waiting) x (with_row c f ms), sum_by-cons (λ (y : Member). length y.waiting) x ms, ih))
    ]

-- a collect keeps the room
pub KeepsRoom-collected : (v : Content) (by c : ℕ) (r : Response) (m : Member) → KeepsRoom v → member_with c v.members ≡ Some m → 0 < length m.waiting → KeepsRoom (collected v by c r)
KeepsRoom-collected v by c r m k found some =
    let f : Member → Member = λ x. record x { pending = x.pending - 1; waiting = drop 1 x.waiting } in
    let e : length (v.entries ++ entry_by by (Collect c r.ordinal) ∷ []) ≡ length v.entries + 1 = length-append v.entries (entry_by by (Collect c r.ordinal) ∷ []) in
    let less : length (drop 1 m.waiting) + 1 ≡ length m.waiting = omega (arith, length-drop 1 m.waiting, some) in
    let s = sum_down f c 0 m v.members less k.clients found in
    let l : length (with_row c f v.members) ≡ length v.members = length-with_row f c v.members in
    record {
      limits = k.limits;
      queue = k.queue;
      window = k.window;
      size = omega (arith, e, s, l, k.size);
      boxes = All-with_row (λ x. FitsBox v x × (x.client ≡ c → x ≡ m)) (FitsBox (collected v by c r)) f c
          (λ x same h.
          let long : length x.waiting ≡ length m.waiting = ap (λ (y : Member). length y.waiting) (h.1 same) in
          (omega (arith, h.0.0, length-drop 1 x.waiting, long, some), omega (arith, h.0.1)))
          (λ x apart h. h.0) v.members (All-both (FitsBox v) (λ x. x.client ≡ c → x ≡ m) v.members k.boxes (one_row v.members c 0 m k.clients found));
      queue_known = k.queue_known;
      window_known = k.window_known;
      members_known = All-with_row (λ x. x.client ≤ v.greatest) (λ x. x.client ≤ v.greatest) f c (λ x _ h. h) (λ x _ h. h) v.members k.members_known;
      clients = let P : List ℕ → Type 0 = λ cs. RiseAbove 0 cs in subst P (sym (map-with_row (λ x. x.client) f c (λ _. refl) v.members)) k.clients;
    }
