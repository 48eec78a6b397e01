-- A seat's own notes tell what the lane has of the client that it admitted.
use Rattle.std.proofs.Common.{◌≡◌, ◌<◌, ◌≤◌, ◌==◌, ℕ, Bool, true, false, cond, not, ◌||◌, ◌&&◌, List, [], ◌∷◌, ◌++◌, map, take, drop, refl, sym, ◌∙◌, ap, subst, arith, filter, slice_get, Option, Some, None, nat_le, length, if◌then◌else◌}
use Rattle.std.specs.Option.{option_map}
use Rattle.std.specs.List.{list_any, AllByRecursion, cons_option}
use Rattle.std.proofs.lemmas.List.{take-append-drop}
use Rattle.std.proofs.lemmas.Bool.{eq-eqb, eqb-true, ne_eqb, and_parts, and_from, both_ways, false_from_ne_true}
use Rattle.smx_lock.specs.Rule.{notes_of}
use Rattle.smx_lock.specs.Fronts.{Front, Hold, Finds}
use Rattle.smx_history.specs.declared.entry.Kind.{Kind}
use Rattle.smx_history.specs.declared.entry.Kind.TheVariants as kind
use Rattle.smx_history.specs.declared.entry.Entry.{Entry}
use Rattle.smx_history.specs.declared.limits.Limits.{Limits}
use Rattle.smx_history.specs.declared.note.Note.{Note}
use Rattle.smx_history.specs.declared.note.Event.{Event}
use Rattle.smx_history.specs.declared.note.Event.TheVariants as event
use Rattle.smx_history.specs.declared.reply.Refusal.TheVariants.{NotAdmitted, ClientFull, QueueFull, HistoryFull, Down}
use Rattle.smx_history.specs.Prefixes.{AtEach, RiseAbove, last_or}
use Rattle.smx_history.specs.Entries.{is_admit, is_accept, is_retire, admits, accepts, accepts_of, is_admitted, is_retired, present}
use Rattle.smx_history.specs.Legal.{IsMembership, StandsWell}
use Rattle.smx_history.specs.History.{entry_by, entries_of, request_in, requests}
use Rattle.smx_history.specs.Contents.{Content, Member, AgreesWith}
use Rattle.smx_lane.specs.Kept.{writer, limits_of, suits}
use Rattle.smx_history.specs.Replies.{member_with, is_present, refusal_for, accept_refusal, has_room}
use Rattle.smx_history.proofs.ListPushes.{any_kept}
use Rattle.smx_history.proofs.Reading.{All-from_get, All-filtered, any_at}
use Rattle.smx_history.proofs.Sizes.{present_served}
use Rattle.smx_history.proofs.Rows.{absent, each_row, is_present-any}
use Rattle.smx_history.proofs.Taking.{any_none}
use Rattle.smx_shared.proofs.Lists.{All-in_filter, All-at, any_weaken}
use Rattle.smx_shared.specs.Serving.{OneHold}
use Rattle.smx_shared.specs.Ports.{IsMemberBy}
use Rattle.smx_lane.specs.Conditions.{IsNext}
use Rattle.smx_shared.specs.Steps.{IsBelow, MayAccept}

by_is : (by : ℕ) (e : Event) → (entry_by by e).by ≡ by
by_is by (event.Admit c) = refl
by_is by (event.Accept r) = refl
by_is by (event.Take c n u t) = refl
by_is by (event.Answer c n p) = refl
by_is by (event.Late c n u k) = refl
by_is by (event.Collect c n) = refl
by_is by (event.Retire c) = refl
by_is by (event.Fail c n u k) = refl
by_is by event.Down = refl
by_is by event.Up = refl

-- the entries of a seat are those of its notes
pub own_entries : (k : ℕ) (h : List Note) → filter (λ e. e.by == k) (entries_of h) ≡ entries_of (notes_of writer k h)
own_entries k [] = refl
own_entries k (n ∷ h) = own_entries_at n.event (n.by == k) refl (own_entries k h)
  where
    own_entry : (x : Entry) (es rest : List Entry) (b : Bool) → (x.by == k) ≡ b → filter (λ e. e.by == k) es ≡ rest → filter (λ e. e.by == k) (x ∷ es) ≡ cond b (x ∷ rest) rest
    own_entry x es rest true is same = rw is (ap (λ ys. x ∷ ys) same)
    own_entry x es rest false is same = rw is same

    own_entries_at : (o : Option Event) (b : Bool) → (n.by == k) ≡ b → filter (λ e. e.by == k) (entries_of h) ≡ entries_of (notes_of writer k h)
        → filter (λ e. e.by == k) (cons_option (option_map (entry_by n.by) o) (entries_of h)) ≡ entries_of (cond b (record { by = n.by; event = o } ∷ notes_of writer k h) (notes_of writer k h))
    own_entries_at None true is same = same
    own_entries_at None false is same = same
    own_entries_at (Some e) true is same = own_entry (entry_by n.by e) (entries_of h) (entries_of (notes_of writer k h)) true (ap (λ b. b == k) (by_is n.by e) ∙ is) same
    own_entries_at (Some e) false is same = own_entry (entry_by n.by e) (entries_of h) (entries_of (notes_of writer k h)) false (ap (λ b. b == k) (by_is n.by e) ∙ is) same

any_filter : {X : Type 0} (p q : X → Bool) (xs : List X) → list_any (λ x. p x && q x) xs ≡ list_any q (filter p xs)
any_filter p q [] = refl
any_filter p q (x ∷ xs) = any_filter_at (p x) (any_filter p q xs)
  where
    any_filter_at : (b : Bool) → list_any (λ y. p y && q y) xs ≡ list_any q (filter p xs) → ((b && q x) || list_any (λ y. p y && q y) xs) ≡ list_any q (cond b (x ∷ filter p xs) (filter p xs))
    any_filter_at true h = ap (λ r. q x || r) h
    any_filter_at false h = h

-- what some element of a filter passes, some element passes
any_in_filter : {X : Type 0} (p q : X → Bool) (xs : List X) → list_any q (filter p xs) ≡ true → list_any q xs ≡ true
any_in_filter p q [] h = h
any_in_filter {X} p q (x ∷ xs) h = any_in_filter_at (p x) (q x) (list_any q (filter p xs)) (list_any q xs) (any_cond (p x) (filter p xs) ∙ h) (any_in_filter p q xs)
  where
    any_cond : (b : Bool) (ys : List X) → ((b && q x) || list_any q ys) ≡ list_any q (cond b (x ∷ ys) ys)
    any_cond true ys = refl
    any_cond false ys = refl

    any_in_filter_at : (b t l r : Bool) → ((b && t) || l) ≡ true → (l ≡ true → r ≡ true) → (t || r) ≡ true
    any_in_filter_at b true l r h later = refl
    any_in_filter_at true false l r h later = later h
    any_in_filter_at false false l r h later = later h

any_none_get : {X : Type 0} (p : X → Bool) (xs : List X) → ((i : ℕ) (x : X) → slice_get xs i ≡ Some x → p x ≡ true → ⊥) → list_any p xs ≡ false
any_none_get p xs none = any_none p xs (All-from_get (λ x. p x ≡ false) xs (λ i x at. false_from_ne_true (p x) (λ t. none i x at t)))

any_into_filter : {X : Type 0} (p q : X → Bool) (xs : List X) (i : ℕ) (x : X) → slice_get xs i ≡ Some x → p x ≡ true → q x ≡ true → list_any q (filter p xs) ≡ true
any_into_filter p q xs i x at here there = sym (any_filter p q xs) ∙ any_at (λ y. p y && q y) xs i x at (and_from (p x) (q x) here there)

or_none : (a l : Bool) → l ≡ false → (a || l) ≡ true → a ≡ true
or_none true l n h = refl
or_none false l n h = cc

none_above : (q : Entry → Bool) (c low : ℕ) (xs : List Entry) → c ≤ low → RiseAbove low (map (λ e. e.client) xs) → list_any (λ e. (e.client == c) && q e) xs ≡ false
none_above q c low [] h rise = refl
none_above q c low (x ∷ xs) h rise =
    let other : (x.client == c) ≡ false = ne_eqb x.client c (λ e. omega (arith, rise.0)) in
    rw other (none_above q c x.client xs (omega (arith, rise.0)) rise.1)

-- a client was admitted by one caller
one_admit : (c k b low : ℕ) (xs : List Entry) → RiseAbove low (map (λ e. e.client) xs) → list_any (λ e. (e.client == c) && (e.by == k)) xs ≡ true → list_any (λ e. (e.client == c) && (e.by == b)) xs ≡ true → b ≡ k
one_admit c k b low [] rise h g = cc
one_admit c k b low (x ∷ xs) rise h g = one_admit_at (x.client == c) refl h g (one_admit c k b x.client xs rise.1)
  where
    one_admit_at : (t : Bool) → (x.client == c) ≡ t → ((t && (x.by == k)) || list_any (λ e. (e.client == c) && (e.by == k)) xs) ≡ true → ((t && (x.by == b)) || list_any (λ e. (e.client == c) && (e.by == b)) xs) ≡ true
        → (list_any (λ e. (e.client == c) && (e.by == k)) xs ≡ true → list_any (λ e. (e.client == c) && (e.by == b)) xs ≡ true → b ≡ k) → b ≡ k
    one_admit_at true e h g later =
        let same = eqb-true x.client c e in
        let one = or_none (x.by == k) _ (none_above (λ e. e.by == k) c x.client xs (omega (arith, same)) rise.1) h in
        let two = or_none (x.by == b) _ (none_above (λ e. e.by == b) c x.client xs (omega (arith, same)) rise.1) g in
        sym (eqb-true x.by b two) ∙ eqb-true x.by k one
    one_admit_at false e h g later = later h g

pub server : (es : List Entry) (c k b : ℕ) → IsMembership es → is_admitted k c es ≡ true → is_admitted b c es ≡ true → b ≡ k
server es c k b m one two = one_admit c k b 0 (admits es) m.clients
    (sym (any_filter (λ e. is_admit e.kind) (λ e. (e.client == c) && (e.by == k)) es) ∙ one)
    (sym (any_filter (λ e. is_admit e.kind) (λ e. (e.client == c) && (e.by == b)) es) ∙ two)

served_if : (kind : Kind) (before : List Entry) (x : Entry) → StandsWell kind before x → (is_accept kind || is_retire kind) ≡ true → is_admitted x.by x.client before ≡ true
served_if kind.Accept before x s t = s.0.0
served_if kind.Retire before x s t = s.0
served_if kind.Admit before x s t = cc
served_if kind.Take before x s t = cc
served_if kind.Answer before x s t = cc
served_if kind.Late before x s t = cc
served_if kind.Collect before x s t = cc
served_if kind.Fail before x s t = cc
served_if kind.Down before x s t = cc
served_if kind.Up before x s t = cc

-- an accept or a retire of the client was made by the one who admitted it
own_by : (es : List Entry) (c k i : ℕ) (x : Entry) → IsMembership es → AtEach (λ before e. StandsWell e.kind before e) es → is_admitted k c es ≡ true
    → slice_get es i ≡ Some x → (is_accept x.kind || is_retire x.kind) ≡ true → x.client ≡ c → x.by ≡ k
own_by es c k i x m stands admitted at kind of =
    let before : is_admitted x.by x.client (take i es) ≡ true = served_if x.kind (take i es) x (stands i x at) kind in
    let now : is_admitted x.by x.client (take i es ++ drop i es) ≡ true = any_kept (λ y. is_admit y.kind && ((y.client == x.client) && (y.by == x.by))) (take i es) (drop i es) before in
    let whole : is_admitted x.by x.client es ≡ true = rw take-append-drop at now in
    server es c k x.by m admitted (ap (λ d. is_admitted x.by d es) (sym of) ∙ whole)

-- what holds of the seat's own accepts holds of the client's
pub accepts_own : (P : Entry → Type 0) (es : List Entry) (c k : ℕ) → IsMembership es → AtEach (λ before e. StandsWell e.kind before e) es → is_admitted k c es ≡ true
    → AllByRecursion P (accepts (filter (λ e. e.by == k) es)) → AllByRecursion P (accepts_of c es)
accepts_own P es c k m stands admitted own =
    let in_own : AllByRecursion (λ e. (e.by == k) ≡ true → is_accept e.kind ≡ true → P e) es =
    All-in_filter (λ e. is_accept e.kind ≡ true → P e) (λ e. e.by == k) es (All-in_filter P (λ e. is_accept e.kind) (filter (λ e. e.by == k) es) own) in
    All-filtered P (λ e. is_accept e.kind && (e.client == c)) es (All-from_get (λ e. (is_accept e.kind && (e.client == c)) ≡ true → P e) es (λ i x at t.
    let w = and_parts (is_accept x.kind) (x.client == c) t in
    let by = own_by es c k i x m stands admitted at (or_left (is_accept x.kind) (is_retire x.kind) w.0) (eqb-true x.client c w.1) in
    All-at (λ e. (e.by == k) ≡ true → is_accept e.kind ≡ true → P e) es i x at in_own (eq-eqb x.by k by) w.0))
  where
    or_left : (a b : Bool) → a ≡ true → (a || b) ≡ true
    or_left true b h = refl
    or_left false b h = cc

-- with no retire of the client among the seat's own notes there is none
pub stays_own : (es : List Entry) (c k : ℕ) → IsMembership es → AtEach (λ before e. StandsWell e.kind before e) es → is_admitted k c es ≡ true
    → is_retired c (filter (λ e. e.by == k) es) ≡ false → is_retired c es ≡ false
stays_own es c k m stands admitted own = any_none_get (λ e. is_retire e.kind && (e.client == c)) es (λ i x at t.
    let w = and_parts (is_retire x.kind) (x.client == c) t in
    let by = own_by es c k i x m stands admitted at (or_right (is_accept x.kind) (is_retire x.kind) w.0) (eqb-true x.client c w.1) in
    both_ways (is_retired c (filter (λ e. e.by == k) es)) own (any_into_filter (λ e. e.by == k) (λ e. is_retire e.kind && (e.client == c)) es i x at (eq-eqb x.by k by) t))
  where
    or_right : (a b : Bool) → b ≡ true → (a || b) ≡ true
    or_right true b h = refl
    or_right false b h = h

last_below : (n low : ℕ) (es : List Entry) → low < n → AllByRecursion (λ e. e.ordinal < n) es → last_or low (map (λ e. e.ordinal) es) < n
last_below n low [] h all = h
last_below n low (e ∷ es) h all = last_below n e.ordinal es all.0 all.1

-- the requests of a history have the ordinals of its accepts
below_entries : (n : ℕ) (h : List Note) → AllByRecursion (λ r. r.ordinal < n) (requests h) → AllByRecursion (λ (e : Entry). e.ordinal < n) (accepts (entries_of h))
below_entries n [] all = tt
below_entries n (m ∷ h) all = below_at m.event all (below_entries n h)
  where
    below_at : (e : Option Event) → AllByRecursion (λ r. r.ordinal < n) (cons_option (request_in e) (requests h)) → (AllByRecursion (λ r. r.ordinal < n) (requests h) → AllByRecursion (λ (x : Entry). x.ordinal < n) (accepts (entries_of h)))
        → AllByRecursion (λ (x : Entry). x.ordinal < n) (accepts (cons_option (option_map (entry_by m.by) e) (entries_of h)))
    below_at (Some (event.Accept r)) b later = (b.0, later b.1)
    below_at (Some (event.Admit c)) b later = later b
    below_at (Some (event.Take c o u t)) b later = later b
    below_at (Some (event.Answer c o p)) b later = later b
    below_at (Some (event.Late c o u k)) b later = later b
    below_at (Some (event.Collect c o)) b later = later b
    below_at (Some (event.Retire c)) b later = later b
    below_at (Some (event.Fail c o u k)) b later = later b
    below_at (Some event.Down) b later = later b
    below_at (Some event.Up) b later = later b
    below_at None b later = later b

-- the client's row is of the seat that admitted it, and its last ordinal is below n
pub own_rows : (f : Front Note Limits) (h : Hold Content Note Limits) (c n : ℕ) → Finds writer limits_of suits f h → IsMemberBy c f → IsBelow n f → 0 < n
    → AllByRecursion (λ (m : Member). m.client ≡ c → (m.last < n) × (m.by ≡ h.number)) h.value.members
own_rows f h c n found member below pos =
    let es = entries_of h.found in
    let a : AgreesWith h.found h.value = found.agrees in
    let mine : filter (λ e. e.by == h.number) es ≡ entries_of f.mine = own_entries h.number h.found ∙ ap entries_of (found.own ∙ found.mine) in
    let admitted : is_admitted h.number c es ≡ true = any_in_filter (λ e. e.by == h.number) (λ e. is_admit e.kind && ((e.client == c) && (e.by == h.number))) es
    (ap (is_admitted h.number c) mine ∙ ap (λ k. is_admitted k c (entries_of f.mine)) found.number ∙ member.admitted) in
    let all : AllByRecursion (λ (e : Entry). e.ordinal < n) (accepts_of c es) = accepts_own (λ e. e.ordinal < n) es c h.number a.legal.rules.membership a.legal.rules.standing admitted
    (subst (λ xs. AllByRecursion (λ (e : Entry). e.ordinal < n) (accepts xs)) (sym mine) (below_entries n f.mine below)) in
    each_row (λ e. (is_admitted e.by e.client es ≡ true) × (is_retired e.client es ≡ false)) (λ m. m.client ≡ c → (m.last < n) × (m.by ≡ h.number)) h.found h.value
    (λ e served same. (
      subst (λ l. l < n) (sym (ap (λ d. last_or 0 (map (λ x. x.ordinal) (accepts_of d es))) same)) (last_below n 0 (accepts_of c es) pos all),
      server es c h.number e.by a.legal.rules.membership admitted (ap (λ d. is_admitted e.by d es) (sym same) ∙ served.0),
    ))
    (present_served es) a.after

-- the client's row is of the seat that admitted it
pub own_rows_by : (f : Front Note Limits) (h : Hold Content Note Limits) (c : ℕ) → Finds writer limits_of suits f h → IsMemberBy c f
    → AllByRecursion (λ (m : Member). m.client ≡ c → m.by ≡ h.number) h.value.members
own_rows_by f h c found member =
    let es = entries_of h.found in
    let a : AgreesWith h.found h.value = found.agrees in
    let mine : filter (λ e. e.by == h.number) es ≡ entries_of f.mine = own_entries h.number h.found ∙ ap entries_of (found.own ∙ found.mine) in
    let admitted : is_admitted h.number c es ≡ true = any_in_filter (λ e. e.by == h.number) (λ e. is_admit e.kind && ((e.client == c) && (e.by == h.number))) es
    (ap (is_admitted h.number c) mine ∙ ap (λ k. is_admitted k c (entries_of f.mine)) found.number ∙ member.admitted) in
    each_row (λ e. (is_admitted e.by e.client es ≡ true) × (is_retired e.client es ≡ false)) (λ m. m.client ≡ c → m.by ≡ h.number) h.found h.value
    (λ e served same. server es c h.number e.by a.legal.rules.membership admitted (ap (λ d. is_admitted e.by d es) (sym same) ∙ served.0))
    (present_served es) a.after

not_admitted : (v : Content) (m : Member) → refusal_for v (Some m) ≡ Some NotAdmitted → ⊥
not_admitted v m = refused (nat_le v.limits.client m.pending) (nat_le v.limits.queue (length v.queue)) (has_room v) v.up
  where
    refused : (x y z u : Bool) → (if x then Some ClientFull else if y then Some QueueFull else if not z then Some HistoryFull else if not u then Some Down else None) ≡ Some NotAdmitted → ⊥
    refused true y z u = λ h. cc
    refused false true z u = λ h. cc
    refused false false false u = λ h. cc
    refused false false true true = λ h. cc
    refused false false true false = λ h. cc

-- who was admitted and has not retired is present
present_in : (es : List Entry) (c k : ℕ) → is_admitted k c es ≡ true → is_retired c es ≡ false → list_any (λ a. a.client == c) (present es) ≡ true
present_in es c k admitted here =
    sym (any_filter (λ a. not (is_retired a.client es)) (λ a. a.client == c) (admits es))
    ∙ any_weaken (λ a. (a.client == c) && (a.by == k)) (λ a. not (is_retired a.client es) && (a.client == c)) (λ a t. stays a ((and_parts (a.client == c) (a.by == k) t).0)) (admits es)
    (sym (any_filter (λ e. is_admit e.kind) (λ e. (e.client == c) && (e.by == k)) es) ∙ admitted)
  where
    stays : (a : Entry) → (a.client == c) ≡ true → (not (is_retired a.client es) && (a.client == c)) ≡ true
    stays a is = and_from (not (is_retired a.client es)) (a.client == c) (ap (λ d. not (is_retired d es)) (eqb-true a.client c is) ∙ ap not here) is

-- the client has a row
pub row_there : (f g : Front Note Limits) (c : ℕ) (found own : List Note) (v : Content) → OneHold f g found own v → IsMemberBy c f → member_with c v.members ≡ None → ⊥
row_there f g c found own v hold member none =
    let es = entries_of found in
    let mine : filter (λ e. e.by == f.number) es ≡ entries_of f.mine = own_entries f.number found ∙ ap entries_of hold.serves.own in
    let admitted : is_admitted f.number c es ≡ true = any_in_filter (λ e. e.by == f.number) (λ e. is_admit e.kind && ((e.client == c) && (e.by == f.number))) es
    (ap (is_admitted f.number c) mine ∙ member.admitted) in
    let here : is_retired c es ≡ false = stays_own es c f.number hold.agrees.legal.rules.membership hold.agrees.legal.rules.standing admitted (ap (is_retired c) mine ∙ member.stays) in
    both_ways (is_present c found) (absent found v c hold.agrees none) (is_present-any found c ∙ present_in es c f.number admitted here)

-- so a request of the client isn't refused for want of one, by a lane with the same rows
pub has_row : (f g : Front Note Limits) (c : ℕ) (found own : List Note) (v met : Content) → met.members ≡ v.members → OneHold f g found own v → IsMemberBy c f → accept_refusal met c ≡ Some NotAdmitted → ⊥
has_row f g c found own v met same hold member refused = has_row_at (member_with c v.members) refl (subst (λ ms. refusal_for met (member_with c ms) ≡ Some NotAdmitted) same refused)
  where
    has_row_at : (o : Option Member) → member_with c v.members ≡ o → refusal_for met o ≡ Some NotAdmitted → ⊥
    has_row_at (Some m) e r = not_admitted met m r
    has_row_at None e r = row_there f g c found own v hold member e

-- what the seat finds in a hold lets the client submit from n on
pub present_for : (f : Front Note Limits) (h : Hold Content Note Limits) (c n : ℕ) → Finds writer limits_of suits f h → IsMemberBy c f → IsBelow n f → MayAccept h.value h.number c n
present_for f h c n found member below =
    let es = entries_of h.found in
    let a : AgreesWith h.found h.value = found.agrees in
    let mine : filter (λ e. e.by == h.number) es ≡ entries_of f.mine = own_entries h.number h.found ∙ ap entries_of (found.own ∙ found.mine) in
    let admitted : is_admitted h.number c es ≡ true = any_in_filter (λ e. e.by == h.number) (λ e. is_admit e.kind && ((e.client == c) && (e.by == h.number))) es
    (ap (is_admitted h.number c) mine ∙ ap (λ k. is_admitted k c (entries_of f.mine)) found.number ∙ member.admitted) in (
      h.found,
      a,
      record {
        admitted = admitted;
        stays = stays_own es c h.number a.legal.rules.membership a.legal.rules.standing admitted (ap (is_retired c) mine ∙ member.stays);
        below = accepts_own (λ e. e.ordinal < n) es c h.number a.legal.rules.membership a.legal.rules.standing admitted
            (subst (λ xs. AllByRecursion (λ (e : Entry). e.ordinal < n) (accepts xs)) (sym mine) (below_entries n f.mine below));
      },
    )

-- so its next request keeps to the condition of an accept
pub next_of : (v : Content) (k c n : ℕ) → MayAccept v k c n → 0 < n → IsNext v k c n
next_of v k c n may pos =
    let es = entries_of may.0 in
    let a : AgreesWith may.0 v = may.1 in
    each_row (λ e. (is_admitted e.by e.client es ≡ true) × (is_retired e.client es ≡ false)) (λ m. m.client ≡ c → (m.last < n) × (m.by ≡ k)) may.0 v
    (λ e served same. (
      subst (λ l. l < n) (sym (ap (λ d. last_or 0 (map (λ x. x.ordinal) (accepts_of d es))) same)) (last_below n 0 (accepts_of c es) pos may.2.below),
      server es c k e.by a.legal.rules.membership may.2.admitted (ap (λ d. is_admitted e.by d es) (sym same) ∙ served.0),
    ))
    (present_served es) a.after

-- and isn't refused for want of a row
pub row_for : (v met : Content) (k c n : ℕ) → met.members ≡ v.members → MayAccept v k c n → accept_refusal met c ≡ Some NotAdmitted → ⊥
row_for v met k c n same may refused = row_for_at (member_with c v.members) refl (subst (λ ms. refusal_for met (member_with c ms) ≡ Some NotAdmitted) same refused)
  where
    row_for_at : (o : Option Member) → member_with c v.members ≡ o → refusal_for met o ≡ Some NotAdmitted → ⊥
    row_for_at (Some m) e r = not_admitted met m r
    row_for_at None e r = both_ways (is_present c may.0) (absent may.0 v c may.1 e) (is_present-any may.0 c ∙ present_in (entries_of may.0) c k may.2.admitted may.2.stays)
