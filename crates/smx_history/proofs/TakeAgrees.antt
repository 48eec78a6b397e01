-- A take takes a lane that agrees with a history to one that agrees with the longer history.
use Rattle.std.specs.Option.{option_map}
use Rattle.std.proofs.lemmas.Option.{slice_get-map}
use Rattle.smx_history.proofs.FitsTake.{MayTake, takes_push, unanswered_taken, take_fit, numbers_push}
use Rattle.smx_history.proofs.Shifting.{IsLegal-next, IsLegal-within, stored-push}
use Rattle.smx_history.proofs.Parts.{count_numbered}
use Rattle.smx_history.proofs.Taking.{any-and, drop-split, drop-next, filter-and, none_before, filter_none, not_settled}
use Rattle.std.proofs.Common.{slice_get, zero, ◌≡◌, ◌<◌, ◌≤◌, ◌+◌, ◌==◌, ℕ, Bool, true, false, cond, ◌||◌, ◌&&◌, List, [], ◌∷◌, ◌++◌, length, map, take, drop, refl, sym, ◌∙◌, ap, subst, set, arith, filter, count_by, length-append, length-drop, nat_eq, Some, None, suc}
use Rattle.std.specs.List.{list_any, AllByRecursion, cons_option}
use Rattle.std.proofs.lemmas.List.{append-nil, length-map, map-append, take-map, drop-map}
use Rattle.std.proofs.lemmas.List.Elements.{filter-append, filter_map-append}
use Rattle.smx_history.proofs.Counts.{SameCounts-push, any-same}
use Rattle.std.proofs.lemmas.Bool.{eq-eqb, and_from, or_parts}
use Rattle.smx_history.specs.declared.note.Event.TheVariants.{Accept, Take}
use Rattle.smx_history.specs.declared.entry.Entry.{Entry}
use Rattle.smx_history.specs.declared.request.Request.{Request}
use Rattle.smx_history.specs.declared.place.Place.{Place}
use Rattle.smx_history.specs.declared.note.Note.{Note}
use Rattle.smx_history.specs.Prefixes.{RiseAbove, first_or}
use Rattle.smx_history.specs.Entries.{is_accept, has_name, name_of, Name, accepts, takes, unanswered_takes, own_of, command_of, is_settled, numbers}
use Rattle.smx_history.specs.Legal.{IsFifo, IsOnce, owed_count}
use Rattle.smx_history.specs.History.{entry_by, note, marks_of, entries_of, requests, request_in}
use Rattle.smx_history.specs.Contents.{AgreesWith, Content, place_of, window_after}
use Rattle.smx_history.proofs.Updates.{taken, place_for, following}
use Rattle.smx_history.proofs.ListPushes.{filter_other, AtEachPrefix-whole}
use Rattle.smx_history.proofs.Frames.{accepts-other, admits-other, present-other, waiting-other, is_up-other}
use Rattle.smx_history.proofs.Reading.{requests_are_accepts, unsigned, entries_of-push, marks_of-push, All-to_map, All-of_map}
use Rattle.smx_history.proofs.Sizes.{length-window}
use Rattle.smx_history.proofs.Places.{places-kept}
use Rattle.smx_history.proofs.Moments.{moment_of-taken}
use Rattle.smx_history.proofs.Numbering.{numbered_taken, generations_taken, latest_taken, IsNextNumber}
use Rattle.smx_history.proofs.Spacing.{spaced_placed}
use Rattle.smx_history.proofs.Rows.{row-other, rows-kept}
use Rattle.smx_history.specs.Numbers.{place_in, generation_in, generations_after}

-- the entry of the accept that is next to be taken
pub record IsNextAccept (es : List Entry) (r : Request) (y : Entry) (zs : List Entry) : Type 0 where
  pub there : drop (length (takes es)) (accepts es) ≡ y ∷ zs
  pub client : y.client ≡ r.client
  pub ordinal : y.ordinal ≡ r.ordinal
  pub own : y.number ≡ r.own
  pub command : y.command ≡ r.command

next_in : (es ws : List Entry) (r : Request) (rest : List Entry) → drop (length (takes es)) (accepts es) ≡ ws → map unsigned ws ≡ entry_by 0 (Accept r) ∷ rest → (y : Entry) × (zs : List Entry) × IsNextAccept es r y zs
next_in es [] r rest at same = cc
next_in es (y ∷ zs) r rest at same =
    let e : unsigned y ≡ entry_by 0 (Accept r) = cc in
    (y, zs, record { there = at; client = ap (λ (x : Entry). x.client) e; ordinal = ap (λ (x : Entry). x.ordinal) e; own = ap (λ (x : Entry). x.number) e; command = ap (λ (x : Entry). x.command) e })

pub next_accept : (h : List Note) (r : Request) (rest : List Request) → r ∷ rest ≡ drop (length (takes (entries_of h))) (requests h) → (y : Entry) × (zs : List Entry) × IsNextAccept (entries_of h) r y zs
next_accept h r rest q =
    let es = entries_of h in
    let n = length (takes es) in
    next_in es (drop n (accepts es)) r (map (λ x. entry_by 0 (Accept x)) rest) refl
    (sym (drop-map unsigned n (accepts es)) ∙ ap (drop n) (sym (requests_are_accepts h)) ∙ drop-map (λ x. entry_by 0 (Accept x)) n (requests h) ∙ ap (map (λ x. entry_by 0 (Accept x))) (sym q))

-- no accept before the next one has its name
before_next : (es : List Entry) (r : Request) (y : Entry) (zs : List Entry) → IsNextAccept es r y zs → IsOnce es → AllByRecursion (λ x. has_name r.client r.ordinal x ≡ false) (take (length (takes es)) (accepts es))
before_next es r y zs next once =
    let n = length (takes es) in
    let whole : accepts es ≡ take n (accepts es) ++ y ∷ zs = drop-split n (accepts es) y zs next.there in
    let rise : RiseAbove 0 (map (λ e. e.ordinal) (filter (λ e. e.client == r.client) (accepts es))) =
    subst (λ (xs : List Entry). RiseAbove 0 (map (λ e. e.ordinal) xs)) (filter-and (λ e. is_accept e.kind) (λ e. e.client == r.client) es) (once.ordinals r.client) in
    let rise' : RiseAbove 0 (map (λ e. e.ordinal) (filter (λ e. e.client == r.client) (take n (accepts es) ++ y ∷ zs))) =
    subst (λ (xs : List Entry). RiseAbove 0 (map (λ e. e.ordinal) (filter (λ e. e.client == r.client) xs))) whole rise in
    subst (λ (m : ℕ). AllByRecursion (λ x. has_name r.client m x ≡ false) (take n (accepts es))) next.ordinal
    (none_before 0 r.client (take n (accepts es)) y zs next.client rise')

-- the name of a request: the same test on a name
abbrev is_named : ℕ → ℕ → Name → Bool
is_named c n x = (x.client == c) && (x.ordinal == n)

-- so no take has it
no_take : (es : List Entry) (r : Request) (y : Entry) (zs : List Entry) → IsNextAccept es r y zs → IsFifo es → IsOnce es → AllByRecursion (λ t. has_name r.client r.ordinal t ≡ false) (takes es)
no_take es r y zs next fifo once =
    let n = length (takes es) in
    let P : Name → Type 0 = λ x. is_named r.client r.ordinal x ≡ false in
    let names : AllByRecursion P (map name_of (take n (accepts es))) = All-to_map P name_of (take n (accepts es)) (before_next es r y zs next once) in
    let same : map name_of (take n (accepts es)) ≡ map name_of (takes es) =
    sym (take-map name_of n (accepts es)) ∙ ap (λ k. take k (map name_of (accepts es))) (sym (length-map (takes es) name_of)) ∙ fifo.taken in
    All-of_map P name_of (takes es) (subst (AllByRecursion P) same names)

cong_name : {a b c d : ℕ} → a ≡ b → c ≡ d → ◌≡◌ {A = Name} (record { client = a; ordinal = c }) (record { client = b; ordinal = d })
cong_name p q = λ i. record { client = p i; ordinal = q i }

next-lt : (es : List Entry) (r : Request) (y : Entry) (zs : List Entry) → IsNextAccept es r y zs → length (takes es) < length (accepts es)
next-lt es r y zs next = omega (arith, ap length next.there, length-drop (length (takes es)) (accepts es))

-- its name is that of the next accept
next_name : (es : List Entry) (r : Request) (y : Entry) (zs : List Entry) → IsNextAccept es r y zs → slice_get (map name_of (accepts es)) (length (map name_of (takes es))) ≡ Some (record { client = r.client; ordinal = r.ordinal })
next_name es r y zs next =
    ap (slice_get (map name_of (accepts es))) (length-map (takes es) name_of) ∙ slice_get-map name_of (accepts es) (length (takes es))
    ∙ ap (option_map name_of) (front_of (length (takes es)) (accepts es) next.there) ∙ ap Some (cong_name next.client next.ordinal)
  where
    front_of : (n : ℕ) (xs : List Entry) → drop n xs ≡ y ∷ zs → slice_get xs n ≡ Some y
    front_of zero [] h = cc
    front_of (suc n) [] h = cc
    front_of zero (x ∷ xs) h = cc
    front_of (suc n) (x ∷ xs) h = front_of n xs h

owed-taken : (es : List Entry) (by : ℕ) (r : Request) (u t : ℕ) → is_settled r.client r.ordinal es ≡ false → length (takes es) < length (accepts es) → owed_count (es ++ entry_by by (Take r.client r.ordinal u t) ∷ []) + 1 ≡ owed_count es
owed-taken es by r u t none lt =
    let e = entry_by by (Take r.client r.ordinal u t) in
    rw (unanswered_taken es e refl none, waiting-other es e refl refl refl refl, present-other es e refl refl, accepts-other es e refl, takes_push es e refl, is_up-other es e refl)
    (omega (arith, length-append es (e ∷ []), length-append (takes es) (e ∷ []), length-append (unanswered_takes es) (e ∷ [])))

-- the accept with the name of the next request is the next one
named_next : (es : List Entry) (r : Request) (y : Entry) (zs : List Entry) → IsNextAccept es r y zs → IsOnce es → filter (λ e. is_accept e.kind && has_name r.client r.ordinal e) es ≡ y ∷ filter (has_name r.client r.ordinal) zs
named_next es r y zs next once =
    let n = length (takes es) in
    let here : has_name r.client r.ordinal y ≡ true = and_from _ _ (eq-eqb y.client r.client next.client) (eq-eqb y.ordinal r.ordinal next.ordinal) in
    filter-and (λ e. is_accept e.kind) (has_name r.client r.ordinal) es
    ∙ ap (filter (has_name r.client r.ordinal)) (drop-split n (accepts es) y zs next.there)
    ∙ filter-append (has_name r.client r.ordinal) (take n (accepts es)) (y ∷ zs)
    ∙ ap (λ xs. xs ++ filter (has_name r.client r.ordinal) (y ∷ zs)) (filter_none (has_name r.client r.ordinal) (take n (accepts es)) (before_next es r y zs next once))
    ∙ ap (λ b. cond b (y ∷ filter (has_name r.client r.ordinal) zs) (filter (has_name r.client r.ordinal) zs)) here

-- the numbers of the places are those of the unanswered takes
places_numbers : (h : List Note) (us : List Entry) → map (λ (p : Place). p.upstream) (map (place_of h) us) ≡ map (λ e. e.number) us
places_numbers h [] = refl
places_numbers h (e ∷ us) = ap (λ ns. e.number ∷ ns) (places_numbers h us)

free_numbers : (u : ℕ) (xs : List ℕ) → list_any (λ k. nat_eq k u) xs ≡ false → AllByRecursion (λ k. nat_eq k u ≡ false) xs
free_numbers u [] h = tt
free_numbers u (x ∷ xs) h = let w = or_parts (nat_eq x u) (list_any (λ k. nat_eq k u) xs) h in (w.0, free_numbers u xs w.1)

pub any-map : {X Y : Type 0} (p : Y → Bool) (f : X → Y) (xs : List X) → list_any p (map f xs) ≡ list_any (λ x. p (f x)) xs
any-map p f [] = refl
any-map p f (x ∷ xs) = ap (λ b. p (f x) || b) (any-map p f xs)

pub requests-other : (h : List Note) (n : Note) → request_in n.event ≡ None → requests (h ++ n ∷ []) ≡ requests h
requests-other h n none = filter_map-append (λ x. request_in x.event) h (n ∷ []) ∙ ap (λ o. requests h ++ cons_option o []) none ∙ append-nil (requests h)

cong_place : {u c n a b d e s t : ℕ} → a ≡ b → d ≡ e → s ≡ t → ◌≡◌ {A = Place} (record { upstream = u; client = c; ordinal = n; own = a; command = d; moment = s }) (record { upstream = u; client = c; ordinal = n; own = b; command = e; moment = t })
cong_place {u = u} {c = c} {n = n} p q m = λ i. record { upstream = u; client = c; ordinal = n; own = p i; command = q i; moment = m i }

queue_taken : (k : ℕ) (ts : List Entry) (e : Entry) (queue all : List Request) (r : Request) (rest : List Request) → length ts ≡ k → queue ≡ r ∷ rest → queue ≡ drop k all → drop 1 queue ≡ drop (length (ts ++ e ∷ [])) all
queue_taken k ts e queue all r rest n front q =
    let count : length (ts ++ e ∷ []) ≡ k + 1 = omega (arith, length-append ts (e ∷ []), n) in
    ap (drop 1) front ∙ sym (drop-next k all r rest (sym q ∙ front)) ∙ ap (λ j. drop j all) (sym count)

-- what a take needs of the lane, and of the number that it gives
pub record MayBeTaken (v : Content) (u : ℕ) : Type 0 where
  pub room : length v.window < v.limits.window
  pub up : v.up ≡ true
  pub positive : 0 < u
  pub within : u ≤ 2147483644
  pub free : list_any (λ (p : Place). p.upstream == u) v.window ≡ false
  pub next : IsNextNumber v.limits.window v.generations u

AgreesWith-taken_at : (h : List Note) (v : Content) (by : ℕ) (r : Request) (rest : List Request) (u t : ℕ) (y : Entry) (zs : List Entry) → IsNextAccept (entries_of h) r y zs → AgreesWith h v → v.queue ≡ r ∷ rest → MayBeTaken v u → AgreesWith (h ++ note by (Take r.client r.ordinal u t) ∷ []) (taken v by r u t)
AgreesWith-taken_at h v by r rest u t y zs next a front may_be =
    let es = entries_of h in
    let e = entry_by by (Take r.client r.ordinal u t) in
    let n = note by (Take r.client r.ordinal u t) in
    let fifo = AtEachPrefix-whole IsFifo es a.legal.rules.fifo in
    let push = entries_of-push h n e refl in
    let none = no_take es r y zs next fifo a.legal.rules.once in
    let untaken = any-and es r.client r.ordinal none in
    let unsettled = not_settled r.client r.ordinal es a.legal.rules.pairing none in
    let named = named_next es r y zs next a.legal.rules.once in
    let own : own_of r.client r.ordinal (entries_of (h ++ n ∷ [])) ≡ r.own =
    ap (own_of r.client r.ordinal) push ∙ ap (λ xs. first_or 0 (map (λ x. x.number) xs)) (filter_other (λ x. is_accept x.kind && has_name r.client r.ordinal x) es e refl ∙ named) ∙ next.own in
    let command : command_of r.client r.ordinal (entries_of (h ++ n ∷ [])) ≡ r.command =
    ap (command_of r.client r.ordinal) push ∙ ap (λ xs. first_or 0 (map (λ x. x.command) xs)) (filter_other (λ x. is_accept x.kind && has_name r.client r.ordinal x) es e refl ∙ named) ∙ next.command in
    let place : place_of (h ++ n ∷ []) e ≡ place_for r u t = cong_place own command (moment_of-taken r.client r.ordinal u t by h untaken) in
    let unused : list_any (λ k. nat_eq k u) (map (λ x. x.number) (unanswered_takes es)) ≡ false =
    ap (list_any (λ k. nat_eq k u)) (sym (places_numbers h (unanswered_takes es))) ∙ any-map (λ k. nat_eq k u) (λ (p : Place). p.upstream) (window_after h)
    ∙ any-same (λ (p : Place). p.upstream == u) (window_after h) v.window a.after.window may_be.free in
    let here : IsNextNumber v.limits.window (generations_after v.limits.window (numbers es)) u = subst (λ gs. IsNextNumber v.limits.window gs u) a.after.generations may_be.next in
    let numbered = numbered_taken v.limits.window u (numbers es) a.numbered here in
    let grown : numbers (entries_of (h ++ n ∷ [])) ≡ numbers es ++ u ∷ [] = ap numbers push ∙ numbers_push es e refl in
    let may : MayTake v.limits es e = record {
      command = refl;
      positive = may_be.positive;
      within = may_be.within;
      next = next_name es r y zs next;
      first = untaken;
      free = count_numbered u (unanswered_takes es) (free_numbers u (map (λ x. x.number) (unanswered_takes es)) unused);
      window = omega (arith, length-window h v a.after, may_be.room);
      up = sym a.after.up ∙ may_be.up;
      spaced = spaced_placed (numbers es ++ u ∷ []) numbered.placed;
    } in
    let window : window_after (h ++ n ∷ []) ≡ window_after h ++ place_for r u t ∷ [] =
    ap (map (place_of (h ++ n ∷ []))) (ap unanswered_takes push ∙ unanswered_taken es e refl unsettled)
    ∙ map-append (place_of (h ++ n ∷ [])) (unanswered_takes es) (e ∷ []) ∙ ap (λ xs. xs ++ place_of (h ++ n ∷ []) e ∷ []) (places-kept h (n ∷ []) fifo) ∙ ap (λ x. window_after h ++ x ∷ []) place in
    record {
      legal = rw (marks_of-push h n e refl) (IsLegal-next v.limits (marks_of h) e a.legal (take_fit v.limits es e a.legal.rules refl may) (let was = IsLegal-within v.limits (marks_of h) a.legal in omega (arith, owed-taken es by r u t unsettled (next-lt es r y zs next), was)));
      numbered = rw grown numbered;
      after = record {
        limits = refl;
        queue = rw (push, takes_push es e refl, requests-other h n refl) (queue_taken (length (takes es)) (takes es) e v.queue (requests h) r rest refl front a.after.queue);
        window = λ test. SameCounts-push (window_after h) v.window (place_for r u t) a.after.window test ∙ ap (count_by test) (sym window);
        members = rows-kept h n e v refl refl refl a.after (λ x. row-other h n e x refl refl refl refl a.legal.rules.pairing);
        greatest = rw (push, admits-other es e refl) a.after.greatest;
        up = rw (push, is_up-other es e refl) a.after.up;
        generations = ap (λ gs. set gs (place_in u) (following (generation_in u))) a.after.generations ∙ generations_taken v.limits.window u (numbers es) here ∙ ap (generations_after v.limits.window) (sym grown);
        latest = sym (latest_taken h by r.client r.ordinal u t);
        entries = rw (marks_of-push h n e refl, stored-push (marks_of h) e) (ap (λ xs. xs ++ e ∷ []) a.after.entries);
      };
    }

-- a take takes a lane that agrees with a history to one that agrees with the longer one
pub AgreesWith-taken : (h : List Note) (v : Content) (by : ℕ) (r : Request) (rest : List Request) (u t : ℕ) → AgreesWith h v → v.queue ≡ r ∷ rest → MayBeTaken v u → AgreesWith (h ++ note by (Take r.client r.ordinal u t) ∷ []) (taken v by r u t)
AgreesWith-taken h v by r rest u t a front may =
    let w = next_accept h r rest (sym front ∙ a.after.queue) in
    AgreesWith-taken_at h v by r rest u t w.0 w.1 w.2 a front may
