-- Notes and their entries; which requests the names in a legal history have.
use Rattle.std.proofs.Common.{◌≡◌, ◌==◌, ℕ, Bool, true, false, cond, ◌||◌, ◌&&◌, List, [], ◌∷◌, ◌++◌, length, map, take, drop, refl, sym, ◌∙◌, ap, subst, Option, Some, None, slice_get, filter, zero, suc}
use Rattle.std.specs.List.{list_any, AllByRecursion, cons_option}
use Rattle.std.proofs.lemmas.List.{append-nil, length-map, take-append-drop, map-append}
use Rattle.std.proofs.lemmas.List.Elements.{filter_map-append}
use Rattle.std.proofs.lemmas.Bool.{eq-eqb, eqb-true, and_from, and_parts}
use Rattle.std.proofs.lemmas.List.Folds.{list_any_at}
use Rattle.std.proofs.lemmas.Option.{slice_get_within, get_or_from_slice_get}
use Rattle.smx_history.specs.declared.entry.Kind.{Kind}
use Rattle.smx_history.specs.declared.entry.Kind.TheVariants as kind
use Rattle.smx_history.specs.declared.note.Event.{Event}
use Rattle.smx_history.specs.declared.note.Event.TheVariants.{Admit, Accept, Take, Answer, Late, Collect, Retire, Fail, Down, Up}
use Rattle.smx_history.specs.declared.entry.Entry.{Entry}
use Rattle.smx_history.specs.declared.note.Note.{Note}
use Rattle.smx_history.specs.declared.response.Response.{Response}
use Rattle.smx_history.specs.Prefixes.{AtEach, first_or}
use Rattle.smx_history.specs.Entries.{is_accept, is_answer, Name, name_of, has_name, accepts, takes, answers_of, is_accepted, own_of, command_of}
use Rattle.smx_history.specs.Legal.{IsFifo, IsPaired}
use Rattle.smx_history.specs.History.{entry_by, entry_in, marks_of, entries_of, requests, request_in, responses, response_in}
use Rattle.smx_history.specs.Contents.{as_shown}
use Rattle.smx_history.proofs.ListPushes.{any_kept}
use Rattle.smx_history.specs.Shifts.{entries_among}
use Rattle.smx_history.specs.Failures.{failure}
use Rattle.smx_history.proofs.Shifting.{noted-push}
use Rattle.std.specs.Option.{option_map}

-- an accept without the one who made it
abbrev pub unsigned : Entry → Entry
unsigned e = record e { by = 0 }

requests-cons : (by : ℕ) (event : Option Event) (h : List Note) → map (λ r. entry_by 0 (Accept r)) (requests h) ≡ map unsigned (accepts (entries_of h)) → map (λ r. entry_by 0 (Accept r)) (cons_option (request_in event) (requests h)) ≡ map unsigned (accepts (cons_option (option_map (entry_by by) event) (entries_of h)))
requests-cons by None h same = same
requests-cons by (Some (Admit c)) h same = same
requests-cons by (Some (Accept r)) h same = ap (λ es. entry_by 0 (Accept r) ∷ es) same
requests-cons by (Some (Take c n u t)) h same = same
requests-cons by (Some (Answer c n p)) h same = same
requests-cons by (Some (Late c n u k)) h same = same
requests-cons by (Some (Collect c n)) h same = same
requests-cons by (Some (Retire c)) h same = same
requests-cons by (Some (Fail c n u k)) h same = same
requests-cons by (Some Down) h same = same
requests-cons by (Some Up) h same = same

-- the requests are those of the accepts
pub requests_are_accepts : (h : List Note) → map (λ r. entry_by 0 (Accept r)) (requests h) ≡ map unsigned (accepts (entries_of h))
requests_are_accepts [] = refl
requests_are_accepts (note ∷ h) = requests-cons note.by note.event h (requests_are_accepts h)

pub length-requests : (h : List Note) → length (requests h) ≡ length (accepts (entries_of h))
length-requests h =
    sym (length-map (requests h) (λ r. entry_by 0 (Accept r))) ∙ ap length (requests_are_accepts h) ∙ length-map (accepts (entries_of h)) unsigned

responses-cons : (c by : ℕ) (event : Option Event) (h : List Note) → map (λ r. r.ordinal) (responses c h) ≡ map (λ e. e.ordinal) (answers_of c (entries_of h)) → map (λ r. r.ordinal) (cons_option (response_in c event) (responses c h)) ≡ map (λ e. e.ordinal) (answers_of c (cons_option (option_map (entry_by by) event) (entries_of h)))
responses-cons c by None h same = same
responses-cons c by (Some (Admit d)) h same = same
responses-cons c by (Some (Accept r)) h same = same
responses-cons c by (Some (Take d n u t)) h same = same
responses-cons c by (Some (Answer d n p)) h same =
    elim (d == c) as (λ b. map (λ r. r.ordinal) (cons_option (cond b (Some (record { ordinal = n; pdu = p })) None) (responses c h)) ≡ map (λ e. e.ordinal) (cond b (entry_by by (Answer d n p) ∷ answers_of c (entries_of h)) (answers_of c (entries_of h)))) [
      | true ↦ ap (λ ns. n ∷ ns) same
      | false ↦ same
    ]
responses-cons c by (Some (Late d n u k)) h same = same
responses-cons c by (Some (Collect d n)) h same = same
responses-cons c by (Some (Retire d)) h same = same
responses-cons c by (Some (Fail d n u k)) h same =
    elim (d == c) as (λ b. map (λ r. r.ordinal) (cons_option (cond b (Some (record { ordinal = n; pdu = failure k u })) None) (responses c h)) ≡ map (λ e. e.ordinal) (cond b (entry_by by (Fail d n u k) ∷ answers_of c (entries_of h)) (answers_of c (entries_of h)))) [
      | true ↦ ap (λ ns. n ∷ ns) same
      | false ↦ same
    ]
responses-cons c by (Some Down) h same = same
responses-cons c by (Some Up) h same = same

-- the responses of a client are those of its answers
pub responses_are_answers : (c : ℕ) (h : List Note) → map (λ r. r.ordinal) (responses c h) ≡ map (λ e. e.ordinal) (answers_of c (entries_of h))
responses_are_answers c [] = refl
responses_are_answers c (note ∷ h) = responses-cons c note.by note.event h (responses_are_answers c h)

pub length-responses : (c : ℕ) (h : List Note) → length (responses c h) ≡ length (answers_of c (entries_of h))
length-responses c h =
    sym (length-map (responses c h) (λ r. r.ordinal)) ∙ ap length (responses_are_answers c h) ∙ length-map (answers_of c (entries_of h)) (λ e. e.ordinal)

-- what holds of a list holds of what it begins with
pub All-start : {X : Type 0} (P : X → Type 0) (n : ℕ) (ys : List X) → AllByRecursion P ys → AllByRecursion P (take n ys)
All-start P zero [] h = tt
All-start P (suc n) [] h = tt
All-start P zero (y ∷ ys) h = tt
All-start P (suc n) (y ∷ ys) h = (h.0, All-start P n ys h.1)

pub All-of_map : {X Y : Type 0} (P : Y → Type 0) (f : X → Y) (xs : List X) → AllByRecursion P (map f xs) → AllByRecursion (λ x. P (f x)) xs
All-of_map P f [] h = tt
All-of_map P f (x ∷ xs) h = (h.0, All-of_map P f xs h.1)

pub All-to_map : {X Y : Type 0} (P : Y → Type 0) (f : X → Y) (xs : List X) → AllByRecursion (λ x. P (f x)) xs → AllByRecursion P (map f xs)
All-to_map P f [] h = tt
All-to_map P f (x ∷ xs) h = (h.0, All-to_map P f xs h.1)

pub All-from_get : {X : Type 0} (P : X → Type 0) (xs : List X) → ((k : ℕ) (x : X) → slice_get xs k ≡ Some x → P x) → AllByRecursion P xs
All-from_get P [] h = tt
All-from_get P (x ∷ xs) h = (h 0 x refl, All-from_get P xs (λ k y at. h (suc k) y at))

All-filtered_at : {X : Type 0} (P : X → Type 0) (p : X → Bool) (x : X) (rest : List X) (b : Bool) → p x ≡ b → (b ≡ true → P x) → AllByRecursion P rest → AllByRecursion P (cond b (x ∷ rest) rest)
All-filtered_at P p x rest true e here h = (here refl, h)
All-filtered_at P p x rest false e here h = h

pub All-filtered : {X : Type 0} (P : X → Type 0) (p : X → Bool) (xs : List X) → AllByRecursion (λ x. p x ≡ true → P x) xs → AllByRecursion P (filter p xs)
All-filtered P p [] h = tt
All-filtered P p (x ∷ xs) h = All-filtered_at P p x (filter p xs) (p x) refl h.0 (All-filtered P p xs h.1)

-- an element that passes is found
pub any_at : {X : Type 0} (p : X → Bool) (xs : List X) (k : ℕ) (x : X) → slice_get xs k ≡ Some x → p x ≡ true → list_any p xs ≡ true
any_at p xs k x at passes = list_any_at p xs k x (slice_get_within xs k x at) (ap p (get_or_from_slice_get xs k x x at) ∙ passes)

-- each accept has its own name among the accepts
accept_named : (es : List Entry) → AllByRecursion (λ e. is_accept e.kind ≡ true → is_accepted e.client e.ordinal es ≡ true) es
accept_named es = All-from_get (λ e. is_accept e.kind ≡ true → is_accepted e.client e.ordinal es ≡ true) es (λ k e at passes.
    any_at (λ x. is_accept x.kind && has_name e.client e.ordinal x) es k e at
    (and_from _ _ passes (and_from _ _ (eq-eqb e.client e.client refl) (eq-eqb e.ordinal e.ordinal refl))))

-- a request that was taken was accepted
pub takes_accepted : (es : List Entry) → IsFifo es → AllByRecursion (λ t. is_accepted t.client t.ordinal es ≡ true) (takes es)
takes_accepted es fifo =
    let named : AllByRecursion (λ (n : Name). is_accepted n.client n.ordinal es ≡ true) (map name_of (accepts es)) =
    All-to_map (λ (n : Name). is_accepted n.client n.ordinal es ≡ true) name_of (accepts es)
    (All-filtered (λ e. is_accepted e.client e.ordinal es ≡ true) (λ e. is_accept e.kind) es (accept_named es)) in
    let P : List Name → Type 0 = AllByRecursion (λ (n : Name). is_accepted n.client n.ordinal es ≡ true) in
    All-of_map (λ (n : Name). is_accepted n.client n.ordinal es ≡ true) name_of (takes es)
    (subst P fifo.taken (All-start (λ (n : Name). is_accepted n.client n.ordinal es ≡ true) (length (map name_of (takes es))) (map name_of (accepts es)) named))

pub answer_accepted : (kind : Kind) (es : List Entry) (e : Entry) → IsPaired kind es e → is_answer kind ≡ true → is_accepted e.client e.ordinal es ≡ true
answer_accepted kind.Answer es e paired passes = paired.accepted
answer_accepted kind.Fail es e paired passes = paired.0.accepted
answer_accepted kind.Down es e paired passes = cc
answer_accepted kind.Up es e paired passes = cc
answer_accepted kind.Admit es e paired passes = cc
answer_accepted kind.Accept es e paired passes = cc
answer_accepted kind.Take es e paired passes = cc
answer_accepted kind.Late es e paired passes = cc
answer_accepted kind.Collect es e paired passes = cc
answer_accepted kind.Retire es e paired passes = cc

-- a request that was answered was accepted
pub answers_accepted : (c : ℕ) (es : List Entry) → AtEach (λ before e. IsPaired e.kind before e) es → AllByRecursion (λ n. is_accepted c n es ≡ true) (map (λ e. e.ordinal) (answers_of c es))
answers_accepted c es paired =
    All-to_map (λ n. is_accepted c n es ≡ true) (λ e. e.ordinal) (answers_of c es)
    (All-filtered (λ e. is_accepted c e.ordinal es ≡ true) (λ e. is_answer e.kind && (e.client == c)) es
    (All-from_get (λ e. (is_answer e.kind && (e.client == c)) ≡ true → is_accepted c e.ordinal es ≡ true) es (λ k e at passes.
    let w = and_parts (is_answer e.kind) (e.client == c) passes in
    let before : is_accepted e.client e.ordinal (take k es) ≡ true = answer_accepted e.kind (take k es) e (paired k e at) w.0 in
    let now : is_accepted e.client e.ordinal (take k es ++ drop k es) ≡ true = any_kept (λ x. is_accept x.kind && has_name e.client e.ordinal x) (take k es) (drop k es) before in
    let here : is_accepted e.client e.ordinal es ≡ true = rw take-append-drop at now in
    rw (← eqb-true e.client c w.1) here)))

-- what was found first stays the first
first-kept : (p : Entry → Bool) (f : Entry → ℕ) (es more : List Entry) → list_any p es ≡ true → first_or 0 (map f (filter p (es ++ more))) ≡ first_or 0 (map f (filter p es))
first-kept p f [] more h = cc
first-kept p f (e ∷ es) more h =
    let later : list_any p es ≡ true → first_or 0 (map f (filter p (es ++ more))) ≡ first_or 0 (map f (filter p es)) = first-kept p f es more in
    first-kept_at (p e) h later
  where
    first-kept_at : (b : Bool) → (b || list_any p es) ≡ true → (list_any p es ≡ true → first_or 0 (map f (filter p (es ++ more))) ≡ first_or 0 (map f (filter p es))) → first_or 0 (map f (cond b (e ∷ filter p (es ++ more)) (filter p (es ++ more)))) ≡ first_or 0 (map f (cond b (e ∷ filter p es) (filter p es)))
    first-kept_at true h later = refl
    first-kept_at false h later = later h

pub own_of-kept : (c n : ℕ) (es more : List Entry) → is_accepted c n es ≡ true → own_of c n (es ++ more) ≡ own_of c n es
own_of-kept c n es more h = first-kept (λ e. is_accept e.kind && has_name c n e) (λ e. e.number) es more h

pub command_of-kept : (c n : ℕ) (es more : List Entry) → is_accepted c n es ≡ true → command_of c n (es ++ more) ≡ command_of c n es
command_of-kept c n es more h = first-kept (λ e. is_accept e.kind && has_name c n e) (λ e. e.command) es more h

-- a note with an entry is one more mark
pub marks_of-push : (h : List Note) (n : Note) (e : Entry) → entry_in n ≡ Some e → marks_of (h ++ n ∷ []) ≡ marks_of h ++ Some e ∷ []
marks_of-push h n e is = map-append entry_in h (n ∷ []) ∙ ap (λ mark. marks_of h ++ mark ∷ []) is

-- and one more entry
pub entries_of-push : (h : List Note) (n : Note) (e : Entry) → entry_in n ≡ Some e → entries_of (h ++ n ∷ []) ≡ entries_of h ++ e ∷ []
entries_of-push h n e is = ap entries_among (marks_of-push h n e is) ∙ noted-push (marks_of h) e

-- the entries of notes and further notes
pub entries_of-append : (g h : List Note) → entries_of (g ++ h) ≡ entries_of g ++ entries_of h
entries_of-append g h = ap entries_among (map-append entry_in g h) ∙ filter_map-append (λ mark. mark) (marks_of g) (marks_of h)

-- a response that came was to a request that was accepted
pub responses_accepted : (c : ℕ) (h : List Note) → AtEach (λ before e. IsPaired e.kind before e) (entries_of h) → AllByRecursion (λ (r : Response). is_accepted c r.ordinal (entries_of h) ≡ true) (responses c h)
responses_accepted c h paired =
    let P : List ℕ → Type 0 = AllByRecursion (λ n. is_accepted c n (entries_of h) ≡ true) in
    All-of_map (λ n. is_accepted c n (entries_of h) ≡ true) (λ r. r.ordinal) (responses c h)
    (subst P (sym (responses_are_answers c h)) (answers_accepted c (entries_of h) paired))

pub All-kept : {X : Type 0} (P : X → Type 0) (p : X → Bool) (xs : List X) → AllByRecursion P xs → AllByRecursion P (filter p xs)
All-kept P p [] h = tt
All-kept P p (x ∷ xs) h = All-filtered_at P p x (filter p xs) (p x) refl (λ _. h.0) (All-kept P p xs h.1)

pub map_agree : {X Y : Type 0} (f g : X → Y) (xs : List X) → AllByRecursion (λ x. f x ≡ g x) xs → map f xs ≡ map g xs
map_agree f g [] h = refl
map_agree f g (x ∷ xs) h = cong2 h.0 (map_agree f g xs h.1)
  where
    cong2 : {Y : Type 0} {a b : Y} {us vs : List Y} → a ≡ b → us ≡ vs → a ∷ us ≡ b ∷ vs
    cong2 p q = λ i. p i ∷ q i

pub All-each : {X : Type 0} (P Q : X → Type 0) → ((x : X) → P x → Q x) → (xs : List X) → AllByRecursion P xs → AllByRecursion Q xs
All-each P Q f [] h = tt
All-each P Q f (x ∷ xs) h = (f x h.0, All-each P Q f xs h.1)

-- later entries change nothing of what a client sees of a response
pub shown-kept : (c : ℕ) (h : List Note) (more : List Entry) → AtEach (λ before e. IsPaired e.kind before e) (entries_of h) → map (as_shown (entries_of h ++ more) c) (responses c h) ≡ map (as_shown (entries_of h) c) (responses c h)
shown-kept c h more paired =
    map_agree (as_shown (entries_of h ++ more) c) (as_shown (entries_of h) c) (responses c h)
    (All-each (λ (r : Response). is_accepted c r.ordinal (entries_of h) ≡ true) (λ r. as_shown (entries_of h ++ more) c r ≡ as_shown (entries_of h) c r)
    (λ r is. rw (own_of-kept c r.ordinal (entries_of h) more is) refl) (responses c h) (responses_accepted c h paired))

-- a note that is no answer of the client's adds no response
pub responses-other : (c : ℕ) (h : List Note) (n : Note) → response_in c n.event ≡ None → responses c (h ++ n ∷ []) ≡ responses c h
responses-other c h n none = filter_map-append (λ x. response_in c x.event) h (n ∷ []) ∙ ap (λ o. responses c h ++ cons_option o []) none ∙ append-nil (responses c h)
