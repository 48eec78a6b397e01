-- An answer, in time or late, takes the place that it answers out of the window.
use Rattle.std.proofs.Common.{Some, ◌+◌, ◌≡◌, ◌<◌, ◌≤◌, ◌==◌, ℕ, Bool, true, false, not, ◌&&◌, List, [], ◌∷◌, ◌++◌, length, map, get_or, refl, sym, ◌∙◌, ap, arith, filter, count_by}
use Rattle.std.specs.List.{list_any, AllByRecursion, remove}
use Rattle.std.proofs.lemmas.List.Sums.{length-filter}
use Rattle.std.proofs.lemmas.Bool.{eq-eqb, eqb-true, and_parts, and_from, not-true}
use Rattle.smx_history.specs.declared.entry.Entry.{Entry}
use Rattle.smx_history.specs.declared.place.Place.{Place}
use Rattle.smx_history.specs.declared.note.Note.{Note}
use Rattle.smx_pdu.specs.Command.{is_response_to}
use Rattle.smx_history.specs.Prefixes.{SameCounts}
use Rattle.smx_history.specs.Entries.{is_accepted, is_take, has_name, takes, unanswered_takes, own_of, command_of, is_settled}
use Rattle.smx_history.specs.Legal.{IsFifo, Answers, size, owed_count}
use Rattle.smx_history.specs.Shifts.{stored_among}
use Rattle.smx_history.proofs.Shifting.{size-push}
use Rattle.smx_history.specs.History.{entry_in, entries_of, marks_of}
use Rattle.smx_history.specs.Contents.{AgreesWith, IsAfter, Content, place_of, window_after}
use Rattle.smx_history.proofs.Room.{KeepsRoom}
use Rattle.smx_history.proofs.ListPushes.{AtEachPrefix-whole}
use Rattle.smx_history.proofs.Counts.{remove_only, filter-map, All-same, count_by-map, count_by-filter, count-filter-le}
use Rattle.smx_history.proofs.Reading.{marks_of-push, entries_of-push, All-from_get, All-filtered, any_at, takes_accepted}
use Rattle.smx_history.proofs.Sizes.{size_agrees}
use Rattle.smx_history.proofs.Places.{places_of-kept}
use Rattle.smx_history.proofs.Taking.{filter-and}
use Rattle.smx_history.proofs.FitsSettle.{Settles, unanswered_settled}

-- what is known of each place of the window
pub record IsTaken (es : List Entry) (q : Place) : Type 0 where
  pub taken : list_any (λ t. is_take t.kind && (has_name q.client q.ordinal t && (t.number == q.upstream))) es ≡ true
  pub unsettled : is_settled q.client q.ordinal es ≡ false
  pub accepted : is_accepted q.client q.ordinal es ≡ true
  pub own : own_of q.client q.ordinal es ≡ q.own
  pub command : command_of q.client q.ordinal es ≡ q.command

-- the same as a test
has_take : List Entry → Place → Bool
has_take es q =
    list_any (λ t. is_take t.kind && (has_name q.client q.ordinal t && (t.number == q.upstream))) es
    && (not (is_settled q.client q.ordinal es) && (is_accepted q.client q.ordinal es && ((own_of q.client q.ordinal es == q.own) && (command_of q.client q.ordinal es == q.command))))

taken_places : (h : List Note) → IsFifo (entries_of h) → AllByRecursion (λ t. has_take (entries_of h) (place_of h t) ≡ true) (unanswered_takes (entries_of h))
unfolding has_take
taken_places h fifo =
    let es = entries_of h in
    let taken : AllByRecursion (λ t. list_any (λ x. is_take x.kind && (has_name t.client t.ordinal x && (x.number == t.number))) es ≡ true) (takes es) =
    All-filtered (λ t. list_any (λ x. is_take x.kind && (has_name t.client t.ordinal x && (x.number == t.number))) es ≡ true) (λ t. is_take t.kind) es
    (All-from_get (λ t. is_take t.kind ≡ true → list_any (λ x. is_take x.kind && (has_name t.client t.ordinal x && (x.number == t.number))) es ≡ true) es (λ k t at take.
    any_at (λ x. is_take x.kind && (has_name t.client t.ordinal x && (x.number == t.number))) es k t at
    (and_from _ _ take (and_from _ _ (and_from _ _ (eq-eqb t.client t.client refl) (eq-eqb t.ordinal t.ordinal refl)) (eq-eqb t.number t.number refl))))) in
    All-filtered (λ t. has_take es (place_of h t) ≡ true) (λ t. not (is_settled t.client t.ordinal es)) (takes es)
    (both (takes es) taken (takes_accepted es fifo))
  where
    both : (us : List Entry) → AllByRecursion (λ t. list_any (λ x. is_take x.kind && (has_name t.client t.ordinal x && (x.number == t.number))) (entries_of h) ≡ true) us → AllByRecursion (λ t. is_accepted t.client t.ordinal (entries_of h) ≡ true) us → AllByRecursion (λ t. not (is_settled t.client t.ordinal (entries_of h)) ≡ true → has_take (entries_of h) (place_of h t) ≡ true) us
    both [] a b = tt
    both (t ∷ us) a b =
        ((λ n. and_from _ _ a.0 (and_from _ _ n (and_from _ _ b.0 (and_from _ _ (eq-eqb (own_of t.client t.ordinal (entries_of h)) _ refl) (eq-eqb (command_of t.client t.ordinal (entries_of h)) _ refl))))), both us a.1 b.1)

taken_from : (es : List Entry) (q : Place) → has_take es q ≡ true → IsTaken es q
unfolding has_take
taken_from es q h =
    let w = and_parts _ _ h in
    let x = and_parts _ _ w.1 in
    let y = and_parts _ _ x.1 in
    let z = and_parts _ _ y.1 in
    record { taken = w.0; unsettled = not-true _ x.0; accepted = y.0; own = eqb-true _ _ z.0; command = eqb-true _ _ z.1 }

-- each place of the lane's window is a take without an answer
pub place_taken : (h : List Note) (v : Content) (i : ℕ) (q : Place) → AgreesWith h v → i < length v.window → q ≡ get_or v.window i q → IsTaken (entries_of h) q
place_taken h v i q a within is =
    let es = entries_of h in
    let fifo = AtEachPrefix-whole IsFifo es a.legal.rules.fifo in
    let none : list_any (λ x. not (has_take es x)) (window_after h) ≡ false =
    any_map_none (unanswered_takes es) (taken_places h fifo) in
    taken_from es q (All-same (has_take es) (window_after h) v.window a.after.window none i q within is)
  where
    any_map_none : (us : List Entry) → AllByRecursion (λ t. has_take (entries_of h) (place_of h t) ≡ true) us → list_any (λ x. not (has_take (entries_of h) x)) (map (place_of h) us) ≡ false
    any_map_none [] all = refl
    any_map_none (t ∷ us) all = rw (all.0, any_map_none us all.1) refl

-- the answer that a response is to a place of the window
pub place_answers : (es : List Entry) (q : Place) (e : Entry) → IsTaken es q → q.client ≡ e.client → q.ordinal ≡ e.ordinal → q.upstream ≡ e.number → is_response_to q.command e.command ≡ true → Answers es e
place_answers es q e place c n u fits = record {
  taken = rw (← c, ← n, ← u) place.taken;
  first = rw (← c, ← n) place.unsettled;
  accepted = rw (← c, ← n) place.accepted;
  command = rw (← c, ← n, place.command) fits;
}

pub few_named : (h : List Note) (v : Content) (c n : ℕ) → count_by (λ (x : Place). (x.client == c) && (x.ordinal == n)) v.window ≡ count_by (λ (x : Place). (x.client == c) && (x.ordinal == n)) (window_after h) → count_by (λ x. is_take x.kind && has_name c n x) (entries_of h) ≤ 1 → count_by (λ (x : Place). (x.client == c) && (x.ordinal == n)) v.window ≤ 1
few_named h v c n same once =
    let es = entries_of h in
    let a : count_by (λ (x : Place). (x.client == c) && (x.ordinal == n)) (window_after h) ≡ count_by (has_name c n) (unanswered_takes es) =
    count_by-map (λ (x : Place). (x.client == c) && (x.ordinal == n)) (place_of h) (unanswered_takes es) in
    let b : count_by (has_name c n) (unanswered_takes es) ≤ count_by (has_name c n) (takes es) =
    count-filter-le (has_name c n) (λ t. not (is_settled t.client t.ordinal es)) (takes es) in
    let d : count_by (has_name c n) (takes es) ≡ count_by (λ x. is_take x.kind && has_name c n x) es =
    sym (length-filter (has_name c n) (takes es)) ∙ ap length (sym (filter-and (λ x. is_take x.kind) (has_name c n) es)) ∙ length-filter (λ x. is_take x.kind && has_name c n x) es in
    omega (arith, same, a, b, d, once)

-- the places of what is left
pub window-settled : (h : List Note) (v : Content) (n : Note) (e : Entry) (q : Place) (i : ℕ) → AgreesWith h v → entry_in n ≡ Some e → Settles e.kind → q.client ≡ e.client → q.ordinal ≡ e.ordinal → i < length v.window → q ≡ get_or v.window i q → SameCounts (window_after (h ++ n ∷ [])) (remove v.window i)
window-settled h v n e q i a entry settles of named' within is =
    let es = entries_of h in
    let fifo = AtEachPrefix-whole IsFifo es a.legal.rules.fifo in
    let named : Place → Bool = λ x. (x.client == e.client) && (x.ordinal == e.ordinal) in
    let places : window_after (h ++ n ∷ []) ≡ filter (λ x. not (named x)) (window_after h) =
    ap (map (place_of (h ++ n ∷ []))) (ap unanswered_takes (entries_of-push h n e entry) ∙ unanswered_settled es e settles)
    ∙ places_of-kept h (n ∷ []) (λ t. not (has_name e.client e.ordinal t)) fifo ∙ sym (filter-map (λ x. not (named x)) (place_of h) (unanswered_takes es)) in
    let few : count_by named v.window ≤ 1 =
    few_named h v e.client e.ordinal (a.after.window named) (a.legal.rules.once.takes e.client e.ordinal) in
    λ test.
    remove_only named v.window i q within is (and_from _ _ (eq-eqb q.client e.client of) (eq-eqb q.ordinal e.ordinal named')) few test
    ∙ count_by-filter test (λ x. not (named x)) v.window ∙ a.after.window (λ x. test x && not (named x))
    ∙ sym (count_by-filter test (λ x. not (named x)) (window_after h)) ∙ ap (count_by test) (sym places)

-- the size after a call, from what the lane keeps room for
pub within-after : (h : List Note) (n : Note) (e : Entry) (v : Content) → entry_in n ≡ Some e → IsAfter (h ++ n ∷ []) v → KeepsRoom v → length (stored_among (marks_of h)) + 1 + owed_count (entries_of h ++ e ∷ []) ≤ v.limits.history
within-after h n e v is after room = omega (arith, size-push (marks_of h) e, ap size (marks_of-push h n e is), size_agrees (h ++ n ∷ []) v after, room.size)
