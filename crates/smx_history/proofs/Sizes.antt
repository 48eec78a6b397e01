-- What a lane that agrees with a history has in its lists.
use Rattle.std.proofs.Common.{◌≡◌, ◌≤◌, ◌+◌, ◌-◌, ◌==◌, true, false, not, ◌&&◌, List, [], ◌∷◌, length, map, refl, sym, ◌∙◌, ap, arith, sum_by, length-drop}
use Rattle.std.specs.List.{AllByRecursion}
use Rattle.std.proofs.lemmas.List.{length-map}
use Rattle.std.proofs.lemmas.List.Sums.{sum_by-cons}
use Rattle.smx_history.proofs.Counts.{length-same}
use Rattle.std.proofs.lemmas.Bool.{and_from, eq-eqb, not-true}
use Rattle.smx_history.specs.declared.entry.Entry.{Entry}
use Rattle.smx_history.specs.declared.note.Note.{Note}
use Rattle.smx_history.specs.Entries.{is_admit, admits, accepts, takes, answers_of, collects_of, is_admitted, is_retired, unanswered_takes, present, name_of}
use Rattle.smx_history.specs.Legal.{IsFifo, size}
use Rattle.smx_history.specs.History.{entries_of, marks_of, requests, responses}
use Rattle.smx_history.specs.Contents.{IsAfter, Content, Member, size_of, as_shown, place_of, window_after, member_after}
use Rattle.smx_history.proofs.ListPushes.{StartsWith-length}
use Rattle.smx_history.proofs.Reading.{length-requests, length-responses, All-filtered, All-from_get, any_at}

pub length-queue : (h : List Note) (v : Content) → IsAfter h v → length v.queue ≡ length (accepts (entries_of h)) - length (takes (entries_of h))
length-queue h v a = ap length a.queue ∙ length-drop (length (takes (entries_of h))) (requests h) ∙ ap (λ n. n - length (takes (entries_of h))) (length-requests h)

pub takes-le-accepts : (es : List Entry) → IsFifo es → length (takes es) ≤ length (accepts es)
takes-le-accepts es fifo =
    let le = StartsWith-length (map name_of (accepts es)) (map name_of (takes es)) fifo.taken in
    omega (arith, le, length-map (accepts es) name_of, length-map (takes es) name_of)

pub length-window : (h : List Note) (v : Content) → IsAfter h v → length v.window ≡ length (unanswered_takes (entries_of h))
length-window h v a = length-same (window_after h) v.window a.window ∙ length-map (unanswered_takes (entries_of h)) (place_of h)

pub length-members : (h : List Note) (v : Content) → IsAfter h v → length v.members ≡ length (present (entries_of h))
length-members h v a = ap length a.members ∙ length-map (present (entries_of h)) (member_after h)

length-waiting : (h : List Note) (a : Entry) → length (member_after h a).waiting ≡ length (answers_of a.client (entries_of h)) - length (collects_of a.client (entries_of h))
length-waiting h a =
    let k = length (collects_of a.client (entries_of h)) in
    length-drop k (map (as_shown (entries_of h) a.client) (responses a.client h))
    ∙ ap (λ n. n - k) (length-map (responses a.client h) (as_shown (entries_of h) a.client) ∙ length-responses a.client h)

waiting-rows : (h : List Note) (us : List Entry) → sum_by (λ m. length m.waiting) (map (member_after h) us) ≡ sum_by (λ a. length (answers_of a.client (entries_of h)) - length (collects_of a.client (entries_of h))) us
waiting-rows h [] = refl
waiting-rows h (a ∷ us) =
    sum_by-cons (λ (m : Member). length m.waiting) (member_after h a) (map (member_after h) us) ∙ ap (λ n. n + sum_by (λ m. length m.waiting) (map (member_after h) us)) (length-waiting h a)
    ∙ ap (λ n. (length (answers_of a.client (entries_of h)) - length (collects_of a.client (entries_of h))) + n) (waiting-rows h us)
    ∙ sym (sum_by-cons (λ a. length (answers_of a.client (entries_of h)) - length (collects_of a.client (entries_of h))) a us)

-- the size of a history is that of what the lane holds
pub size_agrees : (h : List Note) (v : Content) → IsAfter h v → size (marks_of h) ≡ size_of v
size_agrees h v a =
    let w = ap (sum_by (λ m. length m.waiting)) a.members ∙ waiting-rows h (present (entries_of h)) in
    rw (← length-queue h v a, ← length-window h v a, ← length-members h v a, ← ap length a.entries, ← w, ← a.up) (omega arith)

-- a client that is present was admitted and has not retired
pub present_served : (es : List Entry) → AllByRecursion (λ a. (is_admitted a.by a.client es ≡ true) × (is_retired a.client es ≡ false)) (present es)
present_served es =
    All-filtered (λ a. (is_admitted a.by a.client es ≡ true) × (is_retired a.client es ≡ false)) (λ a. not (is_retired a.client es)) (admits es)
    (All-filtered (λ a. not (is_retired a.client es) ≡ true → (is_admitted a.by a.client es ≡ true) × (is_retired a.client es ≡ false)) (λ a. is_admit a.kind) es
    (All-from_get (λ a. is_admit a.kind ≡ true → not (is_retired a.client es) ≡ true → (is_admitted a.by a.client es ≡ true) × (is_retired a.client es ≡ false)) es (λ k a at admit here. (
      any_at (λ x. is_admit x.kind && ((x.client == a.client) && (x.by == a.by))) es k a at (and_from _ _ admit (and_from _ _ (eq-eqb a.client a.client refl) (eq-eqb a.by a.by refl))),
      not-true (is_retired a.client es) here,
    ))))
