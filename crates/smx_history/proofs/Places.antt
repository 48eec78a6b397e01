-- Later notes change no place of the window.
use Rattle.std.proofs.Common.{◌≡◌, Bool, true, false, not, List, [], ◌∷◌, ◌++◌, map, refl, ◌∙◌, ap, filter, Some}
use Rattle.std.specs.List.{AllByRecursion}
use Rattle.smx_history.specs.declared.entry.Entry.{Entry}
use Rattle.smx_history.specs.declared.note.Note.{Note}
use Rattle.smx_history.specs.Entries.{is_take, is_settling, takes, unanswered_takes, is_accepted, is_taken, is_settled}
use Rattle.smx_history.specs.Legal.{IsFifo}
use Rattle.smx_history.specs.History.{entry_in, entries_of}
use Rattle.smx_history.specs.Contents.{place_of, window_after}
use Rattle.smx_history.proofs.Reading.{own_of-kept, command_of-kept, map_agree, All-each, All-kept, takes_accepted, entries_of-append, entries_of-push}
use Rattle.smx_history.proofs.Frames.{unanswered-other}
use Rattle.smx_history.proofs.Moments.{moment_of-kept, takes_named}

-- a take that is there, and its request's accept too
abbrev IsThere : List Entry → Entry → Type 0
IsThere es t = (is_accepted t.client t.ordinal es ≡ true) × (is_taken t.client t.ordinal es ≡ true)

both : {X : Type 0} (P Q : X → Type 0) (xs : List X) → AllByRecursion P xs → AllByRecursion Q xs → AllByRecursion (λ x. P x × Q x) xs
both P Q [] p q = tt
both P Q (x ∷ xs) p q = ((p.0, q.0), both P Q xs p.1 q.1)

place-kept : (h more : List Note) (t : Entry) → IsThere (entries_of h) t → place_of (h ++ more) t ≡ place_of h t
place-kept h more t is =
    rw (entries_of-append h more, own_of-kept t.client t.ordinal (entries_of h) (entries_of more) is.0, command_of-kept t.client t.ordinal (entries_of h) (entries_of more) is.0, moment_of-kept t.client t.ordinal h more is.1) refl

-- those of some of the takes that have no answer
pub places_of-kept : (h more : List Note) (p : Entry → Bool) → IsFifo (entries_of h) → map (place_of (h ++ more)) (filter p (unanswered_takes (entries_of h))) ≡ map (place_of h) (filter p (unanswered_takes (entries_of h)))
places_of-kept h more p fifo =
    let es = entries_of h in
    let P : Entry → Type 0 = IsThere es in
    map_agree (place_of (h ++ more)) (place_of h) (filter p (unanswered_takes es))
    (All-each P (λ t. place_of (h ++ more) t ≡ place_of h t) (λ t is. place-kept h more t is) (filter p (unanswered_takes es))
    (All-kept P p (unanswered_takes es) (All-kept P (λ t. not (is_settled t.client t.ordinal es)) (takes es)
    (both (λ t. is_accepted t.client t.ordinal es ≡ true) (λ t. is_taken t.client t.ordinal es ≡ true) (takes es) (takes_accepted es fifo) (takes_named es)))))

-- those of all
pub places-kept : (h more : List Note) → IsFifo (entries_of h) → map (place_of (h ++ more)) (unanswered_takes (entries_of h)) ≡ map (place_of h) (unanswered_takes (entries_of h))
places-kept h more fifo =
    let es = entries_of h in
    let P : Entry → Type 0 = IsThere es in
    map_agree (place_of (h ++ more)) (place_of h) (unanswered_takes es)
    (All-each P (λ t. place_of (h ++ more) t ≡ place_of h t) (λ t is. place-kept h more t is) (unanswered_takes es)
    (All-kept P (λ t. not (is_settled t.client t.ordinal es)) (takes es)
    (both (λ t. is_accepted t.client t.ordinal es ≡ true) (λ t. is_taken t.client t.ordinal es ≡ true) (takes es) (takes_accepted es fifo) (takes_named es))))

-- neither a take nor an answer: the window is as it was
pub window_after-other : (h : List Note) (n : Note) (e : Entry) → entry_in n ≡ Some e → is_take e.kind ≡ false → is_settling e.kind ≡ false → IsFifo (entries_of h) → window_after (h ++ n ∷ []) ≡ window_after h
window_after-other h n e is take settling fifo =
    ap (map (place_of (h ++ n ∷ []))) (ap unanswered_takes (entries_of-push h n e is) ∙ unanswered-other (entries_of h) e take settling) ∙ places-kept h (n ∷ []) fifo
