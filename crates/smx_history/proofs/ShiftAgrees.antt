-- A shift takes a lane that agrees with a history to one without entries that agrees with the longer history.
use Rattle.std.proofs.Common.{◌≡◌, ℕ, List, [], ◌∷◌, ◌++◌, map, refl, sym, ◌∙◌, ap, count_by, None}
use Rattle.std.proofs.lemmas.List.{append-nil, map-append}
use Rattle.std.proofs.lemmas.List.Elements.{filter_map-append}
use Rattle.smx_history.specs.declared.entry.Entry.{Entry}
use Rattle.smx_history.specs.declared.note.Note.{Note}
use Rattle.smx_history.specs.Entries.{present, unanswered_takes}
use Rattle.smx_history.specs.Legal.{IsFifo}
use Rattle.smx_history.specs.History.{entry_in, shift, marks_of, entries_of, requests, request_in, responses, response_in}
use Rattle.smx_history.specs.Shifts.{entries_among}
use Rattle.smx_history.specs.Contents.{AgreesWith, Content, place_of, member_after}
use Rattle.smx_history.specs.Replies.{after_shift}
use Rattle.smx_history.proofs.Shifting.{noted-shift, stored-shift, IsLegal-shift}
use Rattle.smx_history.proofs.Rows.{rows_each}
use Rattle.smx_history.proofs.ListPushes.{AtEachPrefix-whole}
use Rattle.smx_history.proofs.Places.{places-kept}
use Rattle.smx_history.proofs.Numbering.{latest-other}

marks_of-shift : (h : List Note) (by : ℕ) → marks_of (h ++ shift by ∷ []) ≡ marks_of h ++ None ∷ []
marks_of-shift h by = map-append entry_in h (shift by ∷ [])

pub entries_of-shift : (h : List Note) (by : ℕ) → entries_of (h ++ shift by ∷ []) ≡ entries_of h
entries_of-shift h by = ap entries_among (marks_of-shift h by) ∙ noted-shift (marks_of h)

pub requests-shift : (h : List Note) (by : ℕ) → requests (h ++ shift by ∷ []) ≡ requests h
requests-shift h by = filter_map-append (λ x. request_in x.event) h (shift by ∷ []) ∙ append-nil (requests h)

pub responses-shift : (c : ℕ) (h : List Note) (by : ℕ) → responses c (h ++ shift by ∷ []) ≡ responses c h
responses-shift c h by = filter_map-append (λ x. response_in c x.event) h (shift by ∷ []) ∙ append-nil (responses c h)

row-shifted : (h : List Note) (by : ℕ) (a : Entry) → member_after (h ++ shift by ∷ []) a ≡ member_after h a
row-shifted h by a = rw (entries_of-shift h by, responses-shift a.client h by) refl

-- a shift takes a lane that agrees with a history to one that agrees with the longer one
pub AgreesWith-turned : (h : List Note) (v : Content) (by : ℕ) → AgreesWith h v → AgreesWith (h ++ shift by ∷ []) (after_shift v)
AgreesWith-turned h v by a = record {
  legal = rw (marks_of-shift h by) (IsLegal-shift v.limits (marks_of h) a.legal);
  numbered = rw (entries_of-shift h by) a.numbered;
  after = record {
    limits = refl;
    queue = rw (entries_of-shift h by, requests-shift h by) a.after.queue;
    window = λ test. a.after.window test ∙ ap (count_by test) (sym (ap (map (place_of (h ++ shift by ∷ []))) (ap unanswered_takes (entries_of-shift h by)) ∙ places-kept h (shift by ∷ []) (AtEachPrefix-whole IsFifo (entries_of h) a.legal.rules.fifo)));
    members = a.after.members ∙ rows_each (member_after h) (member_after (h ++ shift by ∷ [])) (λ x. sym (row-shifted h by x)) (present (entries_of h))
        ∙ ap (λ es. map (member_after (h ++ shift by ∷ [])) (present es)) (sym (entries_of-shift h by));
    greatest = rw (entries_of-shift h by) a.after.greatest;
    up = rw (entries_of-shift h by) a.after.up;
    generations = rw (entries_of-shift h by) a.after.generations;
    latest = a.after.latest ∙ sym (latest-other h (shift by) refl);
    entries = rw (marks_of-shift h by, stored-shift (marks_of h)) refl;
  };
}
