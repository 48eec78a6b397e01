-- What calls hand out, and what is stored after them.
use Rattle.std.proofs.Common.{◌≡◌, ◌++◌, ◌∷◌, [], List, map, refl, sym, ap, ◌∙◌, append_assoc, Option, Some, None, subst}
use Rattle.std.proofs.lemmas.List.{append-nil, map-append}
use Rattle.std.proofs.lemmas.List.Elements.{filter_map-append}
use Rattle.smx_history.specs.declared.entry.Entry.{Entry}
use Rattle.smx_history.specs.declared.note.Note.{Note}
use Rattle.smx_history.specs.declared.note.Event.{Event}
use Rattle.smx_history.specs.Shifts.{entries_among, marks_in}
use Rattle.smx_history.specs.Legal.{IsLegal}
use Rattle.smx_history.specs.History.{note, shift, entry_by, marks_of, entries_of}
use Rattle.smx_history.specs.Contents.{Content, AgreesWith}
use Rattle.smx_history.proofs.Shifting.{noted-some, stored-push}
use Rattle.smx_history.proofs.Joining.{IsLegal-first, marks_in-append, noted-lists}
use Rattle.smx_history.proofs.Reading.{marks_of-push}
use Rattle.smx_lane.specs.declared.call.Reply.{Reply}
use Rattle.smx_lane.specs.Calls.{GoesOn, IsHandedOut, HandsOut, HandsOutLegal, list_in, lists_in}

-- what the marks say of the entries
from_marks : (before : List Entry) (notes : List Note) (lists : List (List Entry)) (stored : List Entry) → marks_in (lists ++ stored ∷ []) ≡ None ∷ map Some before ++ marks_of notes → IsHandedOut before notes lists stored
from_marks before notes lists stored marks = record {
  marks = marks;
  joined = sym (noted-lists (lists ++ stored ∷ [])) ∙ ap entries_among marks ∙ filter_map-append (λ mark. mark) (map Some before) (marks_of notes) ∙ ap (λ es. es ++ entries_of notes) (noted-some before);
}

one_list : (es : List Entry) → marks_in (es ∷ []) ≡ None ∷ map Some es
one_list es = ap (λ xs. None ∷ xs) (append-nil (map Some es))

-- nothing was noted
pub hands_nothing : (old new : Content) → new ≡ old → IsHandedOut old.entries [] [] new.entries
hands_nothing old new same = from_marks old.entries [] [] new.entries (one_list new.entries ∙ ap (λ (v : Content). None ∷ map Some v.entries) same ∙ ap (λ xs. None ∷ xs) (sym (append-nil (map Some old.entries))))

-- an event was noted
pub hands_event : (old new : Content) (by : _) (event : Event) → GoesOn old (note by event ∷ []) new → (h : List Note) → AgreesWith h old → IsHandedOut old.entries (note by event ∷ []) [] new.entries
hands_event old new by event goes h was =
    let e = entry_by by event in
    let there = goes h was in
    let is : new.entries ≡ old.entries ++ e ∷ [] =
    there.after.entries ∙ rw (marks_of-push h (note by event) e refl, stored-push (marks_of h) e) (ap (λ xs. xs ++ e ∷ []) (sym was.after.entries)) in
    from_marks old.entries (note by event ∷ []) [] new.entries (one_list new.entries ∙ ap (λ xs. None ∷ map Some xs) is ∙ ap (λ xs. None ∷ xs) (map-append Some old.entries (e ∷ [])))

-- a shift was noted
pub hands_list : (old new : Content) (by : _) (es : List Entry) → es ≡ old.entries → new.entries ≡ [] → IsHandedOut old.entries (shift by ∷ []) (es ∷ []) new.entries
hands_list old new by es is none =
    from_marks old.entries (shift by ∷ []) (es ∷ []) new.entries
    (ap (λ xs. None ∷ map Some xs ++ marks_in (new.entries ∷ [])) is ∙ ap (λ xs. None ∷ map Some old.entries ++ marks_in (xs ∷ [])) none)

-- one call more
pub hands_further : (before mid after : List Entry) (notes own : List Note) (xs ys : List (List Entry)) → IsHandedOut before notes xs mid → IsHandedOut mid own ys after → IsHandedOut before (notes ++ own) (xs ++ ys) after
hands_further before mid after notes own xs ys first then =
    from_marks before (notes ++ own) (xs ++ ys) after
    (ap marks_in (append_assoc xs ys (after ∷ [])) ∙ marks_in-append xs (ys ++ after ∷ []) ∙ ap (λ ms. marks_in xs ++ ms) then.marks
    ∙ ap (λ ms. marks_in xs ++ (ms ++ marks_of own)) (sym (one_list mid)) ∙ sym (append_assoc (marks_in xs) (marks_in (mid ∷ [])) (marks_of own))
    ∙ ap (λ ms. ms ++ marks_of own) (sym (marks_in-append xs (mid ∷ [])) ∙ first.marks) ∙ append_assoc (None ∷ map Some before) (marks_of notes) (marks_of own)
    ∙ ap (λ ms. None ∷ map Some before ++ ms) (sym (map-append _ notes own)))

pub lists_further : (replies : List Reply) (came : Reply) → lists_in (replies ++ came ∷ []) ≡ lists_in replies ++ lists_in (came ∷ [])
lists_further replies came = filter_map-append list_in replies (came ∷ [])

pub hands_more : (old mid new : Content) (replies : List Reply) (came : Reply) (notes own : List Note) → GoesOn old notes mid → HandsOut old replies notes mid → HandsOut mid (came ∷ []) own new → HandsOut old (replies ++ came ∷ []) (notes ++ own) new
hands_more old mid new replies came notes own goes first then h was =
    rw (lists_further replies came) (hands_further old.entries mid.entries new.entries notes own (lists_in replies) (lists_in (came ∷ [])) (first h was) (then (h ++ notes) (goes h was)))

-- what a new lane hands out is legal
pub hands_legal : (old new : Content) (replies : List Reply) (notes : List Note) → GoesOn old notes new → HandsOut old replies notes new → HandsOutLegal old replies new
hands_legal old new replies notes goes hands was =
    let there = goes [] was in
    subst (λ (ms : List (Option Entry)). IsLegal new.limits ms) (sym ((hands [] was).marks ∙ ap (λ es. None ∷ map Some es ++ marks_of notes) was.after.entries)) ((IsLegal-first new.limits (marks_of notes)).0 there.legal)
