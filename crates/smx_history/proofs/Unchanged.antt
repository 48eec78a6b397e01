-- What a note that leaves a part of the content as it is keeps of the agreement.
use Rattle.std.proofs.Common.{◌≡◌, ℕ, false, List, [], ◌∷◌, ◌++◌, ap, sym, ◌∙◌, count_by, Some, None}
use Rattle.smx_history.specs.declared.entry.Entry.{Entry}
use Rattle.smx_history.specs.declared.note.Note.{Note}
use Rattle.smx_history.specs.Prefixes.{SameCounts}
use Rattle.smx_history.specs.Entries.{is_admit, is_accept, is_take, is_collect, is_retire, is_settling, is_link, is_up}
use Rattle.smx_history.specs.Legal.{IsFifo}
use Rattle.smx_history.proofs.Fitting.{Fits}
use Rattle.smx_history.specs.History.{entry_in, entries_of, marks_of, stored_of, request_in, response_in}
use Rattle.smx_history.specs.Contents.{AgreesWith, IsAfter, Content, queue_after, window_after, greatest_after, members_after}
use Rattle.smx_history.proofs.Room.{KeepsRoom}
use Rattle.smx_history.proofs.Frames.{takes-other, admits-other, is_up-other}
use Rattle.smx_history.proofs.Reading.{marks_of-push, entries_of-push}
use Rattle.smx_history.proofs.Places.{window_after-other}
use Rattle.smx_history.proofs.Shifting.{stored-push, IsLegal-next}
use Rattle.smx_history.proofs.SettleAgrees.{within-after}
use Rattle.smx_history.proofs.TakeAgrees.{requests-other}
use Rattle.smx_history.proofs.Numbering.{numbers_of-other}
use Rattle.smx_history.proofs.Rows.{row-other, rows-kept}

-- neither an accept nor a take: the queue
pub queue-kept : (h : List Note) (n : Note) (e : Entry) (v : Content) → entry_in n ≡ Some e → is_take e.kind ≡ false → request_in n.event ≡ None → IsAfter h v → v.queue ≡ queue_after (h ++ n ∷ [])
queue-kept h n e v is t none a = rw (entries_of-push h n e is, takes-other (entries_of h) e t, requests-other h n none) a.queue

-- neither a take nor an answer: the window
pub window-kept : (h : List Note) (n : Note) (e : Entry) (v : Content) → entry_in n ≡ Some e → is_take e.kind ≡ false → is_settling e.kind ≡ false → IsFifo (entries_of h) → IsAfter h v → SameCounts (window_after (h ++ n ∷ [])) v.window
window-kept h n e v is t s fifo a = λ test. a.window test ∙ ap (count_by test) (sym (window_after-other h n e is t s fifo))

-- no note of a client's coming, going, accepts, answers or collects: the rows
pub members-kept : (h : List Note) (n : Note) (e : Entry) (v : Content) → entry_in n ≡ Some e → is_admit e.kind ≡ false → is_retire e.kind ≡ false → is_accept e.kind ≡ false → is_collect e.kind ≡ false
    → ((c : ℕ) → response_in c n.event ≡ None) → AgreesWith h v → v.members ≡ members_after (h ++ n ∷ [])
members-kept h n e v is admit retire accept collect none a = rows-kept h n e v is admit retire a.after (λ x. row-other h n e x is accept collect (none x.client) a.legal.rules.pairing)

-- no admit: the greatest client
pub greatest-kept : (h : List Note) (n : Note) (e : Entry) (v : Content) → entry_in n ≡ Some e → is_admit e.kind ≡ false → IsAfter h v → v.greatest ≡ greatest_after (h ++ n ∷ [])
greatest-kept h n e v is admit a = rw (entries_of-push h n e is, admits-other (entries_of h) e admit) a.greatest

-- neither a down nor an up: whether the lane is up
pub up-kept : (h : List Note) (n : Note) (e : Entry) (v : Content) → entry_in n ≡ Some e → is_link e.kind ≡ false → IsAfter h v → v.up ≡ is_up (entries_of (h ++ n ∷ []))
up-kept h n e v is link a = rw (entries_of-push h n e is, is_up-other (entries_of h) e link) a.up

-- any note with an entry: the entries
pub entries-pushed : (h : List Note) (n : Note) (e : Entry) (v : Content) → entry_in n ≡ Some e → IsAfter h v → v.entries ++ e ∷ [] ≡ stored_of (h ++ n ∷ [])
entries-pushed h n e v is a = rw (marks_of-push h n e is, stored-push (marks_of h) e) (ap (λ xs. xs ++ e ∷ []) a.entries)

-- and the whole, of what is no take: what fits, and leaves a content that agrees and keeps the room
pub agrees-next : (h : List Note) (n : Note) (e : Entry) (v new : Content) → entry_in n ≡ Some e → is_take e.kind ≡ false → new.limits ≡ v.limits → AgreesWith h v → Fits new.limits (entries_of h) e → IsAfter (h ++ n ∷ []) new → KeepsRoom new → AgreesWith (h ++ n ∷ []) new
agrees-next h n e v new is take same a fits after room = record {
  legal = rw (marks_of-push h n e is) (IsLegal-next new.limits (marks_of h) e (rw same a.legal) fits (within-after h n e new is after room));
  numbered = rw (numbers_of-other h n e is take, same) a.numbered;
  after = after;
}
