-- An accept takes a lane that agrees with a history to one that agrees with the longer history.
use Rattle.smx_history.proofs.FitsAccept.{MayAccept, accepted_push, accepted_own, accepted_other, accept_fit}
use Rattle.smx_history.proofs.Shifting.{IsLegal-next, stored-push}
use Rattle.std.proofs.Common.{◌≡◌, ◌<◌, ◌≤◌, ◌+◌, ◌-◌, ℕ, List, [], ◌∷◌, ◌++◌, length, map, refl, sym, ◌∙◌, ap, arith, length-append, Some, count_by}
use Rattle.std.proofs.lemmas.List.{map-append, drop-append-le}
use Rattle.std.proofs.lemmas.List.Elements.{filter_map-append}
use Rattle.smx_history.specs.declared.note.Event.TheVariants.{Accept}
use Rattle.smx_history.specs.declared.entry.Entry.{Entry}
use Rattle.smx_history.specs.declared.limits.Limits.{Limits}
use Rattle.smx_history.specs.declared.request.Request.{Request}
use Rattle.smx_history.specs.declared.note.Note.{Note}
use Rattle.smx_history.specs.Prefixes.{last_or}
use Rattle.smx_history.specs.Entries.{accepts, takes, accepts_of, collects_of, is_admitted}
use Rattle.smx_history.specs.Legal.{IsFifo, KeepsRules, owed_count}
use Rattle.smx_history.specs.History.{entry_by, note, marks_of, entries_of, requests, request_in}
use Rattle.smx_history.specs.Contents.{AgreesWith, Content, Member, member_after}
use Rattle.smx_history.specs.Replies.{member_with}
use Rattle.smx_history.proofs.Updates.{accepted}
use Rattle.smx_history.proofs.Refusals.{IsAllowed}
use Rattle.smx_history.proofs.Places.{window_after-other}
use Rattle.smx_history.proofs.Numbering.{numbers_of-other, generations-kept, latest-kept}
use Rattle.smx_history.proofs.Pending.{collects_within}
use Rattle.smx_history.proofs.Rows.{row-same, row_found, rows-changed}
use Rattle.smx_history.proofs.Reading.{entries_of-push, marks_of-push, shown-kept, length-requests, responses-other}
use Rattle.smx_history.proofs.Sizes.{length-queue, takes-le-accepts, size_agrees}
use Rattle.smx_history.proofs.ListPushes.{AtEachPrefix-whole, last_or-push}
use Rattle.smx_history.proofs.Frames.{unanswered-other, collects_of-other, admits-other, takes-other, present-other, waiting-other, is_up-other}

-- what is owed grows by three for a request that is queued
owed-accepted : (es : List Entry) (by : ℕ) (r : Request) → length (takes es) ≤ length (accepts es) → owed_count (es ++ entry_by by (Accept r) ∷ []) ≡ owed_count es + 3
owed-accepted es by r le =
    let e = entry_by by (Accept r) in
    rw (unanswered-other es e refl refl, waiting-other es e refl refl refl refl, present-other es e refl refl, accepted_push es e refl, takes-other es e refl, is_up-other es e refl)
    (omega (arith, length-append es (e ∷ []), length-append (accepts es) (e ∷ [])))

-- the accepted request's client has one more pending, and the request's ordinal is its last
row-accepted : (limits : Limits) (h : List Note) (by : ℕ) (r : Request) (a : Entry) → KeepsRules limits (entries_of h) → a.client ≡ r.client → record (member_after h a) { last = r.ordinal; pending = (member_after h a).pending + 1 } ≡ member_after (h ++ note by (Accept r) ∷ []) a
row-accepted limits h by r a legal same =
    let es = entries_of h in
    let e = entry_by by (Accept r) in
    let n = note by (Accept r) in
    let own : accepts_of a.client (entries_of (h ++ n ∷ [])) ≡ accepts_of a.client es ++ e ∷ [] = ap (accepts_of a.client) (entries_of-push h n e refl) ∙ accepted_own a.client es e refl (sym same) in
    let collects : collects_of a.client (entries_of (h ++ n ∷ [])) ≡ collects_of a.client es = ap (collects_of a.client) (entries_of-push h n e refl) ∙ collects_of-other a.client es e refl in
    let last : last_or 0 (map (λ x. x.ordinal) (accepts_of a.client (entries_of (h ++ n ∷ [])))) ≡ r.ordinal =
    ap (λ xs. last_or 0 (map (λ (x : Entry). x.ordinal) xs)) own ∙ ap (last_or 0) (map-append (λ x. x.ordinal) (accepts_of a.client es) (e ∷ [])) ∙ last_or-push 0 (map (λ x. x.ordinal) (accepts_of a.client es)) r.ordinal in
    let pending : length (accepts_of a.client (entries_of (h ++ n ∷ []))) - length (collects_of a.client (entries_of (h ++ n ∷ []))) ≡ length (accepts_of a.client es) - length (collects_of a.client es) + 1 =
    omega (arith, ap length own, length-append (accepts_of a.client es) (e ∷ []), ap length collects, collects_within limits es a.client legal) in
    let waiting : (member_after (h ++ n ∷ []) a).waiting ≡ (member_after h a).waiting =
    rw (entries_of-push h n e refl, collects_of-other a.client es e refl, responses-other a.client h n refl, shown-kept a.client h (e ∷ []) legal.pairing) refl in
    λ i. record { client = a.client; by = a.by; last = sym last i; pending = sym pending i; waiting = sym waiting i }

requests-push : (h : List Note) (by : ℕ) (r : Request) → requests (h ++ note by (Accept r) ∷ []) ≡ requests h ++ r ∷ []
requests-push h by r = filter_map-append (λ x. request_in x.event) h (note by (Accept r) ∷ [])

-- the lane's content allows what the history allows
pub may_accept : (h : List Note) (v : Content) (by : ℕ) (r : Request) (m : Member) → AgreesWith h v → member_with r.client v.members ≡ Some m → IsAllowed v m → m.last < r.ordinal → m.by ≡ by → MayAccept v.limits (entries_of h) (entry_by by (Accept r))
may_accept h v by r m a found ok above own =
    let es = entries_of h in
    let fifo = AtEachPrefix-whole IsFifo es a.legal.rules.fifo in
    let row = row_found h v r.client m a.after found in
    record {
      forwarded = r.forwarded;
      served = (ap (λ b. is_admitted b r.client es) (sym own) ∙ row.admitted, row.stays);
      up = sym a.after.up ∙ ok.up;
      rises = omega (arith, above, row.last);
      queue = omega (arith, length-queue h v a.after, takes-le-accepts es fifo, ok.queue);
      client = omega (arith, row.pending, ok.client);
    }

-- an accept takes a lane that agrees with a history to one that agrees with the longer one
pub AgreesWith-accepted : (h : List Note) (v : Content) (by : ℕ) (r : Request) (m : Member) → AgreesWith h v → member_with r.client v.members ≡ Some m → IsAllowed v m → m.last < r.ordinal → m.by ≡ by → AgreesWith (h ++ note by (Accept r) ∷ []) (accepted v by r)
AgreesWith-accepted h v by r m a found ok above own =
    let es = entries_of h in
    let e = entry_by by (Accept r) in
    let n = note by (Accept r) in
    let fifo = AtEachPrefix-whole IsFifo es a.legal.rules.fifo in
    let push = entries_of-push h n e refl in
    record {
      legal = rw (marks_of-push h n e refl) (IsLegal-next v.limits (marks_of h) e a.legal (accept_fit v.limits es e a.legal.rules refl (may_accept h v by r m a found ok above own)) (omega (arith, owed-accepted es by r (takes-le-accepts es fifo), size_agrees h v a.after, ok.history)));
      numbered = rw (numbers_of-other h n e refl refl) a.numbered;
      after = record {
        limits = refl;
        queue = rw (push, takes-other es e refl, requests-push h by r, drop-append-le (length (takes es)) (requests h) (r ∷ []) (omega (arith, takes-le-accepts es fifo, length-requests h))) (ap (λ q. q ++ r ∷ []) a.after.queue);
        window = λ test. a.after.window test ∙ ap (count_by test) (sym (window_after-other h n e refl refl refl fifo));
        members = rows-changed h n e v refl refl refl a.after r.client (λ x. record x { last = r.ordinal; pending = x.pending + 1 })
            (λ x same. row-accepted v.limits h by r x a.legal.rules same)
            (λ x apart. row-same h n e x refl (accepted_other x.client es e refl (λ same. apart (sym same))) (collects_of-other x.client es e refl) refl a.legal.rules.pairing);
        greatest = rw (push, admits-other es e refl) a.after.greatest;
        up = rw (push, is_up-other es e refl) a.after.up;
        generations = generations-kept h n e v refl refl a.after;
        latest = latest-kept h n e v refl refl a.after;
        entries = rw (marks_of-push h n e refl, stored-push (marks_of h) e) (ap (λ xs. xs ++ e ∷ []) a.after.entries);
      };
    }
