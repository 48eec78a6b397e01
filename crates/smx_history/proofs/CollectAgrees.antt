-- A collect takes a lane that agrees with a history to one that agrees with the longer history.
use Rattle.smx_history.proofs.FitsCollect.{collect_fit, collected_other, oldest_next}
use Rattle.std.proofs.Common.{◌≡◌, ◌+◌, ◌-◌, ◌==◌, ℕ, Bool, true, false, cond, ◌&&◌, List, [], ◌∷◌, ◌++◌, length, map, drop, refl, sym, ◌∙◌, ap, arith, length-append, Some, suc, zero, add-one}
use Rattle.std.proofs.lemmas.Bool.{eq-eqb}
use Rattle.smx_history.specs.declared.note.Event.TheVariants.{Collect}
use Rattle.smx_history.specs.declared.entry.Entry.{Entry}
use Rattle.smx_history.specs.declared.response.Response.{Response}
use Rattle.smx_history.specs.declared.note.Note.{Note}
use Rattle.smx_history.specs.Prefixes.{AtEach}
use Rattle.smx_history.specs.Entries.{is_admitted, is_collect, answers_of, collects_of}
use Rattle.smx_history.specs.Legal.{IsFifo, IsPaired, IsServed}
use Rattle.smx_history.specs.History.{entry_by, note, entries_of, responses}
use Rattle.smx_history.specs.Contents.{AgreesWith, IsAfter, Content, Member, as_shown, member_after, members_after}
use Rattle.smx_history.proofs.Room.{KeepsRoom}
use Rattle.smx_history.specs.Replies.{member_with, waiting_in, waiting_after}
use Rattle.smx_history.proofs.Updates.{collected, with_row}
use Rattle.smx_history.proofs.ListPushes.{filter_push, AtEachPrefix-whole}
use Rattle.smx_history.proofs.Frames.{accepts_of-other}
use Rattle.smx_history.proofs.Numbering.{generations-kept, latest-kept}
use Rattle.smx_history.proofs.Rows.{row-same, row_found, rows-changed}
use Rattle.smx_history.proofs.Unchanged.{queue-kept, window-kept, greatest-kept, up-kept, entries-pushed, agrees-next}
use Rattle.smx_history.proofs.Reading.{entries_of-push, shown-kept, responses_are_answers, responses-other}
use Rattle.std.proofs.lemmas.List.{drop-map}

drop_more : {X : Type 0} (k : ℕ) (xs : List X) → drop 1 (drop k xs) ≡ drop (k + 1) xs
drop_more k xs = rw add-one (drop_suc k xs)
  where
    drop_suc : {X : Type 0} (k : ℕ) (xs : List X) → drop 1 (drop k xs) ≡ drop (suc k) xs
    drop_suc zero xs = refl
    drop_suc (suc k) [] = refl
    drop_suc (suc k) (x ∷ xs) = drop_suc k xs

-- the ordinals of what waits are those of the answers that were not collected
ordinals_next : (h : List Note) (c : ℕ) (r : Response) (rest : List Response) → r ∷ rest ≡ drop (length (collects_of c (entries_of h))) (map (as_shown (entries_of h) c) (responses c h)) → drop (length (collects_of c (entries_of h))) (map (λ e. e.ordinal) (answers_of c (entries_of h))) ≡ r.ordinal ∷ map (λ (x : Response). x.ordinal) rest
ordinals_next h c r rest w =
    let k = length (collects_of c (entries_of h)) in
    ap (drop k) (sym (responses_are_answers c h) ∙ sym (ordinals_shown (entries_of h) c (responses c h)))
    ∙ drop-map (λ (x : Response). x.ordinal) k (map (as_shown (entries_of h) c) (responses c h)) ∙ ap (map (λ (x : Response). x.ordinal)) (sym w)
  where
    ordinals_shown : (es : List Entry) (c : ℕ) (rs : List Response) → map (λ (x : Response). x.ordinal) (map (as_shown es c) rs) ≡ map (λ x. x.ordinal) rs
    ordinals_shown es c [] = refl
    ordinals_shown es c (x ∷ rs) = ap (λ ns. x.ordinal ∷ ns) (ordinals_shown es c rs)

-- the client of the response has one less pending, and its oldest response waits no more
row-collected : (h : List Note) (by c n : ℕ) (a : Entry) → AtEach (λ before e. IsPaired e.kind before e) (entries_of h) → a.client ≡ c → record (member_after h a) { pending = (member_after h a).pending - 1; waiting = drop 1 (member_after h a).waiting } ≡ member_after (h ++ note by (Collect c n) ∷ []) a
row-collected h by c n a paired same =
    let es = entries_of h in
    let e = entry_by by (Collect c n) in
    let x = note by (Collect c n) in
    let k = length (collects_of a.client es) in
    let col : collects_of a.client (es ++ e ∷ []) ≡ collects_of a.client es ++ e ∷ [] =
    filter_push (λ y. is_collect y.kind && (y.client == a.client)) es e (eq-eqb c a.client (sym same)) in
    let count : length (collects_of a.client (es ++ e ∷ [])) ≡ k + 1 = ap length col ∙ length-append (collects_of a.client es) (e ∷ []) in
    let last : (member_after (h ++ x ∷ []) a).last ≡ (member_after h a).last = rw (entries_of-push h x e refl, accepts_of-other a.client es e refl) refl in
    let pending : (member_after (h ++ x ∷ []) a).pending ≡ (member_after h a).pending - 1 =
    rw (entries_of-push h x e refl, accepts_of-other a.client es e refl) (omega (arith, count)) in
    let waiting : (member_after (h ++ x ∷ []) a).waiting ≡ drop 1 (member_after h a).waiting =
    rw (entries_of-push h x e refl, count, responses-other a.client h x refl, shown-kept a.client h (e ∷ []) paired) (sym (drop_more k (map (as_shown es a.client) (responses a.client h)))) in
    λ i. record { client = a.client; by = a.by; last = sym last i; pending = sym pending i; waiting = sym waiting i }

rows_collected : (h : List Note) (v : Content) (by c n : ℕ) → AgreesWith h v → with_row c (λ x. record x { pending = x.pending - 1; waiting = drop 1 x.waiting }) v.members ≡ members_after (h ++ note by (Collect c n) ∷ [])
rows_collected h v by c n a =
    let es = entries_of h in
    let e = entry_by by (Collect c n) in
    rows-changed h (note by (Collect c n)) e v refl refl refl a.after c (λ x. record x { pending = x.pending - 1; waiting = drop 1 x.waiting })
    (λ x same. row-collected h by c n x a.legal.rules.pairing same)
    (λ x apart. row-same h (note by (Collect c n)) e x refl (accepts_of-other x.client es e refl) (collected_other x.client es e refl (λ of. apart (sym of))) refl a.legal.rules.pairing)

-- it waits no more
pub waiting-collected : (h : List Note) (v : Content) (by c n : ℕ) → AgreesWith h v → waiting_after (h ++ note by (Collect c n) ∷ []) c ≡ drop 1 (waiting_after h c)
unfolding waiting_after
waiting-collected h v by c n a = ap (λ ms. waiting_in (member_with c ms)) (sym (rows_collected h v by c n a)) ∙ taken_off v.members ∙ ap (λ ms. drop 1 (waiting_in (member_with c ms))) a.after.members
  where
    f : Member → Member
    f x = record x { pending = x.pending - 1; waiting = drop 1 x.waiting }

    taken_off : (ms : List Member) → waiting_in (member_with c (with_row c f ms)) ≡ drop 1 (waiting_in (member_with c ms))
    taken_off [] = refl
    taken_off (m ∷ ms) = at (m.client == c) refl (taken_off ms)
      where
        at : (b : Bool) → (m.client == c) ≡ b → waiting_in (member_with c (with_row c f ms)) ≡ drop 1 (waiting_in (member_with c ms)) → waiting_in (member_with c (cond b (f m) m ∷ with_row c f ms)) ≡ drop 1 (waiting_in (cond b (Some m) (member_with c ms)))
        at true e later = rw e refl
        at false e later = rw e later

IsAfter-collected : (h : List Note) (v : Content) (by c : ℕ) (r : Response) → AgreesWith h v → IsAfter (h ++ note by (Collect c r.ordinal) ∷ []) (collected v by c r)
IsAfter-collected h v by c r a =
    let es = entries_of h in
    let e = entry_by by (Collect c r.ordinal) in
    let n = note by (Collect c r.ordinal) in
    record {
      limits = refl;
      queue = queue-kept h n e v refl refl refl a.after;
      window = window-kept h n e v refl refl refl (AtEachPrefix-whole IsFifo es a.legal.rules.fifo) a.after;
      members = rows_collected h v by c r.ordinal a;
      greatest = greatest-kept h n e v refl refl a.after;
      up = up-kept h n e v refl refl a.after;
      generations = generations-kept h n e v refl refl a.after;
      latest = latest-kept h n e v refl refl a.after;
      entries = entries-pushed h n e v refl a.after;
    }

pub AgreesWith-collected : (h : List Note) (v : Content) (by c : ℕ) (r : Response) (rest : List Response) (m : Member) → AgreesWith h v → member_with c v.members ≡ Some m → m.by ≡ by → m.waiting ≡ r ∷ rest → KeepsRoom (collected v by c r) → AgreesWith (h ++ note by (Collect c r.ordinal) ∷ []) (collected v by c r)
AgreesWith-collected h v by c r rest m a found own waits room =
    let es = entries_of h in
    let e = entry_by by (Collect c r.ordinal) in
    let row = row_found h v c m a.after found in
    let next = ordinals_next h c r rest (sym waits ∙ row.waiting) in
    let served : IsServed es e = (ap (λ b. is_admitted b c es) (sym own) ∙ row.admitted, row.stays) in
    agrees-next h (note by (Collect c r.ordinal)) e v (collected v by c r) refl refl refl a (collect_fit v.limits es e a.legal.rules refl (refl, refl) served (oldest_next es e (map (λ (x : Response). x.ordinal) rest) next)) (IsAfter-collected h v by c r a) room
