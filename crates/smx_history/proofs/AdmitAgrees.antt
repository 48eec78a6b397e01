-- An admit takes a lane that agrees with a history to one that agrees with the longer history.
use Rattle.smx_history.proofs.FitsAdmit.{admit_fit}
use Rattle.smx_history.proofs.Presence.{present_admitted}
use Rattle.std.proofs.Common.{◌≡◌, ◌<◌, ◌≤◌, ◌+◌, ℕ, true, false, List, [], ◌∷◌, ◌++◌, length, map, refl, sym, ◌∙◌, ap, arith, sum_by, length-append, inl, inr, Some, None}
use Rattle.std.specs.List.{AllByRecursion}
use Rattle.std.proofs.lemmas.List.{map-append}
use Rattle.std.proofs.lemmas.List.Sums.{sum_by-append}
use Rattle.std.proofs.lemmas.Bool.{le-leb, lt-leb, leb-true, cases_lt, cases_Bool}
use Rattle.smx_history.specs.declared.note.Event.TheVariants.{Admit}
use Rattle.smx_history.specs.declared.note.Note.{Note}
use Rattle.smx_history.specs.declared.reply.AdmitFault.TheVariants.{Known, HistoryFull}
use Rattle.smx_history.specs.Prefixes.{last_or}
use Rattle.smx_history.specs.Entries.{is_admit, admits, present}
use Rattle.smx_history.specs.Legal.{IsFifo}
use Rattle.smx_history.specs.History.{entry_by, note, entries_of, responses}
use Rattle.smx_history.specs.Contents.{AgreesWith, IsAfter, Content, Member, size_of, member_after}
use Rattle.smx_history.proofs.Room.{KeepsRoom, FitsBox}
use Rattle.smx_history.specs.Replies.{admit_refusal, has_room}
use Rattle.smx_history.proofs.Updates.{admitted, new_row}
use Rattle.smx_history.proofs.Numbering.{generations-kept, latest-kept}
use Rattle.smx_history.proofs.Rows.{row-other, rows_each}
use Rattle.smx_history.proofs.Unchanged.{queue-kept, window-kept, up-kept, entries-pushed, agrees-next}
use Rattle.smx_history.proofs.Reading.{entries_of-push, length-responses, responses-other, All-each}
use Rattle.smx_history.proofs.ListPushes.{filter_push, AtEachPrefix-whole, RiseAbove-push, last_or-push, All-push}
use Rattle.smx_history.proofs.Frames.{accepts_of-other, collects_of-other}
use Rattle.smx_history.proofs.Unseen.{none_admitted, unseen, IsUnseen}

-- what an admit that is not refused meets
pub record IsFresh (v : Content) (c : ℕ) : Type 0 where
  pub above : v.greatest < c
  pub room : size_of v + 4 ≤ v.limits.history

pub admit_known : (v : Content) (c : ℕ) → c ≤ v.greatest → admit_refusal v c ≡ Some Known
admit_known v c h = rw (le-leb c v.greatest h) refl

pub admit_full : (v : Content) (c : ℕ) → v.greatest < c → has_room v ≡ false → admit_refusal v c ≡ Some HistoryFull
admit_full v c above full = rw (lt-leb c v.greatest above, full) refl

pub admit_allowed : (v : Content) (c : ℕ) → v.greatest < c → has_room v ≡ true → admit_refusal v c ≡ None
admit_allowed v c above room = rw (lt-leb c v.greatest above, room) refl

pub admit_fresh : (v : Content) (c : ℕ) → admit_refusal v c ≡ None → IsFresh v c
admit_fresh v c h =
    elim (cases_lt v.greatest c) [
      | inl above ↦ elim (cases_Bool (has_room v)) [
        | inl room ↦ record { above = above; room = leb-true _ _ room }
        | inr full ↦ absurd (let x : Some HistoryFull ≡ None = sym (admit_full v c above full) ∙ h in cc)
      ]
      | inr known ↦ absurd (let x : Some Known ≡ None = sym (admit_known v c known) ∙ h in cc)
    ]

last_within : (low g : ℕ) (ms : List Member) → low ≤ g → AllByRecursion (λ m. m.client ≤ g) ms → last_or low (map (λ m. m.client) ms) ≤ g
last_within low g [] h all = h
last_within low g (m ∷ ms) h all = last_within m.client g ms all.0 all.1

-- an admit keeps the room
pub KeepsRoom-admitted : (v : Content) (by c : ℕ) → KeepsRoom v → admit_refusal v c ≡ None → KeepsRoom (admitted v by c)
KeepsRoom-admitted v by c k allowed =
    let fresh = admit_fresh v c allowed in
    let e : length (v.entries ++ entry_by by (Admit c) ∷ []) ≡ length v.entries + 1 = length-append v.entries (entry_by by (Admit c) ∷ []) in
    let n : length (v.members ++ new_row by c ∷ []) ≡ length v.members + 1 = length-append v.members (new_row by c ∷ []) in
    let w : sum_by (λ m. length m.waiting) (v.members ++ new_row by c ∷ []) ≡ sum_by (λ m. length m.waiting) v.members + 0 = sum_by-append (λ m. length m.waiting) v.members (new_row by c ∷ []) in
    record {
      limits = k.limits;
      queue = k.queue;
      window = k.window;
      size = omega (arith, e, n, w, fresh.room);
      boxes = All-push (FitsBox (admitted v by c)) v.members (new_row by c) k.boxes
          (omega (arith, k.queue_known c fresh.above, k.window_known c fresh.above), omega arith);
      queue_known = λ d above. k.queue_known d (omega (arith, above, fresh.above));
      window_known = λ d above. k.window_known d (omega (arith, above, fresh.above));
      members_known = All-push (λ m. m.client ≤ c) v.members (new_row by c) (All-each (λ m. m.client ≤ v.greatest) (λ m. m.client ≤ c) (λ m h. omega (arith, h, fresh.above)) v.members k.members_known) (omega arith);
      clients = rw (map-append (λ m. m.client) v.members (new_row by c ∷ []))
          (RiseAbove-push 0 (map (λ m. m.client) v.members) c k.clients (let l = last_within 0 v.greatest v.members (omega arith) k.members_known in omega (arith, l, fresh.above)));
    }

pub empty_of : {X : Type 0} (xs : List X) → length xs ≡ 0 → xs ≡ []
empty_of [] h = refl
empty_of (x ∷ xs) h = absurd (omega (arith, h))

row-admitted : (h : List Note) (by c : ℕ) → IsUnseen c (entries_of h) → new_row by c ≡ member_after (h ++ note by (Admit c) ∷ []) (entry_by by (Admit c))
row-admitted h by c none =
    let es = entries_of h in
    let e = entry_by by (Admit c) in
    let n = note by (Admit c) in
    let came : responses c (h ++ n ∷ []) ≡ [] =
    responses-other c h n refl ∙ empty_of (responses c h) (length-responses c h ∙ ap length none.answers) in
    rw (came, entries_of-push h n e refl, accepts_of-other c es e refl, collects_of-other c es e refl, none.accepts, none.collects) refl

pub IsAfter-admitted : (h : List Note) (v : Content) (by c : ℕ) → AgreesWith h v → IsUnseen c (entries_of h) → IsAfter (h ++ note by (Admit c) ∷ []) (admitted v by c)
IsAfter-admitted h v by c a none =
    let es = entries_of h in
    let e = entry_by by (Admit c) in
    let n = note by (Admit c) in
    let push = entries_of-push h n e refl in
    record {
      limits = refl;
      queue = queue-kept h n e v refl refl refl a.after;
      window = window-kept h n e v refl refl refl (AtEachPrefix-whole IsFifo es a.legal.rules.fifo) a.after;
      members = ap (λ ms. ms ++ new_row by c ∷ []) a.after.members
          ∙ ap (λ ms. ms ++ new_row by c ∷ []) (rows_each (member_after h) (member_after (h ++ n ∷ [])) (λ x. sym (row-other h n e x refl refl refl refl a.legal.rules.pairing)) (present es))
          ∙ ap (λ m. map (member_after (h ++ n ∷ [])) (present es) ++ m ∷ []) (row-admitted h by c none)
          ∙ sym (map-append (member_after (h ++ n ∷ [])) (present es) (e ∷ [])) ∙ ap (map (member_after (h ++ n ∷ []))) (sym (ap present push ∙ present_admitted es e refl none.retired));
      greatest = rw (push, filter_push (λ x. is_admit x.kind) es e refl, map-append (λ x. x.client) (admits es) (e ∷ []), last_or-push 0 (map (λ x. x.client) (admits es)) c) refl;
      up = up-kept h n e v refl refl a.after;
      generations = generations-kept h n e v refl refl a.after;
      latest = latest-kept h n e v refl refl a.after;
      entries = entries-pushed h n e v refl a.after;
    }

-- an admit takes a lane that agrees with a history to one that agrees with the longer one
pub AgreesWith-admitted : (h : List Note) (v : Content) (by c : ℕ) → AgreesWith h v → KeepsRoom v → admit_refusal v c ≡ None → AgreesWith (h ++ note by (Admit c) ∷ []) (admitted v by c)
AgreesWith-admitted h v by c a k allowed =
    let es = entries_of h in
    let e = entry_by by (Admit c) in
    let n = note by (Admit c) in
    let fresh = admit_fresh v c allowed in
    let above : last_or 0 (map (λ x. x.client) (admits es)) < c = omega (arith, fresh.above, a.after.greatest) in
    let none = unseen c es a.legal.rules.standing a.legal.rules.pairing (none_admitted es c a.legal.rules.membership.clients above) in
    agrees-next h n e v (admitted v by c) refl refl refl a (admit_fit v.limits es e a.legal.rules refl (refl, refl, refl) above) (IsAfter-admitted h v by c a none) (KeepsRoom-admitted v by c k allowed)
