-- A retire takes a lane that agrees with a history to one that agrees with the longer history.
use Rattle.smx_history.proofs.FitsCollect.{retire_fit}
use Rattle.smx_history.proofs.Presence.{present_retired}
use Rattle.smx_history.proofs.Counts.{length_part, filter-map}
use Rattle.std.proofs.Common.{◌≡◌, ◌<◌, ◌≤◌, ◌+◌, ◌==◌, ℕ, Bool, true, false, cond, not, List, [], ◌∷◌, ◌++◌, length, map, refl, sym, ◌∙◌, ap, arith, filter, sum_by, length-append, Some}
use Rattle.std.proofs.lemmas.List.Sums.{sum_by-cons}
use Rattle.smx_history.specs.declared.note.Event.TheVariants.{Retire}
use Rattle.smx_history.specs.declared.note.Note.{Note}
use Rattle.smx_history.specs.Prefixes.{RiseAbove}
use Rattle.smx_history.specs.Entries.{is_admitted, present}
use Rattle.smx_history.specs.Legal.{IsFifo, IsServed}
use Rattle.smx_history.specs.History.{entry_by, note, entries_of}
use Rattle.smx_history.specs.Contents.{AgreesWith, IsAfter, Content, Member, member_after}
use Rattle.smx_history.proofs.Room.{KeepsRoom, FitsBox}
use Rattle.smx_history.specs.Replies.{member_with}
use Rattle.smx_history.proofs.Updates.{retired, without}
use Rattle.smx_history.proofs.Numbering.{generations-kept, latest-kept}
use Rattle.smx_history.proofs.Rows.{row-other, row_found, rows_each}
use Rattle.smx_history.proofs.Unchanged.{queue-kept, window-kept, greatest-kept, up-kept, entries-pushed, agrees-next}
use Rattle.smx_history.proofs.Reading.{entries_of-push, All-kept}
use Rattle.smx_history.proofs.ListPushes.{AtEachPrefix-whole}

-- part of what rises rises
rise_lower : (low x : ℕ) (xs : List ℕ) → low < x → RiseAbove x xs → RiseAbove low xs
rise_lower low x [] h rise = tt
rise_lower low x (y ∷ xs) h rise = (omega (arith, rise.0), rise.1)

pub rise_part : {X : Type 0} (f : X → ℕ) (p : X → Bool) (low : ℕ) (xs : List X) → RiseAbove low (map f xs) → RiseAbove low (map f (filter p xs))
rise_part f p low [] rise = tt
rise_part f p low (x ∷ xs) rise = rise_part_at (p x) (rise_part f p (f x) xs rise.1)
  where
    rise_part_at : (b : Bool) → RiseAbove (f x) (map f (filter p xs)) → RiseAbove low (map f (cond b (x ∷ filter p xs) (filter p xs)))
    rise_part_at true rest = (rise.0, rest)
    rise_part_at false rest = rise_lower low (f x) (map f (filter p xs)) rise.0 rest

sum_part : {X : Type 0} (f : X → ℕ) (p : X → Bool) (xs : List X) → sum_by f (filter p xs) ≤ sum_by f xs
sum_part f p [] = omega arith
sum_part f p (x ∷ xs) = sum_part_at (p x) (sum_part f p xs)
  where
    sum_part_at : (b : Bool) → sum_by f (filter p xs) ≤ sum_by f xs → sum_by f (cond b (x ∷ filter p xs) (filter p xs)) ≤ sum_by f (x ∷ xs)
    sum_part_at true le = omega (arith, le, sum_by-cons f x (filter p xs), sum_by-cons f x xs)
    sum_part_at false le = omega (arith, le, sum_by-cons f x xs)

-- a row goes
fewer : (c : ℕ) (m : Member) (ms : List Member) → member_with c ms ≡ Some m → length (without c ms) + 1 ≤ length ms
fewer c m [] found = cc
fewer c m (x ∷ ms) found = fewer_at (x.client == c) found (length_part (λ (y : Member). not (y.client == c)) ms) (fewer c m ms)
  where
    fewer_at : (b : Bool) → cond b (Some x) (member_with c ms) ≡ Some m → length (without c ms) ≤ length ms → (member_with c ms ≡ Some m → length (without c ms) + 1 ≤ length ms) → length (cond (not b) (x ∷ without c ms) (without c ms)) + 1 ≤ length (x ∷ ms)
    fewer_at true f le later = omega (arith, le)
    fewer_at false f le later = let l = later f in omega (arith, l)

-- a retire keeps the room
pub KeepsRoom-retired : (v : Content) (by c : ℕ) (m : Member) → KeepsRoom v → member_with c v.members ≡ Some m → KeepsRoom (retired v by c)
KeepsRoom-retired v by c m k found =
    let stays : Member → Bool = λ x. not (x.client == c) in
    let e : length (v.entries ++ entry_by by (Retire c) ∷ []) ≡ length v.entries + 1 = length-append v.entries (entry_by by (Retire c) ∷ []) in
    let n = fewer c m v.members found in
    let w = sum_part (λ (x : Member). length x.waiting) stays v.members in
    record {
      limits = k.limits;
      queue = k.queue;
      window = k.window;
      size = omega (arith, e, n, w, k.size);
      boxes = All-kept (FitsBox (retired v by c)) stays v.members k.boxes;
      queue_known = k.queue_known;
      window_known = k.window_known;
      members_known = All-kept (λ x. x.client ≤ v.greatest) stays v.members k.members_known;
      clients = rise_part (λ x. x.client) stays 0 v.members k.clients;
    }

IsAfter-retired : (h : List Note) (v : Content) (by c : ℕ) → AgreesWith h v → IsAfter (h ++ note by (Retire c) ∷ []) (retired v by c)
IsAfter-retired h v by c a =
    let es = entries_of h in
    let e = entry_by by (Retire c) in
    let n = note by (Retire c) in
    let others = filter (λ x. not (x.client == c)) (present es) in
    record {
      limits = refl;
      queue = queue-kept h n e v refl refl refl a.after;
      window = window-kept h n e v refl refl refl (AtEachPrefix-whole IsFifo es a.legal.rules.fifo) a.after;
      members = ap (without c) a.after.members ∙ filter-map (λ (m : Member). not (m.client == c)) (member_after h) (present es)
          ∙ rows_each (member_after h) (member_after (h ++ n ∷ [])) (λ x. sym (row-other h n e x refl refl refl refl a.legal.rules.pairing)) others
          ∙ ap (map (member_after (h ++ n ∷ []))) (sym (ap present (entries_of-push h n e refl) ∙ present_retired es e refl));
      greatest = greatest-kept h n e v refl refl a.after;
      up = up-kept h n e v refl refl a.after;
      generations = generations-kept h n e v refl refl a.after;
      latest = latest-kept h n e v refl refl a.after;
      entries = entries-pushed h n e v refl a.after;
    }

-- a retire takes a lane that agrees with a history to one that agrees with the longer one
pub AgreesWith-retired : (h : List Note) (v : Content) (by c : ℕ) (m : Member) → AgreesWith h v → KeepsRoom v → member_with c v.members ≡ Some m → m.by ≡ by → AgreesWith (h ++ note by (Retire c) ∷ []) (retired v by c)
AgreesWith-retired h v by c m a k found own =
    let es = entries_of h in
    let e = entry_by by (Retire c) in
    let row = row_found h v c m a.after found in
    let served : IsServed es e = (ap (λ b. is_admitted b c es) (sym own) ∙ row.admitted, row.stays) in
    agrees-next h (note by (Retire c)) e v (retired v by c) refl refl refl a (retire_fit v.limits es e a.legal.rules refl (refl, refl, refl) served) (IsAfter-retired h v by c a) (KeepsRoom-retired v by c m k found)
