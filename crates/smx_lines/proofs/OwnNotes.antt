-- What the lines add to the histories is the one caller's.
use Rattle.std.proofs.Common.{◌≡◌, ◌⊎◌, ◌≤◌, ◌+◌, ℕ, Bool, true, false, cond, List, [], ◌∷◌, ◌++◌, length, set, refl, sym, ◌∙◌, ap, subst, arith, Option, Some, None, inl, inr, zero, suc, codes, map, append_assoc, nat_lt}
use Rattle.std.specs.Prelude.{unwrap_or}
use Rattle.std.specs.List.{AllByRecursion, find}
use Rattle.std.specs.Fmt.{decimal}
use Rattle.smx_history.specs.declared.note.Event.TheVariants as event
use Rattle.smx_lines.specs.Texts.{text_line, down_line}
use Rattle.smx_lines.specs.LaneLinks.{give_up_lane, lower_lane, raise_lane}
use Rattle.smx_lines.specs.Expiring.{expire_on}
use Rattle.smx_history.specs.Answering.{failing}
use Rattle.std.proofs.lemmas.List.{append-nil}
use Rattle.smx_pdu.specs.declared.pdu.Pdu.{Pdu}
use Rattle.smx_history.specs.declared.entry.Entry.{Entry}
use Rattle.smx_history.specs.declared.limits.Limits.{Limits}
use Rattle.smx_history.specs.declared.request.Request.{Request}
use Rattle.smx_history.specs.declared.response.Response.{Response}
use Rattle.smx_history.specs.declared.note.Note.{Note}
use Rattle.smx_history.specs.declared.place.Place.{Place}
use Rattle.smx_history.specs.Entries.{is_accept, is_up}
use Rattle.smx_history.specs.History.{entry_in, entries_of, note}
use Rattle.smx_history.specs.Contents.{queue_after, window_after}
use Rattle.smx_history.specs.Replies.{answers_place, is_present, waiting_after}
use Rattle.smx_history.proofs.ListPushes.{All-push}
use Rattle.smx_history.proofs.ShiftAgrees.{entries_of-shift}
use Rattle.smx_history.proofs.Reading.{entries_of-push, entries_of-append, All-each}
use Rattle.smx_lines.specs.Relay.{take_with, take_on, turn_on, back_to, back_on, collect_lane, enter_lane, enter_and_leave_lane}
use Rattle.smx_lines.specs.Lanes.{IsOwnEntry, AreOwnEntries, last_of}
use Rattle.smx_lines.proofs.Collecting.{collects}

pub own_push : (clients : List (Option ℕ)) (h : List Note) (n : Note) (e : Entry) → entry_in n ≡ Some e → AreOwnEntries clients h → IsOwnEntry clients e → AreOwnEntries clients (h ++ n ∷ [])
own_push clients h n e entry own is = subst (AllByRecursion (IsOwnEntry clients)) (sym (entries_of-push h n e entry)) (All-push (IsOwnEntry clients) (entries_of h) e own is)

-- an entry of the one caller that is no accept
pub own_other : (clients : List (Option ℕ)) (e : Entry) → e.by ≡ 0 → is_accept e.kind ≡ false → IsOwnEntry clients e
own_other clients e by other = record { by = by; known = λ accept. absurd (let z : true ≡ false = sym accept ∙ other in cc) }

own_take_with : (clients : List (Option ℕ)) (moment u i : ℕ) (h : List Note) (queue : List Request) (room : Bool) → AreOwnEntries clients h → AreOwnEntries clients (take_with moment u i h queue room).1
own_take_with clients moment u i h [] room own = own
own_take_with clients moment u i h (r ∷ rs) true own = own_push clients h _ _ refl own (own_other clients _ refl refl)
own_take_with clients moment u i h (r ∷ rs) false own = own

pub own_take : (clients : List (Option ℕ)) (limits : Limits) (moment u i : ℕ) (h : List Note) → AreOwnEntries clients h → AreOwnEntries clients (take_on limits moment u i h).1
unfolding take_on
own_take clients limits moment u i h own = at (is_up (entries_of h))
  where
    at : (b : Bool) → AreOwnEntries clients (cond {A = List ℕ × List Note} b (take_with moment u i h (queue_after h) (nat_lt (length (window_after h)) limits.window)) (down_line i, h)).1
    at true = own_take_with clients moment u i h (queue_after h) _ own
    at false = own

own_failing : (clients : List (Option ℕ)) (h : List Note) (qs : List Place) → AreOwnEntries clients h → AreOwnEntries clients (h ++ map (failing 0) qs)
own_failing clients h [] own = subst (AreOwnEntries clients) (sym (append-nil h)) own
own_failing clients h (q ∷ qs) own = subst (AreOwnEntries clients) (append_assoc h (failing 0 q ∷ []) (map (failing 0) qs)) (own_failing clients (h ++ failing 0 q ∷ []) qs (own_push clients h _ _ refl own (own_other clients _ refl refl)))

pub own_expired : (clients : List (Option ℕ)) (i : ℕ) (qs : List Place) (h : List Note) → AreOwnEntries clients h → AreOwnEntries clients (expire_on i qs h).1
unfolding expire_on
own_expired clients i qs h own = own_failing clients h qs own

pub own_given_up : (clients : List (Option ℕ)) (qs : List Place) (h : List Note) → AreOwnEntries clients h → AreOwnEntries clients (give_up_lane qs h)
unfolding give_up_lane
own_given_up clients qs h own = at (is_up (entries_of h))
  where
    at : (b : Bool) → AreOwnEntries clients (cond {A = List Note} b h (h ++ map (failing 0) qs))
    at true = own
    at false = own_failing clients h qs own

pub own_lowered : (clients : List (Option ℕ)) (h : List Note) → AreOwnEntries clients h → AreOwnEntries clients (lower_lane h)
unfolding lower_lane
own_lowered clients h own = at (is_up (entries_of h))
  where
    at : (b : Bool) → AreOwnEntries clients (cond {A = List Note} b (h ++ note 0 event.Down ∷ []) h)
    at true = own_push clients h _ _ refl own (own_other clients _ refl refl)
    at false = own

pub own_raised : (clients : List (Option ℕ)) (h : List Note) → AreOwnEntries clients h → AreOwnEntries clients (raise_lane h)
unfolding raise_lane
own_raised clients h own = own_push clients h _ _ refl own (own_other clients _ refl refl)

own_back_to : (clients : List (Option ℕ)) (p : Pdu) (h : List Note) (o : Option Place) → AreOwnEntries clients h → AreOwnEntries clients (back_to p h o).1
own_back_to clients p h None own = own
own_back_to clients p h (Some q) own = at (is_present q.client h)
  where
    at : (b : Bool) → AreOwnEntries clients (cond {A = List ℕ × List Note} b (text_line (codes "queued " ++ decimal q.client), h ++ note 0 (event.Answer q.client q.ordinal p) ∷ []) (text_line (codes "late"), h ++ note 0 (event.Late q.client q.ordinal p.number p.command) ∷ [])).1
    at true = own_push clients h _ _ refl own (own_other clients _ refl refl)
    at false = own_push clients h _ _ refl own (own_other clients _ refl refl)

pub own_back : (clients : List (Option ℕ)) (p : Pdu) (h : List Note) → AreOwnEntries clients h → AreOwnEntries clients (back_on p h).1
unfolding back_on
own_back clients p h own = own_back_to clients p h (find (answers_place p) (window_after h)) own

-- a shift has no entry
pub own_turn : (clients : List (Option ℕ)) (i : ℕ) (h : List Note) → AreOwnEntries clients h → AreOwnEntries clients (turn_on i h).1
unfolding turn_on
own_turn clients i h own = subst (AllByRecursion (IsOwnEntry clients)) (sym (entries_of-shift h 0)) own

All-append : {X : Type 0} (P : X → Type 0) (xs ys : List X) → AllByRecursion P xs → AllByRecursion P ys → AllByRecursion P (xs ++ ys)
All-append P [] ys a b = b
All-append P (x ∷ xs) ys a b = (a.0, All-append P xs ys a.1 b)

own_collects : (clients : List (Option ℕ)) (c : ℕ) (rs : List Response) → AreOwnEntries clients (collects c rs)
unfolding collects
own_collects clients c [] = tt
own_collects clients c (r ∷ rs) = (own_other clients _ refl refl, own_collects clients c rs)

pub own_collected : (clients : List (Option ℕ)) (c : ℕ) (h : List Note) → AreOwnEntries clients h → AreOwnEntries clients (collect_lane c h)
unfolding collects
own_collected clients c h own =
    subst (AllByRecursion (IsOwnEntry clients)) (sym (entries_of-append h (collects c (waiting_after h c)))) (All-append (IsOwnEntry clients) (entries_of h) (entries_of (collects c (waiting_after h c))) own (own_collects clients c (waiting_after h c)))

pub own_entered : (clients : List (Option ℕ)) (c : ℕ) (h : List Note) → AreOwnEntries clients h → AreOwnEntries clients (enter_lane c h)
own_entered clients c h own = own_push clients h _ _ refl own (own_other clients _ refl refl)

pub own_left : (clients : List (Option ℕ)) (c : ℕ) (h : List Note) → AreOwnEntries clients (enter_lane c h) → AreOwnEntries clients (enter_and_leave_lane c h)
own_left clients c h own = own_push clients (enter_lane c h) _ _ refl own (own_other clients _ refl refl)

pub own_retired : (clients : List (Option ℕ)) (c : ℕ) (h : List Note) → AreOwnEntries clients h → AreOwnEntries clients (h ++ note 0 (event.Retire c) ∷ [])
own_retired clients c h own = own_push clients h _ _ refl own (own_other clients _ refl refl)

-- where last ordinals only grow, what was own is own
pub record Grows (old new : List (Option ℕ)) : Type 0 where
  pub each : (c : ℕ) → unwrap_or (last_of old c) 0 ≤ unwrap_or (last_of new c) 0

pub own_grows : (old new : List (Option ℕ)) (h : List Note) → Grows old new → AreOwnEntries old h → AreOwnEntries new h
own_grows old new h grows own =
    All-each (IsOwnEntry old) (IsOwnEntry new) (λ e is. record { by = is.by; known = λ accept. omega (arith, is.known accept, grows.each e.client) }) (entries_of h) own

last_of-push : (clients : List (Option ℕ)) (o : Option ℕ) (c : ℕ) → (last_of (clients ++ o ∷ []) c ≡ last_of clients c) ⊎ (last_of clients c ≡ None)
last_of-push [] o c = inr refl
last_of-push (x ∷ clients) o zero = inl refl
last_of-push (x ∷ clients) o (suc c) = last_of-push clients o c

pub grows_push : (clients : List (Option ℕ)) (o : Option ℕ) → Grows clients (clients ++ o ∷ [])
grows_push clients o = record {
  each = λ c. elim (last_of-push clients o c) [
    | inl same ↦ omega (arith, ap (λ x. unwrap_or x 0) same)
    | inr none ↦ omega (arith, ap (λ x. unwrap_or x 0) none)
  ];
}

set-grows : (clients : List (Option ℕ)) (c n d : ℕ) → last_of clients c ≡ Some n → unwrap_or (last_of clients d) 0 ≤ unwrap_or (last_of (set clients c (Some (n + 1))) d) 0
set-grows [] c n d known = omega arith
set-grows (o ∷ clients) zero n zero known = omega (arith, ap (λ x. unwrap_or x 0) known)
set-grows (o ∷ clients) zero n (suc d) known = omega arith
set-grows (o ∷ clients) (suc c) n zero known = omega arith
set-grows (o ∷ clients) (suc c) n (suc d) known = set-grows clients c n d known

pub grows_set : (clients : List (Option ℕ)) (c n : ℕ) → last_of clients c ≡ Some n → Grows clients (set clients c (Some (n + 1)))
grows_set clients c n known = record { each = λ d. set-grows clients c n d known }

-- the client's last ordinal is then the new one
pub last_set : (clients : List (Option ℕ)) (c n m : ℕ) → last_of clients c ≡ Some n → last_of (set clients c (Some m)) c ≡ Some m
last_set [] c n m known = cc
last_set (o ∷ clients) zero n m known = refl
last_set (o ∷ clients) (suc c) n m known = last_set clients c n m known
