-- What goes on on the lanes leaves the numbers of their takes placed.
use Rattle.std.proofs.Common.{◌≡◌, ℕ, Bool, true, false, cond, List, [], ◌∷◌, ◌++◌, refl, sym, ◌∙◌, ap, subst, codes, map, get_or, set, take, drop, replicate, Option, Some, None, zero, suc, append_assoc, if◌then◌else◌}
use Rattle.std.specs.List.{AllByRecursion, find}
use Rattle.std.specs.Fmt.{decimal}
use Rattle.std.proofs.lemmas.List.{append-nil}
use Rattle.smx_history.specs.declared.entry.Entry.{Entry}
use Rattle.smx_history.specs.declared.limits.Limits.{Limits}
use Rattle.smx_history.specs.declared.note.Note.{Note}
use Rattle.smx_history.specs.declared.place.Place.{Place}
use Rattle.smx_history.specs.declared.request.Request.{Request}
use Rattle.smx_history.specs.declared.response.Response.{Response}
use Rattle.smx_history.specs.declared.note.Event.TheVariants as event
use Rattle.smx_history.specs.Entries.{is_take, is_up, numbers}
use Rattle.smx_history.specs.Numbers.{ArePlaced}
use Rattle.smx_history.specs.History.{entry_by, entry_in, entries_of, note}
use Rattle.smx_history.specs.Answering.{failing}
use Rattle.smx_history.specs.Failures.{failure_command}
use Rattle.smx_history.specs.Contents.{window_after}
use Rattle.smx_history.specs.Replies.{answers_place, is_present, waiting_after}
use Rattle.smx_history.proofs.Numbering.{numbers_of-other}
use Rattle.smx_history.proofs.ShiftAgrees.{entries_of-shift}
use Rattle.smx_pdu.specs.declared.pdu.Pdu.{Pdu}
use Rattle.smx_lines.specs.declared.state.State.{State}
use Rattle.smx_lines.specs.declared.state.LinkedLane.{LinkedLane}
use Rattle.smx_lines.specs.Relay.{Relay, RelayLane, back_to, back_on, collect_lane, enter_lane, enter_and_leave_lane, history_on, lane_after, leave_lane, new_lane, turn_on, with_request}
use Rattle.smx_lines.specs.LaneLinks.{give_up_lane, lower_lane, raise_lane}
use Rattle.smx_lines.specs.Expiring.{expire_on}
use Rattle.smx_lines.specs.Lanes.{lasts}
use Rattle.smx_lines.specs.States.{AreOn, StandsFor}
use Rattle.smx_lines.specs.Texts.{text_line}
use Rattle.smx_lines.proofs.FreeNumbers.{TakesArePlaced}

-- ---- notes that are no takes

-- the takes bear the same numbers
abbrev pub SameNumbers : List Note → List Note → Type 0
SameNumbers new old = numbers (entries_of new) ≡ numbers (entries_of old)

pub still_placed : (new old : List Note) → SameNumbers new old → TakesArePlaced old → TakesArePlaced new
still_placed new old same placed = subst (λ ns. ArePlaced ns) (sym same) placed

same_map : {X : Type 0} (f : X → Note) (entry : X → Entry) → ((x : X) → entry_in (f x) ≡ Some (entry x)) → ((x : X) → is_take (entry x).kind ≡ false) → (h : List Note) (xs : List X) → SameNumbers (h ++ map f xs) h
same_map f entry is other h [] = ap (λ g. numbers (entries_of g)) (append-nil h)
same_map f entry is other h (x ∷ xs) =
    ap (λ g. numbers (entries_of g)) (sym (append_assoc h (f x ∷ []) (map f xs)))
    ∙ same_map f entry is other (h ++ f x ∷ []) xs ∙ numbers_of-other h (f x) (entry x) (is x) (other x)

same_if : (b : Bool) (g h : List Note) → SameNumbers g h → SameNumbers (if b then g else h) h
same_if true g h same = same
same_if false g h same = refl

same_unless : (b : Bool) (g h : List Note) → SameNumbers g h → SameNumbers (if b then h else g) h
same_unless true g h same = refl
same_unless false g h same = same

pub same_entered : (c : ℕ) (h : List Note) → SameNumbers (enter_lane c h) h
same_entered c h = numbers_of-other h _ _ refl refl

pub same_refused : (c : ℕ) (h : List Note) → SameNumbers (enter_and_leave_lane c h) h
same_refused c h = numbers_of-other (enter_lane c h) _ _ refl refl ∙ same_entered c h

pub same_left : (c : ℕ) (h : List Note) → SameNumbers (leave_lane c h) h
same_left c h = same_if (is_present c h) (h ++ note 0 (event.Retire c) ∷ []) h (numbers_of-other h _ _ refl refl)

pub same_accepted : (r : Request) (h : List Note) → SameNumbers (with_request r h) h
same_accepted r h = numbers_of-other h _ _ refl refl

pub same_collected : (c : ℕ) (h : List Note) → SameNumbers (collect_lane c h) h
same_collected c h = same_map (λ (r : Response). note 0 (event.Collect c r.ordinal)) (λ (r : Response). entry_by 0 (event.Collect c r.ordinal)) (λ r. refl) (λ r. refl) h (waiting_after h c)

same_failed : (qs : List Place) (h : List Note) → SameNumbers (h ++ map (failing 0) qs) h
same_failed qs h = same_map (failing 0) (λ (q : Place). entry_by 0 (event.Fail q.client q.ordinal q.upstream (failure_command q.command))) (λ q. refl) (λ q. refl) h qs

same_back_to : (p : Pdu) (h : List Note) (o : Option Place) → SameNumbers (back_to p h o).1 h
same_back_to p h None = refl
same_back_to p h (Some q) = at (is_present q.client h)
  where
    at : (b : Bool) → SameNumbers (cond {A = List ℕ × List Note} b (text_line (codes "queued " ++ decimal q.client), h ++ note 0 (event.Answer q.client q.ordinal p) ∷ []) (text_line (codes "late"), h ++ note 0 (event.Late q.client q.ordinal p.number p.command) ∷ [])).1 h
    at true = numbers_of-other h _ _ refl refl
    at false = numbers_of-other h _ _ refl refl

pub same_back : (p : Pdu) (h : List Note) → SameNumbers (back_on p h).1 h
unfolding back_on
same_back p h = same_back_to p h (find (answers_place p) (window_after h))

pub same_listed : (h : List Note) → SameNumbers (history_on h).1 h
unfolding history_on
same_listed h = refl

pub same_turned : (i : ℕ) (h : List Note) → SameNumbers (turn_on i h).1 h
unfolding turn_on
same_turned i h = ap numbers (entries_of-shift h 0)

pub same_expired : (i : ℕ) (qs : List Place) (h : List Note) → SameNumbers (expire_on i qs h).1 h
unfolding expire_on
same_expired i qs h = same_failed qs h

pub same_lowered : (h : List Note) → SameNumbers (lower_lane h) h
unfolding lower_lane
same_lowered h = same_if (is_up (entries_of h)) (h ++ note 0 event.Down ∷ []) h (numbers_of-other h _ _ refl refl)

pub same_given_up : (qs : List Place) (h : List Note) → SameNumbers (give_up_lane qs h) h
unfolding give_up_lane
same_given_up qs h = same_unless (is_up (entries_of h)) (h ++ map (failing 0) qs) h (same_failed qs h)

pub same_raised : (h : List Note) → SameNumbers (raise_lane h) h
unfolding raise_lane
same_raised h = numbers_of-other h _ _ refl refl

-- ---- lanes

abbrev pub IsPlaced : RelayLane → Type 0
IsPlaced l = TakesArePlaced l.history

abbrev pub ArePlacedOn : List RelayLane → Type 0
ArePlacedOn ls = AllByRecursion IsPlaced ls

none_taken : TakesArePlaced []
none_taken k u at = cc

pub placed_at : (ls : List RelayLane) (i : ℕ) → ArePlacedOn ls → IsPlaced (get_or ls i new_lane)
placed_at [] i all = none_taken
placed_at (l ∷ ls) zero all = all.0
placed_at (l ∷ ls) (suc i) all = placed_at ls i all.1

pub placed_set : (ls : List RelayLane) (i : ℕ) (l : RelayLane) → ArePlacedOn ls → IsPlaced l → ArePlacedOn (set ls i l)
placed_set [] i l all is = tt
placed_set (x ∷ ls) zero l all is = (is, all.1)
placed_set (x ∷ ls) (suc i) l all is = (all.0, placed_set ls i l all.1 is)

pub placed_map : (f : List Note → List Note) → ((h : List Note) → SameNumbers (f h) h) → (ls : List RelayLane) → ArePlacedOn ls → ArePlacedOn (map (lane_after f) ls)
placed_map f same [] all = tt
placed_map f same (l ∷ ls) all = (still_placed (f l.history) l.history (same l.history) all.0, placed_map f same ls all.1)

pub placed_front : (f : List Note → List Note) → ((h : List Note) → SameNumbers (f h) h) → (i : ℕ) (ls : List RelayLane) → ArePlacedOn ls → ArePlacedOn (map (lane_after f) (take i ls) ++ drop i ls)
placed_front f same zero [] all = tt
placed_front f same zero (l ∷ ls) all = all
placed_front f same (suc i) [] all = tt
placed_front f same (suc i) (l ∷ ls) all = (still_placed (f l.history) l.history (same l.history) all.0, placed_front f same i ls all.1)

pub placed_new : (count : ℕ) → ArePlacedOn (replicate count new_lane)
placed_new zero = tt
placed_new (suc count) = (none_taken, placed_new count)

-- so it is with lanes that agree with their histories
placed_on : (limits : Limits) (clients : List (Option ℕ)) (ls : List RelayLane) (lanes : List LinkedLane) → AreOn limits clients ls lanes → ArePlacedOn ls
placed_on limits clients [] lanes on = tt
placed_on limits clients (l ∷ ls) [] on = absurd on
placed_on limits clients (l ∷ ls) (k ∷ lanes) on = (on.0.on.agrees.numbered.placed, placed_on limits clients ls lanes on.1)

pub stands_placed : (state : State) (s : Relay) → StandsFor state s → ArePlacedOn s.lanes
stands_placed state s a = placed_on s.limits (lasts s.clients) s.lanes state.lanes.items a.lanes
