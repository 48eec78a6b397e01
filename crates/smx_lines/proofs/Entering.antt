-- Loops over the lanes: a client enters, leaves again, or collects.
use Rattle.std.proofs.Common.{◌≡◌, ◌<◌, ◌≤◌, ◌+◌, ◌==◌, ℕ, Bool, true, false, List, [], ◌∷◌, ◌++◌, length, map, take, drop, get_or, set, refl, sym, ◌∙◌, ap, subst, arith, Option, Some, None, append_assoc, length-append, rules}
use Rattle.std.specs.Prelude.{is_some, IsSome, Result, Ok, Err, MatchResult, OnOk}
use Rattle.smx_lane.specs.declared.fault.NotAdmitted.{NotAdmitted}
use Rattle.std.specs.List.{AllZip, AllByRecursion, list_any, position, flat_map}
use Rattle.std.proofs.lemmas.Bool.{eq-eqb}
use Rattle.std.proofs.lemmas.List.{append-nil, map_push, length-map}
use Rattle.std.proofs.lemmas.Grind.{flat_map-append}
use Rattle.smx_history.specs.declared.entry.Entry.{Entry}
use Rattle.smx_history.specs.declared.limits.Limits.{Limits}
use Rattle.smx_history.specs.declared.note.Note.{Note}
use Rattle.smx_history.specs.declared.note.Event.TheVariants.{Admit, Retire}
use Rattle.smx_history.specs.declared.reply.AdmitFault.{AdmitFault}
use Rattle.smx_history.specs.Prefixes.{RiseAbove, last_or}
use Rattle.smx_history.specs.Entries.{admits, present, is_admit}
use Rattle.smx_history.specs.Legal.{KeepsRules, StandsWell, IsPaired}
use Rattle.smx_history.specs.History.{note, entry_by, entries_of}
use Rattle.smx_history.specs.Contents.{AgreesWith, Content, Member, content_after}
use Rattle.smx_history.specs.Replies.{admit_refusal, is_present, member_with}
use Rattle.smx_history.proofs.ListPushes.{AtEach-init, any_push, any_other, filter_push}
use Rattle.smx_history.proofs.Reading.{entries_of-push}
use Rattle.smx_history.proofs.Unseen.{none_admitted, unseen}
use Rattle.smx_history.proofs.Presence.{present_admitted}
use Rattle.smx_history.proofs.Refusals.{admit_refusal_same}
use Rattle.smx_history.proofs.Rows.{absent, is_present-any}
use Rattle.smx_lines.specs.declared.state.LinkedLane.{LinkedLane}
use Rattle.smx_lines.specs.Relay.{RelayLane, enter_lane, enter_and_leave_lane, collect_text, collect_lane, lane_after}
use Rattle.smx_lines.specs.Lanes.{IsContentAfter, IsLane}
use Rattle.smx_lines.specs.States.{AreOn}
use Rattle.smx_lines.specs.Private.Lanes.{TurnsLane, AreOurs, AreReached, EntersLanes, HaveEntered}
use Rattle.smx_lines.proofs.Lanes.{zip-length, zip-get, zip-set, zip-middle, zip-middle_set, lane_goes, reordered_on}
use Rattle.smx_lines.proofs.Rows.{rows_ours, ours_of_own}
use Rattle.smx_lines.proofs.Passing.{IsPassing, passing_start, passing_at, passing_more, passing_end, first_place, no_place}
use Rattle.smx_lines.proofs.OwnNotes.{own_entered, own_left, own_collected}

abbrev pub refuses : Limits → ℕ → RelayLane → Bool
refuses limits c l = is_some (admit_refusal (content_after limits l.history) c)

take_front : {X : Type 0} (xs ys : List X) → take (length xs) (xs ++ ys) ≡ xs
take_front [] ys = refl
take_front (x ∷ xs) ys = ap (λ zs. x ∷ zs) (take_front xs ys)

drop_front : {X : Type 0} (xs ys : List X) → drop (length xs) (xs ++ ys) ≡ ys
drop_front [] ys = refl
drop_front (x ∷ xs) ys = drop_front xs ys

-- the client was admitted on the first lanes, none of which refused it
pub record IsEntering (limits : Limits) (clients : List (Option ℕ)) (ls : List RelayLane) (c : ℕ) (done left : List RelayLane) (lanes : List LinkedLane) (i : ℕ) : Type 0 where
  pub passing : IsPassing (IsLane limits clients) (lane_after (enter_lane c)) ls done left lanes i
  pub none : list_any (refuses limits c) done ≡ false

abbrev pub Entering : ℕ → List LinkedLane → List LinkedLane → ℕ → Type 0
Entering c old lanes i = (limits : Limits) (clients : List (Option ℕ)) (ls : List RelayLane) → AreOn limits clients ls old → (done : List RelayLane) × (left : List RelayLane) × IsEntering limits clients ls c done left lanes i

pub entering_start : (c : ℕ) (lanes : List LinkedLane) → Entering c lanes lanes 0
entering_start c lanes limits clients ls on = ([], ls, record { passing = passing_start (IsLane limits clients) (lane_after (enter_lane c)) ls lanes on; none = refl })

any_push_none : {X : Type 0} (p : X → Bool) (xs : List X) (x : X) → list_any p xs ≡ false → p x ≡ false → list_any p (xs ++ x ∷ []) ≡ false
any_push_none p xs x none here = any_other p xs x here ∙ none

pub entering_more : (c : ℕ) (old lanes : List LinkedLane) (i : ℕ) (k : LinkedLane) (after : Content) → Entering c old lanes i → i < length lanes → k ≡ get_or lanes i k → admit_refusal k.lane c ≡ None
    → ((h : List Note) → AgreesWith h k.lane → AgreesWith (h ++ note 0 (Admit c) ∷ []) after) → after.limits ≡ k.lane.limits → Entering c old (set lanes i (record k { lane = after })) (i + 1)
entering_more c old lanes i k after so_far lt is allowed goes kept limits clients ls on =
    let x = so_far limits clients ls on in
    let at = passing_at (IsLane limits clients) (lane_after (enter_lane c)) ls x.0 x.1 lanes i k x.2.passing lt in
    let l = at.0 in
    let h = l.history in
    let there : IsLane limits clients l k = subst (IsLane limits clients l) (sym is) at.3 in
    let free : refuses limits c l ≡ false = ap is_some (sym (admit_refusal_same (content_after limits h) k.lane c (reordered_on limits clients h k.lane there.on)) ∙ allowed) in
    let longer : IsContentAfter limits clients (enter_lane c h) after = record { agrees = goes h there.on.agrees; limits_are = kept ∙ there.on.limits_are; own = own_entered clients c h there.on.own } in (
      x.0 ++ l ∷ [],
      at.1,
      record {
        passing = passing_more (IsLane limits clients) (lane_after (enter_lane c)) ls x.0 x.1 lanes i l at.1 (record k { lane = after }) x.2.passing at.2 (lane_goes limits clients (enter_lane c) l k after there longer);
        none = any_push_none (refuses limits c) x.0 l x.2.none free;
      },
    )

pub entering_refused : (c : ℕ) (old lanes new : List LinkedLane) (i : ℕ) (k : LinkedLane) (e : AdmitFault) → Entering c old lanes i → i < length lanes → k ≡ get_or lanes i k → admit_refusal k.lane c ≡ Some e → new ≡ lanes
    → (limits : Limits) (clients : List (Option ℕ)) (ls : List RelayLane) → AreOn limits clients ls old → EntersLanes limits clients ls c (Some i) new
entering_refused c old lanes new i k e so_far lt is refused same limits clients ls on =
    let x = so_far limits clients ls on in
    let at = passing_at (IsLane limits clients) (lane_after (enter_lane c)) ls x.0 x.1 lanes i k x.2.passing lt in
    let l = at.0 in
    let h = l.history in
    let there : IsLane limits clients l k = subst (IsLane limits clients l) (sym is) at.3 in
    let full : refuses limits c l ≡ true = ap is_some (sym (admit_refusal_same (content_after limits h) k.lane c (reordered_on limits clients h k.lane there.on)) ∙ refused) in
    let whole : ls ≡ x.0 ++ l ∷ at.1 = x.2.passing.all ∙ ap (λ xs. x.0 ++ xs) at.2 in
    let place : position (refuses limits c) ls ≡ Some i = ap (position (refuses limits c)) whole ∙ first_place (refuses limits c) x.0 l at.1 x.2.none full ∙ ap (λ n. Some n) x.2.passing.count in
    let front : take i ls ≡ x.0 = ap (take i) x.2.passing.all ∙ ap (λ n. take n (x.0 ++ x.1)) (sym x.2.passing.count) ∙ take_front x.0 x.1 in
    let back : drop i ls ≡ x.1 = ap (drop i) x.2.passing.all ∙ ap (λ n. drop n (x.0 ++ x.1)) (sym x.2.passing.count) ∙ drop_front x.0 x.1 in
    (place, rw (same, front, back) x.2.passing.lanes_are)

pub entering_end : (c : ℕ) (old lanes : List LinkedLane) (i : ℕ) → Entering c old lanes i → length lanes ≤ i → (limits : Limits) (clients : List (Option ℕ)) (ls : List RelayLane) → AreOn limits clients ls old → EntersLanes limits clients ls c None lanes
entering_end c old lanes i so_far le limits clients ls on =
    let x = so_far limits clients ls on in
    let end = passing_end (IsLane limits clients) (lane_after (enter_lane c)) ls x.0 x.1 lanes i x.2.passing le in
    (ap (position (refuses limits c)) end.0 ∙ no_place (refuses limits c) x.0 x.2.none, end.1)

abbrev pub lane_text : ℕ → RelayLane → List ℕ
lane_text c l = collect_text c l.history

-- each lane's waiting responses were collected on the first lanes
pub record IsCollectingAll (limits : Limits) (clients : List (Option ℕ)) (ls : List RelayLane) (c : ℕ) (done left : List RelayLane) (lanes : List LinkedLane) (text : List ℕ) (i : ℕ) : Type 0 where
  pub passing : IsPassing (IsLane limits clients) (lane_after (collect_lane c)) ls done left lanes i
  pub printed : text ≡ flat_map (lane_text c) done

abbrev pub CollectingAll : ℕ → List LinkedLane → List LinkedLane → List ℕ → ℕ → Type 0
CollectingAll c old lanes text i = (limits : Limits) (clients : List (Option ℕ)) (ls : List RelayLane) → AreOn limits clients ls old → (done : List RelayLane) × (left : List RelayLane) × IsCollectingAll limits clients ls c done left lanes text i

pub collecting_all_start : (c : ℕ) (lanes : List LinkedLane) (text : List ℕ) → text ≡ [] → CollectingAll c lanes lanes text 0
collecting_all_start c lanes text e limits clients ls on = ([], ls, record { passing = passing_start (IsLane limits clients) (lane_after (collect_lane c)) ls lanes on; printed = e })

abbrev pub Collects : ℕ → Content → Content → List ℕ → Type 0
Collects c lane after waiting = (h : List Note) → AgreesWith h lane → TurnsLane (collect_text c h, collect_lane c h) lane after waiting

collected_on : (limits : Limits) (clients : List (Option ℕ)) (c : ℕ) (l : RelayLane) (k : LinkedLane) (after : Content) (waiting : List ℕ) → IsLane limits clients l k → Collects c k.lane after waiting → IsLane limits clients (lane_after (collect_lane c) l) (record k { lane = after })
collected_on limits clients c l k after waiting is does =
    let t = does l.history is.on.agrees in
    lane_goes limits clients (collect_lane c) l k after is (record { agrees = t.agrees; limits_are = t.limits_are ∙ is.on.limits_are; own = own_collected clients c l.history is.on.own })

pub collecting_all_more : (c : ℕ) (old lanes : List LinkedLane) (text more waiting : List ℕ) (i : ℕ) (k : LinkedLane) (after : Content) → CollectingAll c old lanes text i → i < length lanes → k ≡ get_or lanes i k → Collects c k.lane after waiting → more ≡ text ++ waiting
    → CollectingAll c old (set lanes i (record k { lane = after })) more (i + 1)
collecting_all_more c old lanes text more waiting i k after so_far lt is does e limits clients ls on =
    let x = so_far limits clients ls on in
    let at = passing_at (IsLane limits clients) (lane_after (collect_lane c)) ls x.0 x.1 lanes i k x.2.passing lt in
    let l = at.0 in
    let there : IsLane limits clients l k = subst (IsLane limits clients l) (sym is) at.3 in
    let t = does l.history there.on.agrees in (
      x.0 ++ l ∷ [],
      at.1,
      record {
        passing = passing_more (IsLane limits clients) (lane_after (collect_lane c)) ls x.0 x.1 lanes i l at.1 (record k { lane = after }) x.2.passing at.2 (collected_on limits clients c l k after waiting there does);
        printed = e ∙ ap (λ w. w ++ waiting) x.2.printed ∙ ap (λ w. flat_map (lane_text c) x.0 ++ w) (t.text ∙ sym (append-nil (lane_text c l))) ∙ sym (flat_map-append (lane_text c) x.0 (l ∷ []));
      },
    )

pub collecting_all_end : (c : ℕ) (old lanes : List LinkedLane) (text : List ℕ) (i : ℕ) → CollectingAll c old lanes text i → length lanes ≤ i → (limits : Limits) (clients : List (Option ℕ)) (ls : List RelayLane) → AreOn limits clients ls old
    → (text ≡ flat_map (lane_text c) ls) × AreOn limits clients (map (lane_after (collect_lane c)) ls) lanes
collecting_all_end c old lanes text i so_far le limits clients ls on =
    let x = so_far limits clients ls on in
    let end = passing_end (IsLane limits clients) (lane_after (collect_lane c)) ls x.0 x.1 lanes i x.2.passing le in
    (x.2.printed ∙ ap (flat_map (lane_text c)) (sym end.0), end.1)

-- the history of a lane that is reached
pub reached_at : (lanes : List LinkedLane) (i : ℕ) (k : LinkedLane) → AreReached lanes → i < length lanes → k ≡ get_or lanes i k → (h : List Note) × AgreesWith h k.lane × AreOurs h
reached_at lanes i k r lt is =
    let w = zip-get (IsLane r.0 r.1) r.2 lanes i k r.3 lt in
    let there : IsLane r.0 r.1 w.0 k = subst (IsLane r.0 r.1 w.0) (sym is) w.2 in
    (w.0.history, there.on.agrees, ours_of_own r.1 w.0.history there.on.own)

pub reached_more : (c : ℕ) (lanes : List LinkedLane) (i : ℕ) (k : LinkedLane) (after : Content) (waiting : List ℕ) → AreReached lanes → i < length lanes → k ≡ get_or lanes i k → Collects c k.lane after waiting → AreReached (set lanes i (record k { lane = after }))
reached_more c lanes i k after waiting r lt is does =
    let w = zip-get (IsLane r.0 r.1) r.2 lanes i k r.3 lt in
    let there : IsLane r.0 r.1 w.0 k = subst (IsLane r.0 r.1 w.0) (sym is) w.2 in
    (r.0, r.1, set r.2 i (lane_after (collect_lane c) w.0), zip-set (IsLane r.0 r.1) r.2 lanes i (lane_after (collect_lane c) w.0) (record k { lane = after }) r.3 (collected_on r.0 r.1 c w.0 k after waiting there does))

-- a client that was just admitted is present
rise_split : (low : ℕ) (xs : List ℕ) (x : ℕ) → RiseAbove low (xs ++ x ∷ []) → RiseAbove low xs × (last_or low xs < x)
rise_split low [] x r = (tt, r.0)
rise_split low (y ∷ xs) x r = let w = rise_split y xs x r.1 in ((r.0, w.0), w.1)

pub entered_present : (h : List Note) (v : Content) (c : ℕ) → AgreesWith (enter_lane c h) v → is_present c (enter_lane c h) ≡ true
entered_present h v c a =
    let es = entries_of h in
    let e = entry_by 0 (Admit c) in
    let push = entries_of-push h (note 0 (Admit c)) e refl in
    let legal : KeepsRules v.limits (es ++ e ∷ []) = subst (KeepsRules v.limits) push a.legal.rules in
    let grown : map (λ x. x.client) (admits (es ++ e ∷ [])) ≡ map (λ x. x.client) (admits es) ++ c ∷ [] =
    ap (map (λ x. x.client)) (filter_push (λ x. is_admit x.kind) es e refl) ∙ map_push (λ (x : Entry). x.client) (admits es) e in
    let rise = rise_split 0 (map (λ x. x.client) (admits es)) c (subst (RiseAbove 0) grown legal.membership.clients) in
    let none = none_admitted es c rise.0 rise.1 in
    let new = unseen c es (AtEach-init (λ before x. StandsWell x.kind before x) es e legal.standing) (AtEach-init (λ before x. IsPaired x.kind before x) es e legal.pairing) none in
    is_present-any (enter_lane c h) c ∙ ap (λ xs. list_any (λ x. x.client == c) (present xs)) push ∙ ap (list_any (λ x. x.client == c)) (present_admitted es e refl new.retired) ∙ any_push (λ (x : Entry). x.client == c) (present es) e (eq-eqb c c refl)

member_there : (c : ℕ) (h : List Note) (lane : Content) → AgreesWith (enter_lane c h) lane → (o : Option Member) → member_with c lane.members ≡ o → IsSome o
member_there c h lane a (Some m) e = search rules
member_there c h lane a None e = absurd (let z : true ≡ false = sym (entered_present h lane c a) ∙ absent (enter_lane c h) lane c a e in cc)

-- the client left the first of some lanes that it had entered
pub record IsLeaving (limits : Limits) (clients : List (Option ℕ)) (some : List RelayLane) (others : List RelayLane) (c : ℕ) (done left : List RelayLane) (lanes : List LinkedLane) (i : ℕ) : Type 0 where
  pub all : some ≡ done ++ left
  pub count : length done ≡ i
  pub lanes_are : AreOn limits clients (map (lane_after (enter_and_leave_lane c)) done ++ (map (lane_after (enter_lane c)) left ++ others)) lanes

abbrev pub Leaving : ℕ → ℕ → List LinkedLane → List LinkedLane → ℕ → Type 0
Leaving c count old lanes i = (limits : Limits) (clients : List (Option ℕ)) (some : List RelayLane) (others : List RelayLane) → length some ≡ count → AreOn limits clients (map (lane_after (enter_lane c)) some ++ others) old
    → (done : List RelayLane) × (left : List RelayLane) × IsLeaving limits clients some others c done left lanes i

abbrev pub LeavingSome : ℕ → ℕ → List LinkedLane → ℕ → Type 0
LeavingSome c count lanes i = (limits : Limits) × (clients : List (Option ℕ)) × (some : List RelayLane) × (others : List RelayLane) × (done : List RelayLane) × (left : List RelayLane) × (length some ≡ count) × IsLeaving limits clients some others c done left lanes i

leaving_begin : (limits : Limits) (clients : List (Option ℕ)) (some others : List RelayLane) (c : ℕ) (lanes : List LinkedLane) → AreOn limits clients (map (lane_after (enter_lane c)) some ++ others) lanes → IsLeaving limits clients some others c [] some lanes 0
leaving_begin limits clients some others c lanes on = record { all = refl; count = refl; lanes_are = on }

pub leaving_start : (c count : ℕ) (lanes : List LinkedLane) → Leaving c count lanes lanes 0
leaving_start c count lanes limits clients some others n on = ([], some, leaving_begin limits clients some others c lanes on)

pub leaving_some_start : (c count : ℕ) (lanes : List LinkedLane) → HaveEntered c count lanes → LeavingSome c count lanes 0
leaving_some_start c count lanes x = (x.0, x.1, x.2, x.3, [], x.2, x.4, leaving_begin x.0 x.1 x.2 x.3 c lanes x.5)

-- what stands next
leaving_at : (limits : Limits) (clients : List (Option ℕ)) (some others : List RelayLane) (c : ℕ) (done left : List RelayLane) (lanes : List LinkedLane) (i count : ℕ) (k : LinkedLane) → length some ≡ count → IsLeaving limits clients some others c done left lanes i → i < count → k ≡ get_or lanes i k
    → (l : RelayLane) × (rest : List RelayLane) × (left ≡ l ∷ rest) × IsLane limits clients (lane_after (enter_lane c) l) k
leaving_at limits clients some others c done [] lanes i count k n x lt is = absurd (omega (arith, ap length x.all, length-append done [], x.count))
leaving_at limits clients some others c done (l ∷ rest) lanes i count k n x lt is = (
  l,
  rest,
  refl,
  subst (IsLane limits clients (lane_after (enter_lane c) l)) (sym is) (subst (λ j. IsLane limits clients (lane_after (enter_lane c) l) (get_or lanes j k)) (length-map done (lane_after (enter_and_leave_lane c)) ∙ x.count)
      (zip-middle (IsLane limits clients) (map (lane_after (enter_and_leave_lane c)) done) (lane_after (enter_lane c) l) (map (lane_after (enter_lane c)) rest ++ others) lanes k x.lanes_are)),
)

leaving_next : (limits : Limits) (clients : List (Option ℕ)) (some others : List RelayLane) (c : ℕ) (done left : List RelayLane) (lanes : List LinkedLane) (i : ℕ) (l : RelayLane) (rest : List RelayLane) (after : LinkedLane) → IsLeaving limits clients some others c done left lanes i → left ≡ l ∷ rest
    → IsLane limits clients (lane_after (enter_and_leave_lane c) l) after → IsLeaving limits clients some others c (done ++ l ∷ []) rest (set lanes i after) (i + 1)
leaving_next limits clients some others c done left lanes i l rest after x e r =
    let R = IsLane limits clients in
    let before : AllZip R (map (lane_after (enter_and_leave_lane c)) done ++ lane_after (enter_lane c) l ∷ (map (lane_after (enter_lane c)) rest ++ others)) lanes = subst (λ xs. AllZip R (map (lane_after (enter_and_leave_lane c)) done ++ (map (lane_after (enter_lane c)) xs ++ others)) lanes) e x.lanes_are in
    let now = subst (λ j. AllZip R (map (lane_after (enter_and_leave_lane c)) done ++ lane_after (enter_and_leave_lane c) l ∷ (map (lane_after (enter_lane c)) rest ++ others)) (set lanes j after)) (length-map done (lane_after (enter_and_leave_lane c)) ∙ x.count)
    (zip-middle_set R (map (lane_after (enter_and_leave_lane c)) done) (lane_after (enter_lane c) l) (lane_after (enter_and_leave_lane c) l) (map (lane_after (enter_lane c)) rest ++ others) lanes after before r) in
    record {
      all = x.all ∙ ap (λ xs. done ++ xs) e ∙ sym (append_assoc done (l ∷ []) rest);
      count = omega (arith, length-append done (l ∷ []), x.count);
      lanes_are = subst (λ xs. AllZip R xs (set lanes i after)) (sym (append_assoc (map (lane_after (enter_and_leave_lane c)) done) (lane_after (enter_and_leave_lane c) l ∷ []) (map (lane_after (enter_lane c)) rest ++ others)) ∙ ap (λ xs. xs ++ (map (lane_after (enter_lane c)) rest ++ others)) (sym (map_push (lane_after (enter_and_leave_lane c)) done l))) now;
    }

-- what a retire leaves
pub record IsLeft (c : ℕ) (lane after : Content) : Type 0 where
  pub goes : IsSome (member_with c lane.members) → (h : List Note) → AgreesWith h lane → AgreesWith (h ++ note 0 (Retire c) ∷ []) after
  pub kept : after.limits ≡ lane.limits

left_on : (limits : Limits) (clients : List (Option ℕ)) (c : ℕ) (l : RelayLane) (k : LinkedLane) (after : Content) → IsLane limits clients (lane_after (enter_lane c) l) k → IsLeft c k.lane after → IsLane limits clients (lane_after (enter_and_leave_lane c) l) (record k { lane = after })
left_on limits clients c l k after is leaves =
    let h = l.history in
    let longer : IsContentAfter limits clients (enter_and_leave_lane c h) after = record {
      agrees = leaves.goes (member_there c h k.lane is.on.agrees (member_with c k.lane.members) refl) (enter_lane c h) is.on.agrees;
      limits_are = leaves.kept ∙ is.on.limits_are;
      own = own_left clients c h is.on.own;
    } in
    record { on = longer; link_is = is.link_is }

pub leaving_more : (c count : ℕ) (old lanes : List LinkedLane) (i : ℕ) (k : LinkedLane) (after : Content) → Leaving c count old lanes i → i < count → k ≡ get_or lanes i k → IsLeft c k.lane after → Leaving c count old (set lanes i (record k { lane = after })) (i + 1)
leaving_more c count old lanes i k after so_far lt is done limits clients some others n on =
    let x = so_far limits clients some others n on in
    let at = leaving_at limits clients some others c x.0 x.1 lanes i count k n x.2 lt is in
    (x.0 ++ at.0 ∷ [], at.1, leaving_next limits clients some others c x.0 x.1 lanes i at.0 at.1 (record k { lane = after }) x.2 at.2 (left_on limits clients c at.0 k after at.3 done))

pub leaving_some_more : (c count : ℕ) (lanes : List LinkedLane) (i : ℕ) (k : LinkedLane) (after : Content) → LeavingSome c count lanes i → i < count → k ≡ get_or lanes i k → IsLeft c k.lane after → LeavingSome c count (set lanes i (record k { lane = after })) (i + 1)
leaving_some_more c count lanes i k after x lt is done =
    let at = leaving_at x.0 x.1 x.2 x.3 c x.4 x.5 lanes i count k x.6 x.7 lt is in
    (x.0, x.1, x.2, x.3, x.4 ++ at.0 ∷ [], at.1, x.6, leaving_next x.0 x.1 x.2 x.3 c x.4 x.5 lanes i at.0 at.1 (record k { lane = after }) x.7 at.2 (left_on x.0 x.1 c at.0 k after at.3 done))

-- the row that is to go is the one caller's, and there is a lane at the index
pub leaving_requires : (c count : ℕ) (lanes : List LinkedLane) (i : ℕ) (k : LinkedLane) → LeavingSome c count lanes i → i < count → k ≡ get_or lanes i k → AllByRecursion (λ m. m.client ≡ c → m.by ≡ 0) k.lane.members
leaving_requires c count lanes i k x lt is =
    let at = leaving_at x.0 x.1 x.2 x.3 c x.4 x.5 lanes i count k x.6 x.7 lt is in
    rows_ours (enter_lane c at.0.history) k.lane c at.3.on.agrees (ours_of_own x.1 (enter_lane c at.0.history) at.3.on.own)

pub leaving_within : (c count : ℕ) (lanes : List LinkedLane) (i : ℕ) → LeavingSome c count lanes i → i < count → i < length lanes
leaving_within c count lanes i x lt =
    omega (
      arith,
      zip-length (IsLane x.0 x.1) (map (lane_after (enter_and_leave_lane c)) x.4 ++ (map (lane_after (enter_lane c)) x.5 ++ x.3)) lanes x.7.lanes_are,
      length-append (map (lane_after (enter_and_leave_lane c)) x.4) (map (lane_after (enter_lane c)) x.5 ++ x.3),
      length-append (map (lane_after (enter_lane c)) x.5) x.3,
      length-map x.4 (lane_after (enter_and_leave_lane c)),
      length-map x.5 (lane_after (enter_lane c)),
      ap length x.7.all,
      length-append x.4 x.5,
      x.7.count,
      x.6,
    )

pub leaving_end : (c count : ℕ) (old lanes : List LinkedLane) (i : ℕ) → Leaving c count old lanes i → count ≤ i → (limits : Limits) (clients : List (Option ℕ)) (some : List RelayLane) (others : List RelayLane) → length some ≡ count
    → AreOn limits clients (map (lane_after (enter_lane c)) some ++ others) old → AreOn limits clients (map (lane_after (enter_and_leave_lane c)) some ++ others) lanes
leaving_end c count old lanes i so_far le limits clients some others n on =
    let x = so_far limits clients some others n on in
    at x.0 x.1 x.2
  where
    at : (done left : List RelayLane) → IsLeaving limits clients some others c done left lanes i → AreOn limits clients (map (lane_after (enter_and_leave_lane c)) some ++ others) lanes
    at done [] y =
        let same : some ≡ done = y.all ∙ append-nil done in
        subst (λ xs. AreOn limits clients (map (lane_after (enter_and_leave_lane c)) xs ++ others) lanes) (sym same) y.lanes_are
    at done (h ∷ rest) y = absurd (omega (arith, ap length y.all, length-append done (h ∷ rest), y.count))

-- what a retire answers and leaves
pub left_by : (c : ℕ) (lane after : Content) (result : Result (Unit {0}) NotAdmitted) → MatchResult result (λ _. IsSome (member_with c lane.members)) (λ _. member_with c lane.members ≡ None)
    → OnOk result ((h : List Note) → AgreesWith h lane → AgreesWith (h ++ note 0 (Retire c) ∷ []) after) → after.limits ≡ lane.limits → IsLeft c lane after
left_by c lane after (Ok x) reply goes kept = record { goes = λ some. goes; kept = kept }
left_by c lane after (Err e) reply goes kept = record { goes = λ some. absurd (no_member (member_with c lane.members) reply some); kept = kept }
  where
    no_member : (o : Option Member) → o ≡ None → IsSome o → ⊥
    no_member None e some = search rules
    no_member (Some m) e some = let z : Some m ≡ None = e in cc
