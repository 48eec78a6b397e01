-- A client leaves each lane where it is present.
use Rattle.std.proofs.Common.{◌≡◌, ◌<◌, ◌≤◌, ◌+◌, ℕ, List, [], ◌∷◌, ◌++◌, length, map, set, get_or, refl, sym, ◌∙◌, subst, Option, Some, None, Result, Ok, Err, MatchResult, OnOk, OnErr, IsSome, rules}
use Rattle.smx_history.specs.declared.limits.Limits.{Limits}
use Rattle.smx_history.specs.declared.note.Note.{Note}
use Rattle.smx_history.specs.declared.note.Event.TheVariants.{Retire}
use Rattle.smx_history.specs.History.{note}
use Rattle.smx_history.specs.Contents.{AgreesWith, Content, Member}
use Rattle.smx_history.specs.Replies.{member_with}
use Rattle.smx_history.proofs.Rows.{absent, found_present}
use Rattle.smx_lane.specs.declared.fault.NotAdmitted.{NotAdmitted}
use Rattle.smx_lines.specs.declared.state.LinkedLane.{LinkedLane}
use Rattle.smx_lines.specs.Relay.{RelayLane, lane_after, leave_lane}
use Rattle.smx_lines.specs.Lanes.{IsContentAfter, IsLane}
use Rattle.smx_lines.specs.States.{AreOn}
use Rattle.smx_lines.specs.Private.Lanes.{AreReached}
use Rattle.smx_lines.proofs.Lanes.{zip-get, zip-set, lane_goes}
use Rattle.smx_lines.proofs.Passing.{IsPassing, passing_start, passing_at, passing_more, passing_end}
use Rattle.smx_lines.proofs.OwnNotes.{own_retired}

-- a lane that the client leaves
abbrev pub LeavesLane : ℕ → Content → Content → Type 0
LeavesLane c lane after = (limits : Limits) (clients : List (Option ℕ)) (h : List Note) → IsContentAfter limits clients h lane → IsContentAfter limits clients (leave_lane c h) after

leaves_found : (c : ℕ) (lane after : Content) (o : Option Member) → member_with c lane.members ≡ o → IsSome o → ((h : List Note) → AgreesWith h lane → AgreesWith (h ++ note 0 (Retire c) ∷ []) after) → after.limits ≡ lane.limits → LeavesLane c lane after
leaves_found c lane after None found some goes kept limits clients h on = absurd (search rules)
leaves_found c lane after (Some m) found some goes kept limits clients h on =
    rw (found_present h lane c m on.agrees found) (record { agrees = goes h on.agrees; limits_are = kept ∙ on.limits_are; own = own_retired clients c h on.own })

leaves_absent : (c : ℕ) (lane after : Content) → member_with c lane.members ≡ None → after ≡ lane → LeavesLane c lane after
leaves_absent c lane after none same limits clients h on = rw (absent h lane c on.agrees none) (subst (IsContentAfter limits clients h) (sym same) on)

-- what a retire answers and leaves
pub leaves_one : (c : ℕ) (lane after : Content) (result : Result (Unit {0}) NotAdmitted) → MatchResult result (λ _. IsSome (member_with c lane.members)) (λ _. member_with c lane.members ≡ None)
    → OnOk result ((h : List Note) → AgreesWith h lane → AgreesWith (h ++ note 0 (Retire c) ∷ []) after) → OnErr result (after ≡ lane) → after.limits ≡ lane.limits → LeavesLane c lane after
leaves_one c lane after (Ok x) reply goes same kept = leaves_found c lane after (member_with c lane.members) refl reply goes kept
leaves_one c lane after (Err e) reply goes same kept = leaves_absent c lane after reply same

-- the client left the first i lanes
abbrev pub LeavingAll : ℕ → List LinkedLane → List LinkedLane → ℕ → Type 0
LeavingAll c old lanes i = (limits : Limits) (clients : List (Option ℕ)) (ls : List RelayLane) → AreOn limits clients ls old
    → (done : List RelayLane) × (others : List RelayLane) × IsPassing (IsLane limits clients) (lane_after (leave_lane c)) ls done others lanes i

pub leaving_all_start : (c : ℕ) (lanes : List LinkedLane) → LeavingAll c lanes lanes 0
leaving_all_start c lanes limits clients ls on = ([], ls, passing_start (IsLane limits clients) (lane_after (leave_lane c)) ls lanes on)

pub leaving_all_more : (c : ℕ) (old lanes : List LinkedLane) (i : ℕ) (k : LinkedLane) (after : Content) → LeavingAll c old lanes i → i < length lanes → k ≡ get_or lanes i k → LeavesLane c k.lane after → LeavingAll c old (set lanes i (record k { lane = after })) (i + 1)
leaving_all_more c old lanes i k after so_far lt is leaves limits clients ls on =
    let x = so_far limits clients ls on in
    let at = passing_at (IsLane limits clients) (lane_after (leave_lane c)) ls x.0 x.1 lanes i k x.2 lt in
    let there : IsLane limits clients at.0 k = subst (IsLane limits clients at.0) (sym is) at.3 in
    (x.0 ++ at.0 ∷ [], at.1, passing_more (IsLane limits clients) (lane_after (leave_lane c)) ls x.0 x.1 lanes i at.0 at.1 (record k { lane = after }) x.2 at.2 (lane_goes limits clients (leave_lane c) at.0 k after there (leaves limits clients at.0.history there.on)))

pub leaving_all_end : (c : ℕ) (old lanes : List LinkedLane) (i : ℕ) → LeavingAll c old lanes i → length lanes ≤ i → (limits : Limits) (clients : List (Option ℕ)) (ls : List RelayLane) → AreOn limits clients ls old → AreOn limits clients (map (lane_after (leave_lane c)) ls) lanes
leaving_all_end c old lanes i so_far le limits clients ls on =
    let x = so_far limits clients ls on in
    let end = passing_end (IsLane limits clients) (lane_after (leave_lane c)) ls x.0 x.1 lanes i x.2 le in
    end.1

pub still_reached : (c : ℕ) (lanes : List LinkedLane) (i : ℕ) (k : LinkedLane) (after : Content) → AreReached lanes → i < length lanes → k ≡ get_or lanes i k → LeavesLane c k.lane after → AreReached (set lanes i (record k { lane = after }))
still_reached c lanes i k after r lt is leaves =
    let w = zip-get (IsLane r.0 r.1) r.2 lanes i k r.3 lt in
    let on : IsLane r.0 r.1 w.0 k = subst (IsLane r.0 r.1 w.0) (sym is) w.2 in
    (r.0, r.1, set r.2 i (lane_after (leave_lane c) w.0), zip-set (IsLane r.0 r.1) r.2 lanes i (lane_after (leave_lane c) w.0) (record k { lane = after }) r.3 (lane_goes r.0 r.1 (leave_lane c) w.0 k after on (leaves r.0 r.1 w.0.history on.on)))
