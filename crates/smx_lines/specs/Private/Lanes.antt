-- One lane or all of them, before and after what a private function does.
use Rattle.std.specs.Prelude.{◌≡◌, ◌<◌, ◌++◌, ℕ, List, Bool, false, map, Option, Some, None, is_none, position, is_some, take, drop, length}
use Rattle.std.specs.List.{AllByRecursion}
use Rattle.smx_history.specs.declared.limits.Limits.{Limits}
use Rattle.smx_history.specs.declared.note.Note.{Note}
use Rattle.smx_history.specs.History.{entries_of}
use Rattle.smx_history.specs.Contents.{Content, AgreesWith, content_after}
use Rattle.smx_history.specs.Replies.{accept_refusal, admit_refusal}
use Rattle.smx_lines.specs.declared.state.LinkedLane.{LinkedLane}
use Rattle.smx_lines.specs.Relay.{RelayLane, enter_lane, lane_after, leave_lane}
use Rattle.smx_lines.specs.States.{AreOn}

-- a turn on a lane printed the text, and took the lane to what the longer history leaves
pub record TurnsLane (x : List ℕ × List Note) (old new : Content) (written : List ℕ) : Type 0 where
  pub text : written ≡ x.0
  pub agrees : AgreesWith x.1 new
  pub limits_are : new.limits ≡ old.limits

-- each entry is the one caller's
abbrev pub AreOurs : List Note → Type 0
AreOurs h = AllByRecursion (λ e. e.by ≡ 0) (entries_of h)

abbrev pub accepts_in : ℕ → Option LinkedLane → Bool
accepts_in c None = false
accepts_in c (Some l) = is_none (accept_refusal l.lane c)

-- each row of the client has a smaller ordinal, and is the one caller's
abbrev pub MayAcceptNext : ℕ → ℕ → LinkedLane → Type 0
MayAcceptNext c n l = AllByRecursion (λ m. m.client ≡ c → (m.last < n) × (m.by ≡ 0)) l.lane.members

-- the client left each lane
abbrev pub HasLeftLanes : ℕ → List LinkedLane → List LinkedLane → Type 0
HasLeftLanes c old new = (limits : Limits) (clients : List (Option ℕ)) (ls : List RelayLane) → AreOn limits clients ls old → AreOn limits clients (map (lane_after (leave_lane c)) ls) new

-- the client was admitted on each lane, or on those before the first that refuses it
abbrev pub EntersLanes : Limits → List (Option ℕ) → List RelayLane → ℕ → Option ℕ → List LinkedLane → Type 0
EntersLanes limits clients ls c None lanes =
    (position (λ l. is_some (admit_refusal (content_after limits l.history) c)) ls ≡ None) × AreOn limits clients (map (lane_after (enter_lane c)) ls) lanes
EntersLanes limits clients ls c (Some i) lanes =
    (position (λ l. is_some (admit_refusal (content_after limits l.history) c)) ls ≡ Some i)
    × AreOn limits clients (map (lane_after (enter_lane c)) (take i ls) ++ drop i ls) lanes

-- the lanes agree with some, and the client has entered on so many of them
abbrev pub HaveEntered : ℕ → ℕ → List LinkedLane → Type 0
HaveEntered c count lanes =
    (limits : Limits) × (clients : List (Option ℕ)) × (some : List RelayLane) × (others : List RelayLane) × (length some ≡ count)
    × AreOn limits clients (map (lane_after (enter_lane c)) some ++ others) lanes

-- the lanes agree with some
abbrev pub AreReached : List LinkedLane → Type 0
AreReached lanes = (limits : Limits) × (clients : List (Option ℕ)) × (ls : List RelayLane) × AreOn limits clients ls lanes
