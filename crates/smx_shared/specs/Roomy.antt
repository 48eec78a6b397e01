-- A call that wants room in a lane's history makes it: where the history is full, the lane is turned over first.
use Rattle.std.specs.Prelude.{◌≡◌, ◌&&◌, ℕ, Bool, true, false, not, List, [], ◌∷◌, if◌then◌else◌}
use Rattle.smx_history.specs.declared.note.Note.{Note}
use Rattle.smx_history.specs.History.{shift}
use Rattle.smx_history.specs.Contents.{Content}
use Rattle.smx_history.specs.Replies.{has_room, after_shift}
use Rattle.smx_lane.specs.declared.call.Call.{Call}
use Rattle.smx_lane.specs.declared.call.Call.TheVariants as call

-- the lane, turned over or not
abbrev pub turned_where : Bool → Content → Content
turned_where full v = if full then after_shift v else v

-- what a seat notes of that
abbrev pub shifts_where : Bool → ℕ → List Note
shifts_where full by = if full then shift by ∷ [] else []

-- an admit and an accept want room in the history, for themselves and all that may follow
abbrev pub wants_room : Call → Bool
wants_room (call.Admit by c) = true
wants_room (call.Accept by r) = true
wants_room _ = false

-- the call wants room, and the history is full
abbrev pub finds_full : Content → Call → Bool
finds_full v made = wants_room made && not (has_room v)

-- the lane that the call meets
abbrev pub lane_met : Content → Call → Content
lane_met v made = turned_where (finds_full v made) v

-- what the seat notes before the call's own notes
abbrev pub shifts_before : ℕ → Content → Call → List Note
shifts_before by v made = shifts_where (finds_full v made) by

-- what the lane holds, queued, under way, waiting and admitted, takes all the room itself
abbrev pub IsCrowded : Content → Type 0
IsCrowded v = has_room (after_shift v) ≡ false
