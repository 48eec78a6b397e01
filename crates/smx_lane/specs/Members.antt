-- The clients of a lane, as a list of rows. No clause of a public function cites these.
use Rattle.std.specs.Prelude.{ℕ, List, length, sum_by, nat_le, not, Option, Some, None, if◌then◌else◌}
use Rattle.smx_history.specs.declared.reply.Refusal.{Refusal}
use Rattle.smx_history.specs.declared.reply.Refusal.TheVariants.{NotAdmitted, ClientFull, QueueFull, HistoryFull, Down}
use Rattle.smx_history.specs.Contents.{Content, Member}
use Rattle.smx_history.specs.Replies.{has_room, member_with}

-- the rows, and how many places the box of each has
pub record Clients : Type 0 where
  pub places : ℕ
  pub members : List Member

-- the responses that wait in all boxes
abbrev pub waiting_of : List Member → ℕ
waiting_of ms = sum_by (λ m. length m.waiting) ms

-- the first reason to refuse a request of a client with this row, where that of the lane comes last
abbrev pub refusal_by : ℕ → Option Refusal → Option Member → Option Refusal
refusal_by places by_lane None = Some NotAdmitted
refusal_by places by_lane (Some m) = if nat_le places m.pending then Some ClientFull else by_lane

abbrev pub row_refusal : Clients → Option Refusal → ℕ → Option Refusal
row_refusal v by_lane client = refusal_by v.places by_lane (member_with client v.members)

-- the first reason for which a lane refuses the requests of all clients
abbrev pub lane_refusal : Content → Option Refusal
lane_refusal v =
    if nat_le v.limits.queue (length v.queue) then Some QueueFull
    else if not (has_room v) then Some HistoryFull
    else if not v.up then Some Down
    else None
