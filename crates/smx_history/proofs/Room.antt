-- That what a lane may still have to store fits: what the code keeps for itself.
use Rattle.std.specs.Prelude.{◌≡◌, ◌+◌, ◌≤◌, ◌<◌, ◌==◌, ℕ, length, map, count_by}
use Rattle.std.specs.List.{AllByRecursion}
use Rattle.smx_history.specs.Prefixes.{RiseAbove}
use Rattle.smx_history.specs.Contents.{Content, Member, size_of}
use Rattle.smx_history.specs.Room.{AreLimits}

-- a member's box has room for the responses to its requests that are queued or taken
abbrev pub FitsBox : Content → Member → Type 0
FitsBox v m = (count_by (λ r. r.client == m.client) v.queue + count_by (λ p. p.client == m.client) v.window + length m.waiting ≤ m.pending) × (m.pending ≤ v.limits.client)

-- what a lane keeps true of its content, so that no call but `new` and `admit` takes memory
pub record KeepsRoom (v : Content) : Type 0 where
  pub limits : AreLimits v.limits
  pub queue : length v.queue ≤ v.limits.queue
  pub window : length v.window ≤ v.limits.window
  pub size : size_of v ≤ v.limits.history
  pub boxes : AllByRecursion (FitsBox v) v.members
  -- nothing is there of a client above the greatest that was admitted
  pub queue_known : (c : ℕ) → v.greatest < c → count_by (λ r. r.client == c) v.queue ≡ 0
  pub window_known : (c : ℕ) → v.greatest < c → count_by (λ p. p.client == c) v.window ≡ 0
  pub members_known : AllByRecursion (λ m. m.client ≤ v.greatest) v.members
  -- each client has one row
  pub clients : RiseAbove 0 (map (λ m. m.client) v.members)
