-- How much a lane holds.
use Rattle.std.specs.Prelude.{◌≡◌, ◌≤◌, ℕ, List, [], length, slice_get, Option, Some, None}
use Rattle.smx_history.specs.declared.place.Place.{Place}
use Rattle.smx_history.specs.Contents.{Content}
use Rattle.smx_lane.specs.declared.load.Load.{Load}

-- the earliest moment at which one of the requests was taken, where there is one
abbrev pub IsEarliest : List Place → Option ℕ → Type 0
IsEarliest taken (Some moment) =
    ((k : ℕ) × (q : Place) × (slice_get taken k ≡ Some q) × (q.moment ≡ moment))
    × ((k : ℕ) (q : Place) → slice_get taken k ≡ Some q → moment ≤ q.moment)
IsEarliest taken None = taken ≡ []

-- how much is there
pub record IsLoad (v : Content) (load : Load) : Type 0 where
  pub queued : load.queued ≡ length v.queue
  pub unanswered : load.unanswered ≡ length v.window
  pub earliest : IsEarliest v.window load.earliest
  pub entries : load.entries ≡ length v.entries
