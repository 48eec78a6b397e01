-- How an exchange is made.
use Rattle.std.specs.Prelude.{◌≡◌, ◌<◌, ◌≤◌, ◌^◌, ℕ, List, [], length, map, slice_get, Option, Some, None}
use Rattle.std.specs.List.{AllByRecursion}
use Rattle.smx_lock.specs.Fronts.{Front, LockId, first_front}
use Rattle.smx_history.specs.declared.limits.Limits.{Limits}
use Rattle.smx_history.specs.declared.note.Note.{Note}
use Rattle.smx_history.specs.Room.{AreLimits}
use Rattle.smx_shared.specs.declared.fault.MakeFault.{MakeFault}
use Rattle.smx_shared.specs.declared.fault.MakeFault.TheVariants.{BadLanes, BadLimits, NoMemory, Spent}
use Rattle.smx_shared.specs.declared.starts.Starts.{Starts}
use Rattle.smx_shared.specs.Views.{DoorView, TapView, UnmadeView, locks_of}
use Rattle.smx_shared.specs.Serving.{SplitServes, SplitFails}
use Rattle.smx_shared.specs.Rounds.{Makes}

pub record AreStarts (s : Starts) : Type 0 where
  pub ticket : s.ticket ≤ 2 ^ 62
  pub client : (0 < s.client) × (s.client ≤ 2 ^ 62)
  pub ordinal : (0 < s.ordinal) × (s.ordinal ≤ 2 ^ 62)

-- the first ticket, client and ordinal
abbrev pub first_starts : Starts
first_starts = record { ticket = 0; client = 1; ordinal = 1 }

abbrev pub AreLanes : ℕ → Type 0
AreLanes lanes = (0 < lanes) × (lanes ≤ 16)

-- the first of the refusals that stands; where none of the limits' does, memory was wanted, or a lane's first seat, which comes back, made no other
abbrev pub IsMakeFault : ℕ → Limits → MakeFault → Option (Front Note Limits) → Type 0
IsMakeFault lanes limits BadLanes None = ¬ (AreLanes lanes)
IsMakeFault lanes limits BadLimits None = AreLanes lanes × ¬ (AreLimits limits)
IsMakeFault lanes limits NoMemory None = AreLanes lanes × AreLimits limits
IsMakeFault lanes limits Spent (Some f) = AreLanes lanes × AreLimits limits × SplitFails (first_front f.lock) f
IsMakeFault lanes limits _ _ = ⊥

abbrev pub IsUnmadeFor : ℕ → Limits → UnmadeView → Type 0
IsUnmadeFor lanes limits u = IsMakeFault lanes limits u.fault u.seat

-- some seat of these made no other, and came back
abbrev pub IsStuck : List (Front Note Limits) → Front Note Limits → Type 0
IsStuck fronts g = (k : ℕ) × (f : Front Note Limits) × (slice_get fronts k ≡ Some f) × (g.lock ≡ f.lock) × SplitFails f g

-- so many locks, each of a lane under these limits
pub record AreLocks (lanes : ℕ) (limits : Limits) (locks : List (LockId Limits)) : Type 0 where
  pub count : length locks ≡ lanes
  pub each : AllByRecursion (λ l. l.fixed ≡ limits) locks

-- on each lane below `to` one hold of the first seat made the tap's
abbrev pub Tapped : ℕ → List (Front Note Limits) → List (Front Note Limits) → List TapView → Type 0
Tapped to old new taps = Makes (λ k f g t. (t.lane ≡ k) × SplitServes f g t.front) to old new taps

-- the lanes are in range, and each has a lock under the limits, whose first seat is the door's and made the tap's in one hold
pub record Opens (lanes : ℕ) (limits : Limits) (starts : Starts) (locks : List (LockId Limits)) (door : DoorView) (taps : List TapView) : Type 0 where
  pub ranges : AreLanes lanes × AreLimits limits
  pub made : AreLocks lanes limits locks
  pub numbers : (door.next ≡ starts.client) × (door.ordinal ≡ starts.ordinal)
  pub seats : locks_of door.fronts ≡ locks
  pub tapped : Tapped lanes (map first_front locks) door.fronts taps

-- the seat of a lane on which nothing was noted yet, one of two
abbrev pub IsUnused : Front Note Limits → Type 0
IsUnused f = (f.seen ≡ []) × (f.mine ≡ []) × (f.seats ≡ 2)
