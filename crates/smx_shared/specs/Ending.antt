-- How an exchange ends.
use Rattle.std.specs.Prelude.{ℕ, ◌<◌, List, length, take}
use Rattle.std.specs.List.{AllZip}
use Rattle.smx_lock.specs.Fronts.{Front, IsLast}
use Rattle.smx_history.specs.declared.limits.Limits.{Limits}
use Rattle.smx_history.specs.declared.note.Note.{Note}
use Rattle.smx_history.specs.Contents.{Content}
use Rattle.smx_lane.specs.Kept.{writer, limits_of, suits}

-- these lanes are those of the fronts, in order: each agrees with a history that begins with all that its front has seen, and has just the front's own notes under its number
abbrev pub AreGiven : List (Front Note Limits) → List Content → Type 0
AreGiven fronts lanes = AllZip (IsLast writer limits_of suits) fronts lanes

-- the lane named was not in its place, and those before it are given
abbrev pub GivesBefore : ℕ → List (Front Note Limits) → List Content → Type 0
GivesBefore lane fronts lanes = (lane < length fronts) × AreGiven (take lane fronts) lanes
