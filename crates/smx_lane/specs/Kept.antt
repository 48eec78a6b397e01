-- What a lock knows of a lane.
use Rattle.std.specs.Prelude.{ℕ, List}
use Rattle.smx_history.specs.declared.limits.Limits.{Limits}
use Rattle.smx_history.specs.declared.note.Note.{Note}
use Rattle.smx_history.specs.Contents.{Content, AgreesWith}

-- the seat that made a note
abbrev pub writer : Note → ℕ
writer n = n.by

-- the part of a lane that never changes
abbrev pub limits_of : Content → Limits
limits_of v = v.limits

-- the lane agrees with the history
abbrev pub suits : Content → List Note → Type 0
suits v h = AgreesWith h v
