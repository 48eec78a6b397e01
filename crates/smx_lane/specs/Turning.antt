-- What becomes of the entries that a lane has stored.
use Rattle.std.specs.Prelude.{◌≡◌, ◌<◌, ◌≤◌, ◌++◌, ◌∷◌, [], ℕ, List, length, Option, Some, None}
use Rattle.smx_history.specs.declared.entry.Entry.{Entry}
use Rattle.smx_history.specs.declared.note.Note.{Note}
use Rattle.smx_history.specs.History.{shift}
use Rattle.smx_history.specs.Contents.{Content, AgreesWith}
use Rattle.smx_history.specs.Replies.{after_shift}

-- all that was stored is handed out and the lane goes on with none, or fewer than the least are stored and nothing changes
abbrev pub IsTurned : Content → ℕ → ℕ → Option (List Entry) → Content → Type 0
IsTurned old by least None new = (length old.entries < least) × (new ≡ old)
IsTurned old by least (Some es) new =
    (least ≤ length old.entries) × (es ≡ old.entries) × (new ≡ after_shift old)
    × ((h : List Note) → AgreesWith h old → AgreesWith (h ++ shift by ∷ []) new)
