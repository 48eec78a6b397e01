-- The note of a take.
use Rattle.std.specs.Prelude.{ℕ}
use Rattle.smx_history.specs.declared.note.Note.{Note}
use Rattle.smx_history.specs.declared.note.Event.TheVariants.{Take}
use Rattle.smx_history.specs.History.{note}
use Rattle.smx_history.specs.Contents.{Content}
use Rattle.smx_history.specs.Replies.{moment_at}
use Rattle.smx_lane.specs.declared.sent.Sent.{Sent}

-- the request was taken, bears that number upstream, and was taken at the moment that counts
abbrev pub taking : Content → ℕ → ℕ → Sent → Note
taking old by now sent = note by (Take sent.request.client sent.request.ordinal sent.upstream (moment_at old now))
