-- Requests that were taken too long ago fail, one by one.
use Rattle.std.specs.Prelude.{ℕ, List, [], ◌∷◌, ◌++◌, map, filter, if◌then◌else◌}
use Rattle.std.specs.List.{flat_map}
use Rattle.smx_history.specs.declared.note.Note.{Note}
use Rattle.smx_history.specs.declared.place.Place.{Place}
use Rattle.smx_history.specs.declared.reply.Failed.{Failed}
use Rattle.smx_history.specs.declared.reply.Failed.TheVariants.{Queued, Late}
use Rattle.smx_history.specs.Entries.{is_up}
use Rattle.smx_history.specs.History.{entries_of}
use Rattle.smx_history.specs.Answering.{failing}
use Rattle.smx_history.specs.Contents.{window_after}
use Rattle.smx_history.specs.Replies.{is_expired, is_present}
use Rattle.smx_lines.specs.Texts.{failed_line, kept_line}
use Rattle.smx_lines.specs.Relay.{moment_on}

-- the requests that were taken on a lane so long ago, and not answered; none on a lane that is down
abbrev pub expired_after : ℕ → ℕ → List Note → List Place
expired_after moment age h = if is_up (entries_of h) then filter (is_expired (moment_on moment h) age) (window_after h) else []

-- whom the failure of a request reaches
abbrev pub failed_to : List Note → Place → Failed
failed_to h q = if is_present q.client h then Queued q.client else Late q.client

abbrev pub or_kept : ℕ → List ℕ → List ℕ
or_kept i [] = kept_line i
or_kept i (octet ∷ octets) = octet ∷ octets

-- these requests fail in this order, each with its line
unfoldable pub expire_on : ℕ → List Place → List Note → List ℕ × List Note
expire_on i qs h = (or_kept i (flat_map (λ q. failed_line (failed_to h q)) qs), h ++ map (failing 0) qs)
