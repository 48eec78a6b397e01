-- What becomes of a response, and of a request that fails.
use Rattle.std.specs.Prelude.{◌≡◌, ◌++◌, ◌∷◌, [], ℕ, List, Option, Some, None, IsSome, slice_get}
use Rattle.std.specs.List.{find}
use Rattle.smx_pdu.specs.declared.pdu.Pdu.{Pdu}
use Rattle.smx_history.specs.declared.place.Place.{Place}
use Rattle.smx_history.specs.declared.note.Note.{Note}
use Rattle.smx_history.specs.declared.response.Response.{Response}
use Rattle.smx_history.specs.declared.note.Event.TheVariants as event
use Rattle.smx_history.specs.declared.reply.Answered.{Answered}
use Rattle.smx_history.specs.declared.reply.Answered.TheVariants.{Queued, Late, Unknown}
use Rattle.smx_history.specs.History.{note}
use Rattle.smx_history.specs.Contents.{Content, Member, AgreesWith}
use Rattle.smx_history.specs.declared.reply.Failed.{Failed}
use Rattle.smx_history.specs.declared.reply.Failed.TheVariants as failed
use Rattle.smx_history.specs.Failures.{failure_command}
use Rattle.smx_history.specs.Replies.{answers_place, member_with, waiting_in, expired_in}

-- queued where the client of the place is present, late where it has retired, unknown where no place is answered
abbrev pub IsAnswered : Content → ℕ → Pdu → Answered → Content → Type 0
IsAnswered old by p (Queued c) new =
    (q : Place) × (m : Member) × (find (answers_place p) old.window ≡ Some q) × (q.client ≡ c) × (member_with c old.members ≡ Some m)
    × ((h : List Note) → AgreesWith h old → AgreesWith (h ++ note by (event.Answer q.client q.ordinal p) ∷ []) new)
IsAnswered old by p (Late c) new =
    (q : Place) × (find (answers_place p) old.window ≡ Some q) × (q.client ≡ c) × (member_with c old.members ≡ None)
    × ((h : List Note) → AgreesWith h old → AgreesWith (h ++ note by (event.Late q.client q.ordinal p.number p.command) ∷ []) new)
IsAnswered old by p (Unknown back) new = (find (answers_place p) old.window ≡ None) × (back ≡ p) × (new ≡ old)

-- the response that a row gives next
abbrev pub oldest_in : Option Member → Option Response
oldest_in row = slice_get (waiting_in row) 0

-- the oldest response, or none where none waits or there is no row
abbrev pub IsCollected : Content → ℕ → ℕ → Option Pdu → Content → Type 0
IsCollected old by c None new = (oldest_in (member_with c old.members) ≡ None) × (new ≡ old)
IsCollected old by c (Some p) new =
    (r : Response) × (oldest_in (member_with c old.members) ≡ Some r) × (r.pdu ≡ p)
    × ((h : List Note) → AgreesWith h old → AgreesWith (h ++ note by (event.Collect c r.ordinal) ∷ []) new)

-- the note that the request of a place failed
abbrev pub failing : ℕ → Place → Note
failing by q = note by (event.Fail q.client q.ordinal q.upstream (failure_command q.command))

-- the request of that place failed: what tells its client waits for it where it is present
abbrev pub IsGivenUp : Content → ℕ → Place → Failed → Content → Type 0
IsGivenUp old by q (failed.Queued c) new =
    (q.client ≡ c) × IsSome (member_with c old.members) × ((h : List Note) → AgreesWith h old → AgreesWith (h ++ failing by q ∷ []) new)
IsGivenUp old by q (failed.Late c) new =
    (q.client ≡ c) × (member_with c old.members ≡ None) × ((h : List Note) → AgreesWith h old → AgreesWith (h ++ failing by q ∷ []) new)

-- that of the window's first place (a window stands in any order)
abbrev pub IsFailed : Content → ℕ → Failed → Content → Type 0
IsFailed old by failed new = (q : Place) × (slice_get old.window 0 ≡ Some q) × IsGivenUp old by q failed new

-- that of the first place that was taken so long ago
abbrev pub IsExpired : Content → ℕ → ℕ → ℕ → Failed → Content → Type 0
IsExpired old by now age failed new = (q : Place) × (expired_in old now age ≡ Some q) × IsGivenUp old by q failed new
