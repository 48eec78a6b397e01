-- What the calls answer, and what they leave. Of a history they are said of the content that it leaves.
use Rattle.std.specs.Prelude.{◌+◌, ◌==◌, ◌&&◌, nat_le, max, ℕ, Bool, not, List, [], length, Option, Some, None, is_some, if◌then◌else◌}
use Rattle.std.specs.List.{find}
use Rattle.smx_history.specs.declared.reply.AdmitFault.{AdmitFault}
use Rattle.smx_history.specs.declared.reply.AdmitFault.TheVariants.{Known, HistoryFull as AdmitHistoryFull}
use Rattle.smx_history.specs.declared.reply.Refusal.{Refusal}
use Rattle.smx_history.specs.declared.reply.Refusal.TheVariants.{NotAdmitted, ClientFull, QueueFull, HistoryFull, Down}
use Rattle.smx_pdu.specs.declared.pdu.Pdu.{Pdu}
use Rattle.smx_pdu.specs.Command.{is_response_to}
use Rattle.smx_history.specs.declared.place.Place.{Place}
use Rattle.smx_history.specs.declared.response.Response.{Response}
use Rattle.smx_history.specs.declared.reply.TakeRefusal.{TakeRefusal}
use Rattle.smx_history.specs.declared.reply.TakeRefusal.TheVariants.{QueueEmpty, WindowFull, Down as TakeDown}
use Rattle.smx_history.specs.declared.reply.FailRefusal.{FailRefusal}
use Rattle.smx_history.specs.declared.reply.FailRefusal.TheVariants.{Up, WindowEmpty}
use Rattle.smx_history.specs.declared.reply.UpRefusal.{UpRefusal}
use Rattle.smx_history.specs.declared.reply.UpRefusal.TheVariants.{AlreadyUp, WindowNotEmpty, HistoryFull as UpHistoryFull}
use Rattle.smx_history.specs.declared.note.Note.{Note}
use Rattle.smx_history.specs.Contents.{Content, Member, members_after, size_of}

-- the client's row
abbrev pub member_with : ℕ → List Member → Option Member
member_with c ms = find (λ m. m.client == c) ms

-- the client was admitted and has not retired
unfoldable pub is_present : ℕ → List Note → Bool
is_present c h = is_some (member_with c (members_after h))

-- the responses that wait in a row, the oldest first; none where there is no row
abbrev pub waiting_in : Option Member → List Response
waiting_in None = []
waiting_in (Some m) = m.waiting

-- those that wait for the client after a history
unfoldable pub waiting_after : List Note → ℕ → List Response
waiting_after h c = waiting_in (member_with c (members_after h))

-- there is room for one more accept or admit, and all that follows from it
abbrev pub has_room : Content → Bool
has_room v = nat_le (size_of v + 4) v.limits.history

-- the first reason to refuse to admit a client, whether or not there is memory
abbrev pub admit_refusal : Content → ℕ → Option AdmitFault
admit_refusal v c =
    if nat_le c v.greatest then Some Known
    else if not (has_room v) then Some AdmitHistoryFull
    else None

-- the first reason to refuse a request of a client with this row
abbrev pub refusal_for : Content → Option Member → Option Refusal
refusal_for v None = Some NotAdmitted
refusal_for v (Some m) =
    if nat_le v.limits.client m.pending then Some ClientFull
    else if nat_le v.limits.queue (length v.queue) then Some QueueFull
    else if not (has_room v) then Some HistoryFull
    else if not v.up then Some Down
    else None

-- the first reason to refuse a request of that client
abbrev pub accept_refusal : Content → ℕ → Option Refusal
accept_refusal v c = refusal_for v (member_with c v.members)

-- the first reason to take nothing
abbrev pub take_refusal : Content → Option TakeRefusal
take_refusal v =
    if length v.queue == 0 then Some QueueEmpty
    else if nat_le v.limits.window (length v.window) then Some WindowFull
    else if not v.up then Some TakeDown
    else None

-- the first reason why no request fails
abbrev pub fail_refusal : Content → Option FailRefusal
fail_refusal v =
    if v.up then Some Up
    else if length v.window == 0 then Some WindowEmpty
    else None

-- the first reason why the lane does not come up
abbrev pub up_refusal : Content → Option UpRefusal
up_refusal v =
    if v.up then Some AlreadyUp
    else if not (length v.window == 0) then Some WindowNotEmpty
    else if not (has_room v) then Some UpHistoryFull
    else None

-- the place that a response answers: it has its number, and its command answers the request's (SMPP 3.4, section 5.1.4)
abbrev pub answers_place : Pdu → Place → Bool
answers_place p q = (q.upstream == p.number) && is_response_to q.command p.command

-- the moment that counts where this one is handed in: one below that of the last take counts as that
abbrev pub moment_at : Content → ℕ → ℕ
moment_at v now = max now v.latest

-- the request of the place was taken at least so long before, in milliseconds
abbrev pub is_expired : ℕ → ℕ → Place → Bool
is_expired at age q = nat_le (q.moment + age) at

-- the first place whose request was
abbrev pub expired_in : Content → ℕ → ℕ → Option Place
expired_in v now age = find (is_expired (moment_at v now) age) v.window

-- what a shift leaves: the entries were handed out
abbrev pub after_shift : Content → Content
after_shift v = record v { entries = [] }
