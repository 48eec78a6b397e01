-- What private functions ask and promise: the notes of one hold, and a turn of one lane. No contract
-- of a public function cites this file.
use Rattle.std.specs.Prelude.{◌≡◌, ◌<◌, ◌≤◌, ◌+◌, ◌^◌, ℕ, Bool, List, [], ◌∷◌, ◌++◌, Option, Some, None, Result, Ok, Err, slice_get, All, map, length, true, false}
use Rattle.std.specs.Global.{Vec}
use Rattle.std.specs.List.{AllByRecursion}
use Rattle.smx_lock.specs.Fronts.{Front, Hold, Finds, IsSpent}
use Rattle.smx_lock.specs.declared.faults.Spent.{Spent}
use Rattle.smx_history.specs.declared.limits.Limits.{Limits}
use Rattle.smx_history.specs.declared.note.Note.{Note}
use Rattle.smx_history.specs.declared.note.Event.TheVariants as event
use Rattle.smx_history.specs.declared.request.Request.{Request}
use Rattle.smx_pdu.specs.declared.pdu.Pdu.{Pdu}
use Rattle.std.specs.List.{find}
use Rattle.smx_history.specs.declared.place.Place.{Place}
use Rattle.smx_history.specs.declared.response.Response.{Response}
use Rattle.smx_history.specs.declared.reply.Answered.TheVariants as answered
use Rattle.smx_history.specs.Answering.{oldest_in, failing}
use Rattle.smx_history.specs.Replies.{answers_place, member_with, expired_in}
use Rattle.smx_lane.specs.declared.call.Call.TheVariants as call
use Rattle.smx_lane.specs.declared.call.Reply.TheVariants as reply
use Rattle.smx_history.specs.Entries.{accepts_of, is_admitted, is_retired}
use Rattle.smx_history.specs.History.{note, shift, requests, entries_of}
use Rattle.smx_history.specs.Contents.{Content, AgreesWith}
use Rattle.smx_lane.specs.declared.call.Call.{Call}
use Rattle.smx_lane.specs.declared.call.Reply.{Reply}
use Rattle.smx_lane.specs.Taking.{taking}
use Rattle.smx_lane.specs.declared.sent.Sent.{Sent}
use Rattle.smx_lane.specs.declared.settled.Settled.{Settled}
use Rattle.smx_lane.specs.Calls.{IsReply, GoesOn, Keeps, Ran}
use Rattle.smx_lane.specs.Kept.{writer, limits_of, suits}
use Rattle.smx_shared.specs.declared.offer.Offer.{Offer}
use Rattle.smx_shared.specs.declared.batch.Collected.{Collected}
use Rattle.smx_shared.specs.declared.batch.Takings.{Takings}
use Rattle.smx_shared.specs.Batches.{collect_calls, collect_replies, CollectEnds, octets_of_responses, take_calls, take_replies, TakeEnds, octets_of_requests, octets_with, answer_calls, answer_replies, answers_of}
use Rattle.smx_shared.specs.Ports.{IsMemberBy}
use Rattle.smx_shared.specs.Roomy.{lane_met, shifts_before, shifts_where}
use Rattle.smx_shared.specs.declared.accepting.Landings.{Landings as Landed}
use Rattle.smx_shared.specs.Landings.{LandEach, LandsServe, accepted_each}

abbrev pub answer_notes : ℕ → Pdu → Option Place → List Note
answer_notes by p (Some q) = note by (event.Answer q.client q.ordinal p) ∷ []
answer_notes by p None = []

abbrev pub late_notes : ℕ → Pdu → Option Place → List Note
late_notes by p (Some q) = note by (event.Late q.client q.ordinal p.number p.command) ∷ []
late_notes by p None = []

abbrev pub collect_notes : ℕ → ℕ → Option Response → List Note
collect_notes by c (Some r) = note by (event.Collect c r.ordinal) ∷ []
collect_notes by c None = []

abbrev pub fail_notes : ℕ → Option Place → List Note
fail_notes by (Some q) = failing by q ∷ []
fail_notes by None = []

-- the notes of a call that the lane gave this reply
abbrev pub notes_for : Content → Call → Reply → List Note
notes_for old (call.Admit by c) (reply.Admitted (Ok _)) = note by (event.Admit c) ∷ []
notes_for old (call.Accept by r) (reply.Accepted (Ok _)) = note by (event.Accept r) ∷ []
notes_for old (call.Take by now) (reply.Taken (Ok s)) = taking old by now s ∷ []
notes_for old (call.Answer by p) (reply.Answered (answered.Queued c)) = answer_notes by p (find (answers_place p) old.window)
notes_for old (call.Answer by p) (reply.Answered (answered.Late c)) = late_notes by p (find (answers_place p) old.window)
notes_for old (call.Collect by c) (reply.Collected (Some p)) = collect_notes by c (oldest_in (member_with c old.members))
notes_for old (call.Retire by c) (reply.Retired (Ok _)) = note by (event.Retire c) ∷ []
notes_for old (call.TurnOver by least) (reply.TurnedOver (Ok (Some list))) = shift by ∷ []
notes_for old (call.Down by) (reply.WentDown (Ok _)) = note by event.Down ∷ []
notes_for old (call.Fail by) (reply.Failed (Ok _)) = fail_notes by (slice_get old.window 0)
notes_for old (call.FailExpired by now age) (reply.Expired (Ok _)) = fail_notes by (expired_in old now age)
notes_for old (call.Up by) (reply.CameUp (Ok _)) = note by event.Up ∷ []
notes_for old _ _ = []

-- the notes of a call on the lane that it meets
abbrev pub own_notes : Content → Call → Reply → List Note
own_notes old call reply = notes_for (lane_met old call) call reply

-- the notes of the hold in which the seat with this number makes the call
abbrev pub hold_notes : ℕ → Content → Call → Reply → List Note
hold_notes by old call reply = shifts_before by old call ++ own_notes old call reply

-- the seat with this number made the call: the reply, the notes of the hold, and what the lane holds then
pub record IsMade (by : ℕ) (old : Content) (call : Call) (reply : Reply) (new : Content) : Type 0 where
  pub told : IsReply (lane_met old call) call reply (own_notes old call reply) new
  pub goes_on : GoesOn old (hold_notes by old call reply) new
  pub writers : All (λ n. writer n ≡ by) (hold_notes by old call reply)
  pub limits : new.limits ≡ old.limits

-- the notes of collects that gave these responses
abbrev pub collects_of : ℕ → ℕ → List Response → List Note
collects_of by c rs = map (λ r. note by (event.Collect c r.ordinal)) rs

-- the seat with this number collected what waits for a client
pub record AreCollected (by c : ℕ) (old : Content) (b : Collected) (new : Content) : Type 0 where
  pub ran : Ran old (collect_calls by c b) (collect_replies b) (collects_of by c b.responses.items) new
  pub limits : new.limits ≡ old.limits
  pub count : length b.responses.items ≤ 16
  pub some : b.more ≡ true → 0 < length b.responses.items
  pub octets : octets_of_responses b.responses.items ≤ 65536
  pub ends : CollectEnds c b new

-- the octets of a request's PDU, where there is one
abbrev pub length_in : Option Request → ℕ
length_in None = 0
length_in (Some r) = octets_with r.body

-- the notes of takes that gave these requests
abbrev pub takes_of : Content → ℕ → ℕ → List Sent → List Note
takes_of old by now ss = map (taking old by now) ss

-- the seat with this number took what is queued
pub record AreTaken (by now : ℕ) (old : Content) (b : Takings) (new : Content) : Type 0 where
  pub ran : Ran old (take_calls by now b) (take_replies b) (takes_of old by now b.requests.items) new
  pub limits : new.limits ≡ old.limits
  pub count : length b.requests.items ≤ 16
  pub some : b.stop ≡ None → 0 < length b.requests.items
  pub octets : octets_of_requests b.requests.items ≤ 65536
  pub ends : TakeEnds b new

-- the seat with this number brought these responses
pub record AreBrought (by : ℕ) (ps : List Pdu) (old : Content) (ss : List Settled) (new : Content) : Type 0 where
  pub ran : Ran old (answer_calls by ps) (answer_replies ss) (answers_of by ps ss) new
  pub limits : new.limits ≡ old.limits

-- whatever the seat finds in a hold, the call keeps to its condition there
abbrev pub MayCall : Front Note Limits → (ℕ → Call) → Type 0
MayCall f call = (h : Hold Content Note Limits) → Finds writer limits_of suits f h → Keeps h.value (call h.number)

-- a request without its client and its ordinal
abbrev pub offer_of : Request → Offer
offer_of r = record { own = r.own; command = r.command; body = r.body; forwarded = r.forwarded }

-- the ordinals that the seat's own notes accept are below n
abbrev pub IsBelow : ℕ → Front Note Limits → Type 0
IsBelow n f = AllByRecursion (λ r. r.ordinal < n) (requests f.mine)

-- in each seat's own notes the request's client is a member, with lower ordinals alone
abbrev pub LeadUpTo : Request → List (Front Note Limits) → Type 0
LeadUpTo r fronts = (k : ℕ) (f : Front Note Limits) → slice_get fronts k ≡ Some f
    → IsMemberBy r.client f × IsBelow r.ordinal f

-- the seat's own notes are the client's admit, after a shift or not
abbrev pub HasAdmitted : ℕ → Front Note Limits → Type 0
HasAdmitted c f = (shifted : Bool) × (f.mine ≡ shifts_where shifted f.number ++ note f.number (event.Admit c) ∷ [])

-- so are those of each seat
abbrev pub HaveAdmitted : ℕ → List (Front Note Limits) → Type 0
HaveAdmitted c fronts = (k : ℕ) (f : Front Note Limits) → slice_get fronts k ≡ Some f → HasAdmitted c f

-- in this history the client was admitted by the seat with this number, has not retired, and its accepts have ordinals below n
pub record IsPresentFor (by c n : ℕ) (h : List Note) : Type 0 where
  pub admitted : is_admitted by c (entries_of h) ≡ true
  pub stays : is_retired c (entries_of h) ≡ false
  pub below : AllByRecursion (λ e. e.ordinal < n) (accepts_of c (entries_of h))

-- such is a history that the lane agrees with
abbrev pub MayAccept : Content → ℕ → ℕ → ℕ → Type 0
MayAccept v by c n = (h : List Note) × AgreesWith h v × IsPresentFor by c n h

-- whatever the seat finds in a hold, the client may submit there from ordinal n on
abbrev pub MaySubmit : Front Note Limits → ℕ → ℕ → Type 0
MaySubmit f c n = (h : Hold Content Note Limits) → Finds writer limits_of suits f h → MayAccept h.value h.number c n

-- the seat with this number made the client's offers, from ordinal n on
pub record AreLanded (by c n : ℕ) (os : List Offer) (old : Content) (b : Landed) (new : Content) : Type 0 where
  pub each : LandEach by c n old os b.landings.items new
  pub limits : new.limits ≡ old.limits
  pub next : b.next ≡ n + length (accepted_each os b.landings.items)
  pub top : b.next ≤ 2 ^ 62 + 1

-- one hold served a client's list, and tells its next ordinal; or the tickets are spent and the offers come back
abbrev pub ServesList : Front Note Limits → Front Note Limits → ℕ → ℕ → List Offer → Result Landed (Vec Offer × Spent) → Type 0
ServesList f g c n os (Ok b) = LandsServe f g c n os b.landings.items × (b.next ≡ n + length (accepted_each os b.landings.items)) × (b.next ≤ 2 ^ 62 + 1)
ServesList f g c n os (Err e) = (e.0.items ≡ os) × IsSpent f g
