-- One hold of a lane's lock serves a list of calls.
use Rattle.std.specs.Prelude.{◌≡◌, ◌⊎◌, ◌+◌, ◌<◌, ◌≤◌, length, sum_by, ℕ, Bool, true, false, List, [], ◌∷◌, ◌++◌, map, slice_get, Option, Some, None, Result, Ok, Err}
use Rattle.smx_lock.specs.Fronts.{Front, IsSpent}
use Rattle.smx_lock.specs.declared.faults.Spent.{Spent}
use Rattle.smx_pdu.specs.declared.pdu.Pdu.{Pdu}
use Rattle.smx_history.specs.declared.limits.Limits.{Limits}
use Rattle.smx_history.specs.declared.note.Note.{Note}
use Rattle.smx_history.specs.declared.request.Request.{Request}
use Rattle.smx_history.specs.declared.response.Response.{Response}
use Rattle.smx_history.specs.declared.reply.TakeRefusal.{TakeRefusal}
use Rattle.smx_history.specs.Contents.{Content, AgreesWith}
use Rattle.smx_history.specs.Answering.{oldest_in}
use Rattle.smx_history.specs.Replies.{member_with}
use Rattle.std.specs.Global.{Vec}
use Rattle.smx_history.specs.declared.note.Event.TheVariants as event
use Rattle.smx_history.specs.declared.reply.Answered.{Answered}
use Rattle.smx_history.specs.declared.reply.Answered.TheVariants as answered
use Rattle.smx_history.specs.History.{note}
use Rattle.smx_lane.specs.declared.sent.Sent.{Sent}
use Rattle.smx_lane.specs.declared.settled.Settled.{Settled}
use Rattle.smx_lane.specs.declared.call.Call.{Call}
use Rattle.smx_lane.specs.declared.call.Call.TheVariants as call
use Rattle.smx_lane.specs.declared.call.Reply.{Reply}
use Rattle.smx_lane.specs.declared.call.Reply.TheVariants as reply
use Rattle.smx_lane.specs.Calls.{Ran}
use Rattle.smx_shared.specs.Serving.{OneHold}
use Rattle.smx_shared.specs.declared.batch.Collected.{Collected}
use Rattle.smx_shared.specs.declared.batch.Takings.{Takings}

-- one hold of the lane's lock stood between the fronts: in it the lane was called so, one call after the other, and gave these replies; what was left agrees with what is seen now, and the list ended for this
pub record BatchServes (f g : Front Note Limits) (calls : List Call) (replies : List Reply) (Ends : Content → Type 0) : Type 0 where
  pub found : List Note
  -- the notes of the calls
  pub own : List Note
  pub old : Content
  pub new : Content
  pub hold : OneHold f g found own old
  pub told : Ran old calls replies own new
  pub left : AgreesWith g.seen new
  pub ends : Ends new

-- the octets of a PDU with this body
abbrev pub octets_with : List ℕ → ℕ
octets_with body = 16 + length body

abbrev pub octets_of_responses : List Response → ℕ
octets_of_responses rs = sum_by (λ r. octets_with r.pdu.body) rs

abbrev pub octets_of_requests : List Sent → ℕ
octets_of_requests ss = sum_by (λ s. octets_with s.request.body) ss

-- so many octets and those of this body, where there is one, are more than 65,536
abbrev pub Exceeds : ℕ → Option (List ℕ) → Type 0
Exceeds octets None = ⊥
Exceeds octets (Some body) = 65536 < octets + octets_with body

-- what a collect replies that finds no response
abbrev pub none_left : Bool → List Reply
none_left true = []
none_left false = reply.Collected None ∷ []

abbrev pub collect_reply : Response → Reply
collect_reply r = reply.Collected (Some r.pdu)

-- a collect for each response, and one that finds none where no more wait
abbrev pub collect_replies : Collected → List Reply
collect_replies b = map collect_reply b.responses.items ++ none_left b.more

abbrev pub collect_calls : ℕ → ℕ → Collected → List Call
collect_calls by c b = map (λ _. call.Collect by c) (collect_replies b)

abbrev pub body_in : Option Response → Option (List ℕ)
body_in None = None
body_in (Some r) = Some r.pdu.body

-- more may wait only where 16 were collected, or where the next would make more than 65,536 octets
abbrev pub CollectEnds : ℕ → Collected → Content → Type 0
CollectEnds c b v = b.more ≡ true → (length b.responses.items ≡ 16) ⊎ Exceeds (octets_of_responses b.responses.items) (body_in (oldest_in (member_with c v.members)))

-- a list of collects
pub record CollectsServe (f g : Front Note Limits) (c : ℕ) (b : Collected) : Type 0 where
  pub serves : BatchServes f g (collect_calls f.number c b) (collect_replies b) (CollectEnds c b)
  pub count : length b.responses.items ≤ 16
  pub some : b.more ≡ true → 0 < length b.responses.items
  pub octets : octets_of_responses b.responses.items ≤ 65536

-- what a take replies that gives no request
abbrev pub stopped_by : Option TakeRefusal → List Reply
stopped_by None = []
stopped_by (Some refusal) = reply.Taken (Err refusal) ∷ []

abbrev pub take_reply : Sent → Reply
take_reply s = reply.Taken (Ok s)

-- a take for each request, and one that is refused where the lane gave no more
abbrev pub take_replies : Takings → List Reply
take_replies b = map take_reply b.requests.items ++ stopped_by b.stop

abbrev pub take_calls : ℕ → ℕ → Takings → List Call
take_calls by now b = map (λ _. call.Take by now) (take_replies b)

abbrev pub body_of : Option Request → Option (List ℕ)
body_of None = None
body_of (Some r) = Some r.body

-- the lane was asked until it refused, or 16 were taken, or the next would make more than 65,536 octets
abbrev pub TakeEnds : Takings → Content → Type 0
TakeEnds b v = b.stop ≡ None → (length b.requests.items ≡ 16) ⊎ Exceeds (octets_of_requests b.requests.items) (body_of (slice_get v.queue 0))

-- a list of takes
pub record TakesServe (f g : Front Note Limits) (now : ℕ) (b : Takings) : Type 0 where
  pub serves : BatchServes f g (take_calls f.number now b) (take_replies b) (TakeEnds b)
  pub count : length b.requests.items ≤ 16
  pub some : b.stop ≡ None → 0 < length b.requests.items
  pub octets : octets_of_requests b.requests.items ≤ 65536

-- what a tap's list of takes leaves: one hold, or the tickets are spent
abbrev pub TakesAll : Front Note Limits → Front Note Limits → ℕ → Result Takings Spent → Type 0
TakesAll f g now (Ok b) = TakesServe f g now b
TakesAll f g now (Err _) = IsSpent f g

-- each of these responses was brought
abbrev pub answer_calls : ℕ → List Pdu → List Call
answer_calls by ps = map (call.Answer by) ps

abbrev pub answer_replies : List Settled → List Reply
answer_replies ss = map (λ s. reply.Answered s.answered) ss

-- what a seat notes of a response, which answers the request of this ordinal
abbrev pub settled_notes : ℕ → Pdu → ℕ → Answered → List Note
settled_notes by p n (answered.Queued c) = note by (event.Answer c n p) ∷ []
settled_notes by p n (answered.Late c) = note by (event.Late c n p.number p.command) ∷ []
settled_notes by p n (answered.Unknown back) = []

-- and of these, one after the other
abbrev pub answers_of : ℕ → List Pdu → List Settled → List Note
answers_of by (p ∷ ps) (s ∷ ss) = settled_notes by p s.ordinal s.answered ++ answers_of by ps ss
answers_of by _ _ = []

-- a list of answers, as long as the list of responses
pub record AnswersServe (f g : Front Note Limits) (ps : List Pdu) (ss : List Settled) : Type 0 where
  pub serves : BatchServes f g (answer_calls f.number ps) (answer_replies ss) (λ v. Unit {0})
  pub notes : g.mine ≡ f.mine ++ answers_of f.number ps ss

-- what bringing a list of responses leaves: one hold, or the tickets are spent and they come back
abbrev pub BringsAll : Front Note Limits → Front Note Limits → List Pdu → Result (Vec Settled) (Vec Pdu × Spent) → Type 0
BringsAll f g ps (Ok ss) = AnswersServe f g ps ss.items
BringsAll f g ps (Err e) = (e.0.items ≡ ps) × IsSpent f g
