-- One hold of a lane's lock serves one call.
use Rattle.std.specs.Prelude.{◌≡◌, ◌⊎◌, ◌+◌, ◌<◌, ◌≤◌, length, ℕ, List, [], ◌∷◌, ◌++◌, Option, Some, None, Result, Ok, Err}
use Rattle.std.specs.Option.{option_map}
use Rattle.smx_ticket_core.specs.Machine.{most}
use Rattle.smx_lock.specs.Rule.{notes_of}
use Rattle.smx_lock.specs.Fronts.{Front, Serves, IsSpent, Refused}
use Rattle.smx_lock.specs.declared.faults.Spent.{Spent}
use Rattle.smx_lock.specs.declared.faults.TryFault.{TryFault}
use Rattle.smx_pdu.specs.declared.pdu.Pdu.{Pdu}
use Rattle.smx_history.specs.declared.limits.Limits.{Limits}
use Rattle.smx_history.specs.declared.note.Note.{Note}
use Rattle.smx_history.specs.declared.request.Request.{Request}
use Rattle.smx_lane.specs.declared.sent.Sent.{Sent}
use Rattle.smx_history.specs.declared.reply.TakeRefusal.{TakeRefusal}
use Rattle.smx_history.specs.declared.reply.Refusal.{Refusal}
use Rattle.smx_history.specs.declared.reply.AlreadyDown.{AlreadyDown}
use Rattle.smx_history.specs.declared.reply.Failed.{Failed}
use Rattle.smx_history.specs.declared.reply.FailRefusal.{FailRefusal}
use Rattle.smx_history.specs.declared.reply.UpRefusal.{UpRefusal}
use Rattle.smx_shared.specs.declared.fault.DownFault as down_fault
use Rattle.smx_shared.specs.declared.fault.DownFault.TheVariants as downs
use Rattle.smx_shared.specs.declared.fault.FailFault as fail_fault
use Rattle.smx_shared.specs.declared.fault.FailFault.TheVariants as fails
use Rattle.smx_history.specs.declared.reply.NoneExpired.{NoneExpired}
use Rattle.smx_shared.specs.declared.fault.ExpiryFault as expiry_fault
use Rattle.smx_shared.specs.declared.fault.ExpiryFault.TheVariants as expires
use Rattle.smx_shared.specs.declared.fault.UpFault as up_fault
use Rattle.smx_shared.specs.declared.fault.UpFault.TheVariants as ups
use Rattle.smx_history.specs.declared.reply.AdmitFault.{AdmitFault}
use Rattle.smx_ticket_core.specs.declared.callers.Caller.TheVariants.{Idle}
use Rattle.smx_history.specs.declared.reply.Answered.{Answered}
use Rattle.smx_shared.specs.declared.fault.TakeFault as take_fault
use Rattle.smx_shared.specs.declared.fault.TakeFault.TheVariants as takes
use Rattle.smx_shared.specs.declared.fault.TurnFault as turn_fault
use Rattle.smx_shared.specs.declared.fault.TurnFault.TheVariants as turns
use Rattle.smx_shared.specs.declared.fault.TryTakeFault as try_fault
use Rattle.smx_shared.specs.declared.fault.TryTakeFault.TheVariants as tries
use Rattle.smx_history.specs.History.{shift, marks_of, stored_of}
use Rattle.smx_history.specs.declared.entry.Entry.{Entry}
use Rattle.smx_lane.specs.Kept.{writer}
use Rattle.smx_history.specs.Legal.{IsLegal}
use Rattle.smx_history.specs.Contents.{Content, AgreesWith}
use Rattle.smx_lane.specs.declared.call.Call.{Call}
use Rattle.smx_lane.specs.declared.call.Call.TheVariants as call
use Rattle.smx_lane.specs.declared.call.Reply.{Reply}
use Rattle.smx_lane.specs.declared.call.Reply.TheVariants as reply
use Rattle.smx_lane.specs.Calls.{IsReply}
use Rattle.smx_lane.specs.declared.load.Load.{Load}
use Rattle.smx_lane.specs.Loads.{IsLoad}
use Rattle.smx_shared.specs.Roomy.{lane_met, shifts_before}

-- one hold found this history and left these notes, in a lane that held v, and what was left is legal
pub record OneHold (f g : Front Note Limits) (found new : List Note) (v : Content) : Type 0 where
  pub serves : Serves writer f g found new
  pub agrees : AgreesWith found v
  pub limits : v.limits ≡ f.lock.fixed
  pub legal : IsLegal f.lock.fixed (marks_of g.seen)

-- one hold of the lane's lock stood between the fronts: the lane that it found, turned over first where the call found its history full, gave this reply to the call, and what was left agrees with what is seen now
pub record CallServes (f g : Front Note Limits) (call : Call) (reply : Reply) : Type 0 where
  pub found : List Note
  -- the notes of the call itself
  pub own : List Note
  pub old : Content
  pub new : Content
  pub hold : OneHold f g found (shifts_before f.number old call ++ own) old
  pub told : IsReply (lane_met old call) call reply own new
  pub left : AgreesWith g.seen new

abbrev pub TakeServes : Front Note Limits → Front Note Limits → ℕ → Result Sent TakeRefusal → Type 0
TakeServes f g now r = CallServes f g (call.Take f.number now) (reply.Taken r)

abbrev pub AnswerServes : Front Note Limits → Front Note Limits → Pdu → Answered → Type 0
AnswerServes f g p r = CallServes f g (call.Answer f.number p) (reply.Answered r)

abbrev pub AcceptServes : Front Note Limits → Front Note Limits → Request → Result (Unit {0}) (Request × Refusal) → Type 0
AcceptServes f g q r = CallServes f g (call.Accept f.number q) (reply.Accepted r)

abbrev pub CollectServes : Front Note Limits → Front Note Limits → ℕ → Option Pdu → Type 0
CollectServes f g c r = CallServes f g (call.Collect f.number c) (reply.Collected r)

abbrev pub AdmitServes : Front Note Limits → Front Note Limits → ℕ → Result (Unit {0}) AdmitFault → Type 0
AdmitServes f g c r = CallServes f g (call.Admit f.number c) (reply.Admitted r)

-- the client was retired
abbrev pub RetireServes : Front Note Limits → Front Note Limits → ℕ → Type 0
RetireServes f g c = CallServes f g (call.Retire f.number c) (reply.Retired (Ok tt))

abbrev pub DownServes : Front Note Limits → Front Note Limits → Result (Unit {0}) AlreadyDown → Type 0
DownServes f g r = CallServes f g (call.Down f.number) (reply.WentDown r)

abbrev pub FailServes : Front Note Limits → Front Note Limits → Result Failed FailRefusal → Type 0
FailServes f g r = CallServes f g (call.Fail f.number) (reply.Failed r)

abbrev pub ExpiryServes : Front Note Limits → Front Note Limits → ℕ → ℕ → Result Failed NoneExpired → Type 0
ExpiryServes f g now age r = CallServes f g (call.FailExpired f.number now age) (reply.Expired r)

abbrev pub UpServes : Front Note Limits → Front Note Limits → Result (Unit {0}) UpRefusal → Type 0
UpServes f g r = CallServes f g (call.Up f.number) (reply.CameUp r)

-- what bringing a response leaves: one hold, or the tickets are spent and it comes back
abbrev pub Brings : Front Note Limits → Front Note Limits → Pdu → Result Answered (Pdu × Spent) → Type 0
Brings f g p (Ok answered) = AnswerServes f g p answered
Brings f g p (Err e) = (e.0 ≡ p) × IsSpent f g

-- served, or the lock's tickets are spent
abbrev pub Waited : {X : Type 0} → (X → Type 0) → Front Note Limits → Front Note Limits → Result X Spent → Type 0
Waited Serve f g (Ok x) = Serve x
Waited Serve f g (Err _) = IsSpent f g

-- served, or refused without a hold
abbrev pub Tried : {X : Type 0} → (X → Type 0) → Front Note Limits → Front Note Limits → Result X TryFault → Type 0
Tried Serve f g (Ok x) = Serve x
Tried Serve f g (Err e) = Refused f g e

-- what a tap's calls answer
abbrev pub Takes : Front Note Limits → Front Note Limits → ℕ → Result Sent take_fault.TakeFault → Type 0
Takes f g now (Ok sent) = TakeServes f g now (Ok sent)
Takes f g now (Err (takes.Refused e)) = TakeServes f g now (Err e)
Takes f g now (Err takes.Spent) = IsSpent f g

abbrev pub TriesTake : Front Note Limits → Front Note Limits → ℕ → Result Sent try_fault.TryTakeFault → Type 0
TriesTake f g now (Ok sent) = TakeServes f g now (Ok sent)
TriesTake f g now (Err (tries.Refused e)) = TakeServes f g now (Err e)
TriesTake f g now (Err tries.Spent) = IsSpent f g
TriesTake f g now (Err tries.Busy) = (g ≡ f) × (f.caller ≡ Idle)

-- what becomes of a lane whose link upstream is lost
abbrev pub GoesDown : Front Note Limits → Front Note Limits → Result (Unit {0}) down_fault.DownFault → Type 0
GoesDown f g (Ok done) = DownServes f g (Ok done)
GoesDown f g (Err (downs.Refused e)) = DownServes f g (Err e)
GoesDown f g (Err downs.Spent) = IsSpent f g

-- what giving a request up leaves
abbrev pub Fails : Front Note Limits → Front Note Limits → Result Failed fail_fault.FailFault → Type 0
Fails f g (Ok failed) = FailServes f g (Ok failed)
Fails f g (Err (fails.Refused e)) = FailServes f g (Err e)
Fails f g (Err fails.Spent) = IsSpent f g

-- what giving up a request that is too old leaves
abbrev pub Expires : Front Note Limits → Front Note Limits → ℕ → ℕ → Result Failed expiry_fault.ExpiryFault → Type 0
Expires f g now age (Ok failed) = ExpiryServes f g now age (Ok failed)
Expires f g now age (Err (expires.Refused e)) = ExpiryServes f g now age (Err e)
Expires f g now age (Err expires.Spent) = IsSpent f g

-- what becomes of a lane that has a link upstream again
abbrev pub ComesUp : Front Note Limits → Front Note Limits → Result (Unit {0}) up_fault.UpFault → Type 0
ComesUp f g (Ok done) = UpServes f g (Ok done)
ComesUp f g (Err (ups.Refused e)) = UpServes f g (Err e)
ComesUp f g (Err ups.Spent) = IsSpent f g

-- one hold handed out what was stored since the last shift, or found fewer than the least and changed nothing
abbrev pub TurnServes : Front Note Limits → Front Note Limits → ℕ → Option (List Entry) → Type 0
TurnServes f g least (Some es) = (found : List Note) × (v : Content) × OneHold f g found (shift f.number ∷ []) v × (least ≤ length v.entries) × (es ≡ stored_of found)
TurnServes f g least None = (found : List Note) × (v : Content) × OneHold f g found [] v × (length v.entries < least)

-- one hold found no memory for the new list, and changed nothing
abbrev pub StaysServes : Front Note Limits → Front Note Limits → Type 0
StaysServes f g = (found : List Note) × (v : Content) × OneHold f g found [] v

-- one hold told how much the lane holds, and changed nothing
abbrev pub LoadServes : Front Note Limits → Front Note Limits → Load → Type 0
LoadServes f g load = (found : List Note) × (v : Content) × OneHold f g found [] v × IsLoad v load

-- One hold made a seat, which has seen what that hold found, under a number above the holder's that
-- no seat had. There is one seat more, and a holder that was alone made the second
pub record SplitServes (f g s : Front Note Limits) : Type 0 where
  pub found : List Note
  pub content : Content
  pub hold : OneHold f g found [] content
  pub lock : s.lock ≡ f.lock
  pub caller : s.caller ≡ Idle
  pub seen : s.seen ≡ found
  pub mine : s.mine ≡ []
  pub last : s.last ≡ 0
  pub number : s.number + 1 ≡ g.seats
  pub seats : s.seats ≡ g.seats
  pub above : f.number < s.number
  pub unused : notes_of writer s.number found ≡ []
  pub second : f.seats ≡ 1 → g.seats ≡ 2

-- no seat was made: every ticket was drawn, or one hold found that 2^62 seats were made
abbrev pub SplitFails : Front Note Limits → Front Note Limits → Type 0
SplitFails f g = IsSpent f g ⊎ ((found : List Note) × (v : Content) × OneHold f g found [] v × (g.seats ≡ most))

-- why no entries were handed out
abbrev pub IsTurnFault : Front Note Limits → Front Note Limits → turn_fault.TurnFault → Type 0
IsTurnFault f g turns.Spent = IsSpent f g
IsTurnFault f g turns.NoMemory = StaysServes f g

-- what a turn over leaves, of lists that show these entries
abbrev pub Turns : {V : Type 0} → (V → List Entry) → Front Note Limits → Front Note Limits → ℕ
    → Result (Option V) turn_fault.TurnFault → Type 0
Turns entries f g least (Ok list) = TurnServes f g least (option_map entries list)
Turns entries f g least (Err e) = IsTurnFault f g e
