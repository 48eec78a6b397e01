-- What a list of calls leaves, and what the calls answer.
use Rattle.std.specs.Prelude.{◌≡◌, ◌++◌, ◌∷◌, [], List, true, false, Option, Some, None, Ok, Err, IsSome, slice_get, map, filter_map}
use Rattle.std.specs.List.{find, flat_map}
use Rattle.smx_history.specs.declared.entry.Entry.{Entry}
use Rattle.smx_history.specs.declared.note.Note.{Note}
use Rattle.smx_history.specs.declared.place.Place.{Place}
use Rattle.smx_history.specs.declared.response.Response.{Response}
use Rattle.smx_history.specs.declared.note.Event.TheVariants as event
use Rattle.smx_history.specs.declared.reply.Answered.TheVariants as answered
use Rattle.smx_history.specs.declared.reply.Failed.{Failed}
use Rattle.smx_history.specs.declared.reply.Failed.TheVariants as failed
use Rattle.smx_history.specs.History.{note, shift, marks_of, entries_of}
use Rattle.smx_history.specs.Shifts.{marks_in}
use Rattle.smx_history.specs.Legal.{IsLegal}
use Rattle.smx_history.specs.Contents.{Content, AgreesWith}
use Rattle.smx_history.specs.Replies.{admit_refusal, accept_refusal, take_refusal, fail_refusal, up_refusal, answers_place, member_with, expired_in}
use Rattle.smx_history.specs.Answering.{oldest_in, failing}
use Rattle.smx_lane.specs.Conditions.{IsOwn, IsNext}
use Rattle.smx_lane.specs.Faults.{IsAdmitFault}
use Rattle.smx_lane.specs.Taking.{taking}
use Rattle.smx_lane.specs.Turning.{IsTurned}
use Rattle.smx_lane.specs.declared.call.Call.{Call}
use Rattle.smx_lane.specs.declared.call.Call.TheVariants as call
use Rattle.smx_lane.specs.declared.call.Reply.{Reply}
use Rattle.smx_lane.specs.declared.call.Reply.TheVariants as reply

-- with whatever history the lane agreed, it agrees with that and these notes
abbrev pub GoesOn : Content → List Note → Content → Type 0
GoesOn old own new = (h : List Note) → AgreesWith h old → AgreesWith (h ++ own) new

-- a refused call has no note, and leaves the lane as it was
abbrev pub Stays : Content → List Note → Content → Type 0
Stays old own new = (own ≡ []) × (new ≡ old)

-- the call keeps to its condition
abbrev pub Keeps : Content → Call → Type 0
Keeps old (call.Accept by r) = IsNext old by r.client r.ordinal
Keeps old (call.Collect by c) = IsOwn old by c
Keeps old (call.Retire by c) = IsOwn old by c
Keeps old _ = Unit {0}

-- a request that failed waits for its client to collect it, or is gone where the client has retired
abbrev pub Tells : Content → Place → Failed → Type 0
Tells old q (failed.Queued c) = (q.client ≡ c) × IsSome (member_with c old.members)
Tells old q (failed.Late c) = (q.client ≡ c) × (member_with c old.members ≡ None)

-- the reply to a call on a lane with this content, its notes, and what the lane holds then; only a call that keeps to its condition is made
abbrev pub IsReply : Content → Call → Reply → List Note → Content → Type 0
IsReply old (call.Admit by c) (reply.Admitted (Ok _)) own new = (admit_refusal old c ≡ None) × (own ≡ note by (event.Admit c) ∷ [])
IsReply old (call.Admit by c) (reply.Admitted (Err e)) own new = IsAdmitFault (admit_refusal old c) e × Stays old own new
IsReply old (call.Accept by r) (reply.Accepted (Ok _)) own new = IsNext old by r.client r.ordinal × (accept_refusal old r.client ≡ None) × (own ≡ note by (event.Accept r) ∷ [])
IsReply old (call.Accept by r) (reply.Accepted (Err e)) own new = IsNext old by r.client r.ordinal × (e.0 ≡ r) × (accept_refusal old r.client ≡ Some e.1) × Stays old own new
IsReply old (call.Take by now) (reply.Taken (Ok s)) own new = (take_refusal old ≡ None) × (slice_get old.queue 0 ≡ Some s.request) × (own ≡ taking old by now s ∷ [])
IsReply old (call.Take by now) (reply.Taken (Err e)) own new = (take_refusal old ≡ Some e) × Stays old own new
IsReply old (call.Answer by p) (reply.Answered (answered.Queued c)) own new = (q : Place) × (find (answers_place p) old.window ≡ Some q) × (q.client ≡ c) × IsSome (member_with c old.members) × (own ≡ note by (event.Answer q.client q.ordinal p) ∷ [])
IsReply old (call.Answer by p) (reply.Answered (answered.Late c)) own new = (q : Place) × (find (answers_place p) old.window ≡ Some q) × (q.client ≡ c) × (member_with c old.members ≡ None) × (own ≡ note by (event.Late q.client q.ordinal p.number p.command) ∷ [])
IsReply old (call.Answer by p) (reply.Answered (answered.Unknown back)) own new = (find (answers_place p) old.window ≡ None) × (back ≡ p) × Stays old own new
IsReply old (call.Collect by c) (reply.Collected (Some p)) own new = IsOwn old by c × (r : Response) × (oldest_in (member_with c old.members) ≡ Some r) × (r.pdu ≡ p) × (own ≡ note by (event.Collect c r.ordinal) ∷ [])
IsReply old (call.Collect by c) (reply.Collected None) own new = IsOwn old by c × (oldest_in (member_with c old.members) ≡ None) × Stays old own new
IsReply old (call.Retire by c) (reply.Retired (Ok _)) own new = IsOwn old by c × IsSome (member_with c old.members) × (own ≡ note by (event.Retire c) ∷ [])
IsReply old (call.Retire by c) (reply.Retired (Err _)) own new = IsOwn old by c × (member_with c old.members ≡ None) × Stays old own new
IsReply old (call.TurnOver by least) (reply.TurnedOver (Ok (Some list))) own new = IsTurned old by least (Some list.items) new × (own ≡ shift by ∷ [])
IsReply old (call.TurnOver by least) (reply.TurnedOver (Ok None)) own new = IsTurned old by least None new × (own ≡ [])
IsReply old (call.TurnOver by least) (reply.TurnedOver (Err _)) own new = Stays old own new
IsReply old (call.Down by) (reply.WentDown (Ok _)) own new = (old.up ≡ true) × (own ≡ note by event.Down ∷ [])
IsReply old (call.Down by) (reply.WentDown (Err _)) own new = (old.up ≡ false) × Stays old own new
IsReply old (call.Fail by) (reply.Failed (Ok f)) own new = (fail_refusal old ≡ None) × (q : Place) × (slice_get old.window 0 ≡ Some q) × Tells old q f × (own ≡ failing by q ∷ [])
IsReply old (call.Fail by) (reply.Failed (Err e)) own new = (fail_refusal old ≡ Some e) × Stays old own new
IsReply old (call.FailExpired by now age) (reply.Expired (Ok f)) own new = (q : Place) × (expired_in old now age ≡ Some q) × Tells old q f × (own ≡ failing by q ∷ [])
IsReply old (call.FailExpired by now age) (reply.Expired (Err _)) own new = (expired_in old now age ≡ None) × Stays old own new
IsReply old (call.Up by) (reply.CameUp (Ok _)) own new = (up_refusal old ≡ None) × (own ≡ note by event.Up ∷ [])
IsReply old (call.Up by) (reply.CameUp (Err e)) own new = (up_refusal old ≡ Some e) × Stays old own new
IsReply old made reply.Unkept own new = ¬ (Keeps old made) × Stays old own new
IsReply old _ _ own new = ⊥

-- each call in turn was answered by a lane that agrees with the notes of the calls before it
abbrev pub Ran : Content → List Call → List Reply → List Note → Content → Type 0
Ran old [] [] notes new = (notes ≡ []) × (new ≡ old)
Ran old (made ∷ calls) (came ∷ replies) notes new =
    (mid : Content) × (own : List Note) × (rest : List Note) × (notes ≡ own ++ rest) × IsReply old made came own mid × GoesOn old own mid × Ran mid calls replies rest new
Ran old _ _ notes new = ⊥

-- the list that a reply hands out
abbrev pub list_in : Reply → Option (List Entry)
list_in (reply.TurnedOver (Ok (Some list))) = Some list.items
list_in _ = None

-- the lists that the replies hand out, in order
abbrev pub lists_in : List Reply → List (List Entry)
lists_in replies = filter_map list_in replies

-- the lists handed out and then what is stored are, as marks, a shift, what was stored before, and what the calls noted; so joined they are all those entries
pub record IsHandedOut (before : List Entry) (notes : List Note) (lists : List (List Entry)) (stored : List Entry) : Type 0 where
  pub marks : marks_in (lists ++ stored ∷ []) ≡ None ∷ map Some before ++ marks_of notes
  pub joined : flat_map (λ es. es) (lists ++ stored ∷ []) ≡ before ++ entries_of notes

-- this holds where the lane agreed with some history
abbrev pub HandsOut : Content → List Reply → List Note → Content → Type 0
HandsOut old replies notes new = (h : List Note) → AgreesWith h old → IsHandedOut old.entries notes (lists_in replies) new.entries

-- what a new lane handed out and what it stores pass the check of a finished history
abbrev pub HandsOutLegal : Content → List Reply → Content → Type 0
HandsOutLegal old replies new = AgreesWith [] old → IsLegal new.limits (marks_in (lists_in replies ++ new.entries ∷ []))
