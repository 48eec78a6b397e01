-- What each call says of its reply, and what a list of calls leaves.
use Rattle.std.proofs.Common.{◌≡◌, ◌++◌, ◌∷◌, [], ℕ, true, false, List, Option, Some, None, Result, Ok, Err, IsSome, is_some, IfOk, IfErr, OnOk, OnErr, MatchResult, refl, sym, ap, ◌∙◌, subst, append_assoc, slice_get}
use Rattle.std.proofs.lemmas.List.{append-nil}
use Rattle.smx_pdu.specs.declared.pdu.Pdu.{Pdu}
use Rattle.smx_history.specs.declared.note.Note.{Note}
use Rattle.smx_history.specs.declared.note.Event.TheVariants as event
use Rattle.smx_history.specs.declared.request.Request.{Request}
use Rattle.smx_history.specs.declared.reply.Answered.{Answered}
use Rattle.smx_history.specs.declared.reply.Answered.TheVariants as answered
use Rattle.smx_history.specs.declared.reply.Refusal.{Refusal}
use Rattle.smx_history.specs.declared.reply.TakeRefusal.{TakeRefusal}
use Rattle.smx_history.specs.declared.reply.AlreadyDown.{AlreadyDown}
use Rattle.smx_history.specs.declared.reply.UpRefusal.{UpRefusal}
use Rattle.smx_history.specs.declared.reply.FailRefusal.{FailRefusal}
use Rattle.smx_history.specs.declared.reply.Failed.{Failed}
use Rattle.smx_history.specs.declared.reply.NoneExpired.{NoneExpired}
use Rattle.smx_history.specs.declared.reply.Failed.TheVariants as failed
use Rattle.smx_history.specs.declared.note.Event.{Event}
use Rattle.smx_history.specs.declared.place.Place.{Place}
use Rattle.smx_history.specs.Failures.{failure_command}
use Rattle.smx_history.specs.History.{note, shift}
use Rattle.smx_history.specs.Contents.{Content, AgreesWith}
use Rattle.smx_history.specs.Replies.{admit_refusal, accept_refusal, take_refusal, fail_refusal, up_refusal, member_with, moment_at, expired_in}
use Rattle.smx_history.specs.Answering.{IsAnswered, IsCollected, IsFailed, IsExpired, IsGivenUp, failing}
use Rattle.smx_history.specs.declared.reply.AdmitFault.{AdmitFault}
use Rattle.smx_lane.specs.declared.fault.NotAdmitted.{NotAdmitted}
use Rattle.smx_lane.specs.declared.sent.Sent.{Sent}
use Rattle.smx_lane.specs.declared.call.Call.{Call}
use Rattle.smx_lane.specs.declared.call.Call.TheVariants as call
use Rattle.smx_lane.specs.declared.call.Reply.{Reply}
use Rattle.smx_lane.specs.declared.call.Reply.TheVariants as reply
use Rattle.smx_lane.specs.Conditions.{IsOwn, IsNext}
use Rattle.smx_lane.specs.Faults.{IsAdmitFault}
use Rattle.smx_lane.specs.Turning.{IsTurned}
use Rattle.std.specs.Option.{option_map}
use Rattle.std.specs.Global.{Vec}
use Rattle.smx_history.specs.declared.entry.Entry.{Entry}
use Rattle.smx_lane.specs.Taking.{taking}
use Rattle.smx_lane.specs.Calls.{GoesOn, IsReply, Tells, Ran, HandsOut}
use Rattle.smx_lane.proofs.Handing.{hands_nothing, hands_event, hands_list}

-- a call with its reply and its notes
abbrev pub RanOne : Content → Call → Reply → Content → Type 0
RanOne old made came new = (own : List Note) × IsReply old made came own new × GoesOn old own new × HandsOut old (came ∷ []) own new

pub stays : (old new : Content) → new ≡ old → GoesOn old [] new
stays old new same = λ h was. rw (append-nil h) (subst (AgreesWith h) (sym same) was)

pub admit_made : (old new : Content) (by c : ℕ) (r : Result (Unit {0}) AdmitFault) → MatchResult r (λ _. admit_refusal old c ≡ None) (IsAdmitFault (admit_refusal old c))
    → OnOk r (GoesOn old (note by (event.Admit c) ∷ []) new) → OnErr r (new ≡ old) → RanOne old (call.Admit by c) (reply.Admitted r) new
admit_made old new by c (Ok x) told goes same = (note by (event.Admit c) ∷ [], (told, refl), goes, hands_event old new by (event.Admit c) goes)
admit_made old new by c (Err e) told goes same = ([], (told, (refl, same)), stays old new same, λ h was. hands_nothing old new same)

pub accept_made : (old new : Content) (by : ℕ) (q : Request) (r : Result (Unit {0}) (Request × Refusal)) → IsNext old by q.client q.ordinal → MatchResult r (λ _. accept_refusal old q.client ≡ None) (λ e. (e.0 ≡ q) × (accept_refusal old q.client ≡ Some e.1))
    → OnOk r (GoesOn old (note by (event.Accept q) ∷ []) new) → OnErr r (new ≡ old) → RanOne old (call.Accept by q) (reply.Accepted r) new
accept_made old new by q (Ok x) kept told goes same = (note by (event.Accept q) ∷ [], (kept, told, refl), goes, hands_event old new by (event.Accept q) goes)
accept_made old new by q (Err e) kept told goes same = ([], (kept, told.0, told.1, (refl, same)), stays old new same, λ h was. hands_nothing old new same)

abbrev taken_event : Content → ℕ → Sent → Event
taken_event old now s = event.Take s.request.client s.request.ordinal s.upstream (moment_at old now)

pub take_made : (old new : Content) (by now : ℕ) (r : Result Sent TakeRefusal) → MatchResult r (λ _. take_refusal old ≡ None) (λ e. take_refusal old ≡ Some e)
    → IfOk r (λ s. slice_get old.queue 0 ≡ Some s.request) → IfOk r (λ s. GoesOn old (taking old by now s ∷ []) new) → OnErr r (new ≡ old) → RanOne old (call.Take by now) (reply.Taken r) new
take_made old new by now (Ok s) told oldest goes same = (taking old by now s ∷ [], (told, oldest, refl), goes, hands_event old new by (taken_event old now s) goes)
take_made old new by now (Err e) told oldest goes same = ([], (told, (refl, same)), stays old new same, λ h was. hands_nothing old new same)

pub answer_made : (old new : Content) (by : ℕ) (p : Pdu) (r : Answered) → IsAnswered old by p r new → RanOne old (call.Answer by p) (reply.Answered r) new
answer_made old new by p (answered.Queued c) told = (note by (event.Answer told.0.client told.0.ordinal p) ∷ [], (told.0, told.2, told.3, ap is_some told.4, refl), told.5, hands_event old new by (event.Answer told.0.client told.0.ordinal p) told.5)
answer_made old new by p (answered.Late c) told = (note by (event.Late told.0.client told.0.ordinal p.number p.command) ∷ [], (told.0, told.1, told.2, told.3, refl), told.4, hands_event old new by (event.Late told.0.client told.0.ordinal p.number p.command) told.4)
answer_made old new by p (answered.Unknown back) told = ([], (told.0, told.1, (refl, told.2)), stays old new told.2, λ h was. hands_nothing old new told.2)

pub collect_made : (old new : Content) (by c : ℕ) (r : Option Pdu) → IsOwn old by c → IsCollected old by c r new → RanOne old (call.Collect by c) (reply.Collected r) new
collect_made old new by c (Some p) kept told = (note by (event.Collect c told.0.ordinal) ∷ [], (kept, told.0, told.1, told.2, refl), told.3, hands_event old new by (event.Collect c told.0.ordinal) told.3)
collect_made old new by c None kept told = ([], (kept, told.0, (refl, told.1)), stays old new told.1, λ h was. hands_nothing old new told.1)

pub retire_made : (old new : Content) (by c : ℕ) (r : Result (Unit {0}) NotAdmitted) → IsOwn old by c → MatchResult r (λ _. IsSome (member_with c old.members)) (λ _. member_with c old.members ≡ None)
    → OnOk r (GoesOn old (note by (event.Retire c) ∷ []) new) → OnErr r (new ≡ old) → RanOne old (call.Retire by c) (reply.Retired r) new
retire_made old new by c (Ok x) kept told goes same = (note by (event.Retire c) ∷ [], (kept, told, refl), goes, hands_event old new by (event.Retire c) goes)
retire_made old new by c (Err e) kept told goes same = ([], (kept, told, (refl, same)), stays old new same, λ h was. hands_nothing old new same)

pub turn_made : (old new : Content) (by least : ℕ) (r : Result (Option (Vec Entry)) _) → IfOk r (λ list. IsTurned old by least (option_map (λ es. es.items) list) new) → OnErr r (new ≡ old) → RanOne old (call.TurnOver by least) (reply.TurnedOver r) new
turn_made old new by least (Ok (Some list)) told same = (shift by ∷ [], (told, refl), told.3, λ h was. hands_list old new by list.items told.1 (ap (λ (v : Content). v.entries) told.2))
turn_made old new by least (Ok None) told same = ([], (told, refl), stays old new told.1, λ h was. hands_nothing old new told.1)
turn_made old new by least (Err e) told same = ([], (refl, same), stays old new same, λ h was. hands_nothing old new same)

pub down_made : (old new : Content) (by : ℕ) (r : Result (Unit {0}) AlreadyDown) → MatchResult r (λ _. old.up ≡ true) (λ _. old.up ≡ false) → OnOk r (GoesOn old (note by event.Down ∷ []) new) → OnErr r (new ≡ old) → RanOne old (call.Down by) (reply.WentDown r) new
down_made old new by (Ok x) told goes same = (note by event.Down ∷ [], (told, refl), goes, hands_event old new by event.Down goes)
down_made old new by (Err e) told goes same = ([], (told, (refl, same)), stays old new same, λ h was. hands_nothing old new same)

pub up_made : (old new : Content) (by : ℕ) (r : Result (Unit {0}) UpRefusal) → MatchResult r (λ _. up_refusal old ≡ None) (λ e. up_refusal old ≡ Some e) → OnOk r (GoesOn old (note by event.Up ∷ []) new) → OnErr r (new ≡ old) → RanOne old (call.Up by) (reply.CameUp r) new
up_made old new by (Ok x) told goes same = (note by event.Up ∷ [], (told, refl), goes, hands_event old new by event.Up goes)
up_made old new by (Err e) told goes same = ([], (told, (refl, same)), stays old new same, λ h was. hands_nothing old new same)

abbrev failed_event : Place → Event
failed_event q = event.Fail q.client q.ordinal q.upstream (failure_command q.command)

given_up_goes : (old new : Content) (by : ℕ) (q : Place) (f : Failed) → IsGivenUp old by q f new → GoesOn old (failing by q ∷ []) new
given_up_goes old new by q (failed.Queued c) is = is.2
given_up_goes old new by q (failed.Late c) is = is.2

given_up_tells : (old new : Content) (by : ℕ) (q : Place) (f : Failed) → IsGivenUp old by q f new → Tells old q f
given_up_tells old new by q (failed.Queued c) is = (is.0, is.1)
given_up_tells old new by q (failed.Late c) is = (is.0, is.1)

pub fail_made : (old new : Content) (by : ℕ) (r : Result Failed FailRefusal) → MatchResult r (λ _. fail_refusal old ≡ None) (λ e. fail_refusal old ≡ Some e) → IfOk r (λ f. IsFailed old by f new) → OnErr r (new ≡ old) → RanOne old (call.Fail by) (reply.Failed r) new
fail_made old new by (Ok f) told is same =
    let goes = given_up_goes old new by is.0 f is.2 in
    (failing by is.0 ∷ [], (told, is.0, is.1, given_up_tells old new by is.0 f is.2, refl), goes, hands_event old new by (failed_event is.0) goes)
fail_made old new by (Err e) told is same = ([], (told, (refl, same)), stays old new same, λ h was. hands_nothing old new same)

pub expiry_made : (old new : Content) (by now age : ℕ) (r : Result Failed NoneExpired) → IfOk r (λ f. IsExpired old by now age f new) → IfErr r (λ _. expired_in old now age ≡ None) → OnErr r (new ≡ old) → RanOne old (call.FailExpired by now age) (reply.Expired r) new
expiry_made old new by now age (Ok f) is none same =
    let goes = given_up_goes old new by is.0 f is.2 in
    (failing by is.0 ∷ [], (is.0, is.1, given_up_tells old new by is.0 f is.2, refl), goes, hands_event old new by (failed_event is.0) goes)
expiry_made old new by now age (Err e) is none same = ([], (none, (refl, same)), stays old new same, λ h was. hands_nothing old new same)

-- nothing was called
pub ran_none : (old : Content) → Ran old [] [] [] old
ran_none old = (refl, refl)

pub goes_further : (old mid new : Content) (notes own : List Note) → GoesOn old notes mid → GoesOn mid own new → GoesOn old (notes ++ own) new
goes_further old mid new notes own first then = λ h was. rw (← append_assoc h notes own) (then (h ++ notes) (first h was))

-- one more call
pub ran_further : (calls : List Call) (replies : List Reply) (notes own : List Note) (old mid new : Content) (made : Call) (came : Reply) → Ran old calls replies notes mid
    → IsReply mid made came own new → GoesOn mid own new → Ran old (calls ++ made ∷ []) (replies ++ came ∷ []) (notes ++ own) new
ran_further [] [] notes own old mid new made came ran told goes =
    (new, own, [], ap (λ ns. ns ++ own) ran.0 ∙ sym (append-nil own), subst (λ x. IsReply x made came own new) ran.1 told, subst (λ x. GoesOn x own new) ran.1 goes, (refl, refl))
ran_further [] (r ∷ replies) notes own old mid new made came ran told goes = absurd ran
ran_further (c ∷ calls) [] notes own old mid new made came ran told goes = absurd ran
ran_further (c ∷ calls) (r ∷ replies) notes own old mid new made came ran told goes = (
  ran.0,
  ran.1,
  ran.2 ++ own,
  ap (λ ns. ns ++ own) ran.3 ∙ append_assoc ran.1 ran.2 own,
  ran.4,
  ran.5,
  ran_further calls replies ran.2 own ran.0 mid new made came ran.6 told goes,
)
