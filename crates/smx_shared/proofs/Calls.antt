-- What each call of a lane tells of its notes.
use Rattle.std.proofs.Common.{rules, ◌≡◌, ℕ, Bool, true, false, List, [], ◌∷◌, ◌++◌, Option, Some, None, Result, Ok, Err, refl, sym, ap, ◌∙◌, subst, arith}
use Rattle.std.specs.Prelude.{All}
use Rattle.std.proofs.lemmas.List.Elements.{All-append}
use Rattle.std.specs.Global.{Vec}
use Rattle.smx_pdu.specs.declared.pdu.Pdu.{Pdu}
use Rattle.smx_history.specs.declared.entry.Entry.{Entry}
use Rattle.smx_history.specs.declared.note.Note.{Note}
use Rattle.smx_history.specs.declared.note.Event.{Event}
use Rattle.smx_history.specs.declared.note.Event.TheVariants as event
use Rattle.smx_history.specs.declared.request.Request.{Request}
use Rattle.smx_history.specs.declared.reply.Answered.{Answered}
use Rattle.smx_history.specs.declared.reply.Answered.TheVariants as answered
use Rattle.smx_history.specs.declared.reply.Refusal.{Refusal}
use Rattle.smx_history.specs.declared.reply.TakeRefusal.{TakeRefusal}
use Rattle.smx_history.specs.declared.reply.AlreadyDown.{AlreadyDown}
use Rattle.smx_history.specs.declared.reply.Failed.{Failed}
use Rattle.smx_history.specs.declared.reply.NoneExpired.{NoneExpired}
use Rattle.smx_history.specs.declared.reply.FailRefusal.{FailRefusal}
use Rattle.smx_history.specs.declared.reply.UpRefusal.{UpRefusal}
use Rattle.smx_history.specs.declared.place.Place.{Place}
use Rattle.smx_history.specs.Failures.{failure_command}
use Rattle.smx_history.specs.History.{note, shift}
use Rattle.smx_history.specs.Contents.{Content}
use Rattle.smx_history.specs.Replies.{moment_at}
use Rattle.smx_history.specs.declared.reply.AdmitFault.{AdmitFault}
use Rattle.smx_lane.specs.declared.fault.NotAdmitted.{NotAdmitted}
use Rattle.smx_lane.specs.declared.sent.Sent.{Sent}
use Rattle.smx_lane.specs.declared.call.Call.{Call}
use Rattle.smx_lane.specs.declared.call.Call.TheVariants as call
use Rattle.smx_lane.specs.declared.call.Reply.{Reply}
use Rattle.smx_lane.specs.declared.call.Reply.TheVariants as reply
use Rattle.smx_lane.specs.Kept.{writer}
use Rattle.smx_lane.specs.Calls.{IsReply, GoesOn}
use Rattle.smx_lane.proofs.Calling as lane
use Rattle.smx_shared.specs.Roomy.{finds_full, lane_met, shifts_before, shifts_where}
use Rattle.smx_shared.proofs.Roomy.{turned_limits}
use Rattle.smx_shared.specs.Steps.{IsMade, notes_for, answer_notes, late_notes, collect_notes, fail_notes}

unfoldable pub AreBy : ℕ → List Note → Type 0
AreBy k own = All (λ (n : Note). writer n ≡ k) own

pub one : (k : ℕ) (e : Event) → AreBy k (note k e ∷ [])
unfolding AreBy
one k e = search rules

one_shift : (k : ℕ) → AreBy k (shift k ∷ [])
unfolding AreBy
one_shift k = search rules

pub none : (k : ℕ) → AreBy k []
unfolding AreBy
none k = λ j d lt. absurd (omega arith)

pub shifts_by : (b : Bool) (k : ℕ) (own : List Note) → AreBy k own → AreBy k (shifts_where b k ++ own)
unfolding AreBy
shifts_by true k own h = All-append (λ n. writer n ≡ k) (shift k ∷ []) own (one_shift k) h
shifts_by false k own h = h

-- the notes that the lane tells are these; mid is the lane that the call met
made : (by : ℕ) (old mid new : Content) (c : Call) (r : Reply) → mid ≡ lane_met old c → GoesOn old (shifts_before by old c) mid
    → ((own : List Note) → IsReply mid c r own new → (own ≡ notes_for mid c r) × AreBy by own) → new.limits ≡ mid.limits → lane.RanOne mid c r new → IsMade by old c r new
unfolding AreBy
made by old mid new c r met first notes limits m =
    let is = notes m.0 m.1 in
    let own = notes_for mid c r in
    let whole = shifts_before by old c in
    record {
      told = subst (λ v. IsReply v c r (notes_for v c r) new) met (subst (λ ns. IsReply mid c r ns new) is.0 m.1);
      goes_on = subst (λ v. GoesOn old (whole ++ notes_for v c r) new) met (lane.goes_further old mid new whole own first (subst (λ ns. GoesOn mid ns new) is.0 m.2));
      writers = subst (λ v. AreBy by (whole ++ notes_for v c r)) met (shifts_by (finds_full old c) by own (subst (AreBy by) is.0 is.1));
      limits = limits ∙ ap (λ v. v.limits) met ∙ turned_limits (finds_full old c) old;
    }

is_one : (k : ℕ) (e : Event) (own notes : List Note) → own ≡ note k e ∷ [] → notes ≡ note k e ∷ [] → (own ≡ notes) × AreBy k own
is_one k e own notes is same = (is ∙ sym same, subst (AreBy k) (sym is) (one k e))

is_none : (k : ℕ) (own : List Note) → own ≡ [] → (own ≡ []) × AreBy k own
is_none k own is = (is, subst (AreBy k) (sym is) (none k))

pub admit_made : (by c : ℕ) (old mid new : Content) (r : Result (Unit {0}) AdmitFault) → mid ≡ lane_met old (call.Admit by c) → GoesOn old (shifts_before by old (call.Admit by c)) mid
    → new.limits ≡ mid.limits → lane.RanOne mid (call.Admit by c) (reply.Admitted r) new → IsMade by old (call.Admit by c) (reply.Admitted r) new
admit_made by c old mid new (Ok x) met first limits m = made by old mid new _ _ met first (λ own t. is_one by (event.Admit c) own _ t.1 refl) limits m
admit_made by c old mid new (Err e) met first limits m = made by old mid new _ _ met first (λ own t. is_none by own t.1.0) limits m

pub accept_made : (by : ℕ) (q : Request) (old mid new : Content) (r : Result (Unit {0}) (Request × Refusal)) → mid ≡ lane_met old (call.Accept by q) → GoesOn old (shifts_before by old (call.Accept by q)) mid
    → new.limits ≡ mid.limits → lane.RanOne mid (call.Accept by q) (reply.Accepted r) new → IsMade by old (call.Accept by q) (reply.Accepted r) new
accept_made by q old mid new (Ok x) met first limits m = made by old mid new _ _ met first (λ own t. is_one by (event.Accept q) own _ t.2 refl) limits m
accept_made by q old mid new (Err e) met first limits m = made by old mid new _ _ met first (λ own t. is_none by own t.3.0) limits m

pub take_made : (by now : ℕ) (old new : Content) (r : Result Sent TakeRefusal) → new.limits ≡ old.limits → lane.RanOne old (call.Take by now) (reply.Taken r) new
    → IsMade by old (call.Take by now) (reply.Taken r) new
take_made by now old new (Ok s) limits m = made by old old new _ _ refl (lane.stays old old refl) (λ own t. is_one by (event.Take s.request.client s.request.ordinal s.upstream (moment_at old now)) own _ t.2 refl) limits m
take_made by now old new (Err e) limits m = made by old old new _ _ refl (lane.stays old old refl) (λ own t. is_none by own t.1.0) limits m

pub answer_made : (by : ℕ) (p : Pdu) (old new : Content) (r : Answered) → new.limits ≡ old.limits → lane.RanOne old (call.Answer by p) (reply.Answered r) new
    → IsMade by old (call.Answer by p) (reply.Answered r) new
answer_made by p old new (answered.Queued c) limits m =
    made by old old new _ _ refl (lane.stays old old refl) (λ own t. is_one by (event.Answer t.0.client t.0.ordinal p) own _ t.4 (ap (answer_notes by p) t.1)) limits m
answer_made by p old new (answered.Late c) limits m =
    made by old old new _ _ refl (lane.stays old old refl) (λ own t. is_one by (event.Late t.0.client t.0.ordinal p.number p.command) own _ t.4 (ap (late_notes by p) t.1)) limits m
answer_made by p old new (answered.Unknown back) limits m = made by old old new _ _ refl (lane.stays old old refl) (λ own t. is_none by own t.2.0) limits m

pub collect_made : (by c : ℕ) (old new : Content) (r : Option Pdu) → new.limits ≡ old.limits → lane.RanOne old (call.Collect by c) (reply.Collected r) new
    → IsMade by old (call.Collect by c) (reply.Collected r) new
collect_made by c old new (Some p) limits m = made by old old new _ _ refl (lane.stays old old refl) (λ own t. is_one by (event.Collect c t.1.ordinal) own _ t.4 (ap (collect_notes by c) t.2)) limits m
collect_made by c old new None limits m = made by old old new _ _ refl (lane.stays old old refl) (λ own t. is_none by own t.2.0) limits m

pub retire_made : (by c : ℕ) (old new : Content) (r : Result (Unit {0}) NotAdmitted) → new.limits ≡ old.limits → lane.RanOne old (call.Retire by c) (reply.Retired r) new
    → IsMade by old (call.Retire by c) (reply.Retired r) new
retire_made by c old new (Ok x) limits m = made by old old new _ _ refl (lane.stays old old refl) (λ own t. is_one by (event.Retire c) own _ t.2 refl) limits m
retire_made by c old new (Err e) limits m = made by old old new _ _ refl (lane.stays old old refl) (λ own t. is_none by own t.2.0) limits m

pub turn_made : (by least : ℕ) (old new : Content) (r : Result (Option (Vec Entry)) _) → new.limits ≡ old.limits → lane.RanOne old (call.TurnOver by least) (reply.TurnedOver r) new
    → IsMade by old (call.TurnOver by least) (reply.TurnedOver r) new
turn_made by least old new (Ok (Some list)) limits m = made by old old new _ _ refl (lane.stays old old refl) (λ own t. (t.1, subst (AreBy by) (sym t.1) (one_shift by))) limits m
turn_made by least old new (Ok None) limits m = made by old old new _ _ refl (lane.stays old old refl) (λ own t. is_none by own t.1) limits m
turn_made by least old new (Err e) limits m = made by old old new _ _ refl (lane.stays old old refl) (λ own t. is_none by own t.0) limits m

pub down_made : (by : ℕ) (old new : Content) (r : Result (Unit {0}) AlreadyDown) → new.limits ≡ old.limits → lane.RanOne old (call.Down by) (reply.WentDown r) new
    → IsMade by old (call.Down by) (reply.WentDown r) new
down_made by old new (Ok x) limits m = made by old old new _ _ refl (lane.stays old old refl) (λ own t. is_one by event.Down own _ t.1 refl) limits m
down_made by old new (Err e) limits m = made by old old new _ _ refl (lane.stays old old refl) (λ own t. is_none by own t.1.0) limits m

abbrev failed_event : Place → Event
failed_event q = event.Fail q.client q.ordinal q.upstream (failure_command q.command)

pub fail_made : (by : ℕ) (old new : Content) (r : Result Failed FailRefusal) → new.limits ≡ old.limits → lane.RanOne old (call.Fail by) (reply.Failed r) new
    → IsMade by old (call.Fail by) (reply.Failed r) new
fail_made by old new (Ok f) limits m = made by old old new _ _ refl (lane.stays old old refl) (λ own t. is_one by (failed_event t.1) own _ t.4 (ap (fail_notes by) t.2)) limits m
fail_made by old new (Err e) limits m = made by old old new _ _ refl (lane.stays old old refl) (λ own t. is_none by own t.1.0) limits m

pub expiry_made : (by now age : ℕ) (old new : Content) (r : Result Failed NoneExpired) → new.limits ≡ old.limits → lane.RanOne old (call.FailExpired by now age) (reply.Expired r) new
    → IsMade by old (call.FailExpired by now age) (reply.Expired r) new
expiry_made by now age old new (Ok f) limits m = made by old old new _ _ refl (lane.stays old old refl) (λ own t. is_one by (failed_event t.0) own _ t.3 (ap (fail_notes by) t.1)) limits m
expiry_made by now age old new (Err e) limits m = made by old old new _ _ refl (lane.stays old old refl) (λ own t. is_none by own t.1.0) limits m

pub up_made : (by : ℕ) (old new : Content) (r : Result (Unit {0}) UpRefusal) → new.limits ≡ old.limits → lane.RanOne old (call.Up by) (reply.CameUp r) new
    → IsMade by old (call.Up by) (reply.CameUp r) new
up_made by old new (Ok x) limits m = made by old old new _ _ refl (lane.stays old old refl) (λ own t. is_one by event.Up own _ t.1 refl) limits m
up_made by old new (Err e) limits m = made by old old new _ _ refl (lane.stays old old refl) (λ own t. is_none by own t.1.0) limits m
