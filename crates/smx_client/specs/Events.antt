-- What an event is worth: what it decided and says, whom it tells, whether nothing came of it, and what it ends.
use Rattle.std.specs.Prelude.{ℕ, Bool, true, false, ◌||◌, ◌==◌, is_none, length, map, List, [], ◌∷◌, ◌++◌, Option, Some, None, Result, Ok, Err}
use Rattle.std.specs.List.{flat_map}
use Rattle.std.specs.Result.{is_err}
use Rattle.smx_pdu.specs.declared.pdu.Pdu.{Pdu}
use Rattle.smx_pdu.specs.Command.{response_of}
use Rattle.smx_history.specs.declared.telling.Unaccepted.{Unaccepted}
use Rattle.smx_history.specs.declared.telling.Unaccepted.TheVariants.{AllFull, UsedUp}
use Rattle.smx_history.specs.declared.response.Response.{Response}
use Rattle.smx_history.specs.Failures.{refusal_of}
use Rattle.smx_session.specs.declared.act.Act.{Act}
use Rattle.smx_session.specs.declared.act.Act.TheVariants as act
use Rattle.smx_session.specs.declared.enquiry.Enquiry.{Enquiry}
use Rattle.smx_session.specs.declared.enquiry.Enquiry.TheVariants.{NotDue, Due, Unanswered}
use Rattle.smx_shared.specs.declared.offer.Offer.{Offer}
use Rattle.smx_shared.specs.declared.fault.SubmitFault.{SubmitFault}
use Rattle.smx_shared.specs.declared.fault.SubmitFault.TheVariants as submit
use Rattle.smx_shared.specs.declared.batch.Collected.{Collected as Batch}
use Rattle.smx_shared.specs.declared.batch.Landing.{Landing}
use Rattle.smx_shared.specs.Landings.{accepted_all}
use Rattle.std.specs.Global.{Vec}
use Rattle.smx_shared.specs.Offers.{Accepted, accepted_by}
use Rattle.smx_lock.specs.declared.faults.Spent.{Spent}
use Rattle.smx_box.specs.declared.fault.Spent.{Spent as BoxSpent}
use Rattle.smx_box.specs.declared.receiver.Got.{Got}
use Rattle.smx_box.specs.declared.receiver.Got.TheVariants.{Item, Shut, Empty}
use Rattle.smx_turns.specs.declared.mo_item.MoItem.{MoItem}
use Rattle.smx_turns.specs.declared.gate.Party.{Party}
use Rattle.smx_turns.specs.declared.gate.Party.TheVariants as party
use Rattle.smx_turns.specs.declared.end.End.{End}
use Rattle.smx_turns.specs.declared.end.End.TheVariants as end
use Rattle.smx_turns.specs.Puts.{finds_nothing}
use Rattle.smx_turns.specs.Worth.{Worth, no_worth, says}
use Rattle.smx_client.specs.declared.event.Event.{Event}
use Rattle.smx_client.specs.declared.event.Event.TheVariants.{Decided, Broke, Collected, PutAgain, Heard, Expired, Looked, Unbound, Forwarded, LinkEnded, Got as Fetched}
use Rattle.smx_client.specs.declared.event.Fate.{Fate}
use Rattle.smx_client.specs.declared.event.Fate.TheVariants.{Own, Submitted, Barred, Settled}
use Rattle.smx_client.specs.declared.event.Delivery.{Delivery}
use Rattle.smx_client.specs.declared.event.Delivery.TheVariants.{Given, Refused, Dropped}
use Rattle.smx_client.specs.declared.reply.Reply.{Reply}
use Rattle.smx_client.specs.declared.reply.Reply.TheVariants as reply
use Rattle.smx_client.specs.Replies.{answer_up, refused_up, on_lane}

-- why no lane accepted a request, as its client is told
abbrev pub why_unaccepted : SubmitFault → Unaccepted
why_unaccepted submit.Exhausted = UsedUp
why_unaccepted submit.Spent = UsedUp
why_unaccepted submit.AllFull = AllFull

-- what the session's act says, and how it ends the work, where nothing is decided after it
abbrev pub act_worth : Act → Worth
act_worth (act.Answer p) = says (Some p)
act_worth (act.Bind k i p) = says (Some p)
act_worth (act.Refuse p) = says (Some p)
act_worth act.Forward = no_worth
act_worth (act.MoAnswer n) = no_worth
act_worth (act.Leave p) = record (says (Some p)) { ends = Some end.Left }
act_worth (act.Hangup p) = record (says (Some p)) { ends = Some end.BadLength }
act_worth act.Closed = record no_worth { ends = Some end.Stopped }
act_worth act.Ignore = no_worth

abbrev pub act_out : Act → List Pdu
act_out a = (act_worth a).said

-- the enquire_link that is due
abbrev pub enquiry_out : Enquiry → List Pdu
enquiry_out NotDue = []
enquiry_out (Due p) = p ∷ []
enquiry_out Unanswered = []

abbrev pub is_not_due : Enquiry → Bool
is_not_due NotDue = true
is_not_due (Due p) = false
is_not_due Unanswered = false

abbrev pub is_unanswered : Enquiry → Bool
is_unanswered NotDue = false
is_unanswered (Due p) = false
is_unanswered Unanswered = true

-- how a silence ends the work
abbrev pub silent_end : Bool → Option End
silent_end true = Some end.Silent
silent_end false = None

-- the answer to a refused request
abbrev pub refusal_out : Pdu → Result ℕ (Offer × SubmitFault) → List Pdu
refusal_out p (Ok lane) = []
refusal_out p (Err e) = refusal_of (why_unaccepted e.1) p.command p.number ∷ []

-- those of a list, in order
abbrev pub refusals_each : List Pdu → List Landing → List Pdu
refusals_each (p ∷ ps) (l ∷ ls) = refusal_out p l.landed ++ refusals_each ps ls
refusals_each _ _ = []

-- where no ticket is left each is refused
abbrev pub refusals_out : List Pdu → Result (Vec Landing) (Vec Offer × Spent) → List Pdu
refusals_out ps (Ok ls) = refusals_each ps ls.items
refusals_out ps (Err e) = map (λ p. refusal_of UsedUp p.command p.number) ps

-- the PDUs of responses
abbrev pub pdus_of : List Response → List Pdu
pdus_of rs = map (λ r. r.pdu) rs

-- what a lane gave, as its client is sent it
abbrev pub response_out : Result Batch Spent → List Pdu
response_out (Ok b) = pdus_of b.responses.items
response_out (Err e) = []

-- a message as the client is sent it
abbrev pub message_as : ℕ → MoItem → Pdu
message_as n item = record { command = item.pdu.command; status = 0; number = n; body = item.pdu.body }

abbrev pub item_out : Got MoItem → Delivery → List Pdu
item_out (Item p n item) (Given number since) = message_as number item ∷ []
item_out _ _ = []

abbrev pub got_out : Result (Got MoItem) BoxSpent → Delivery → List Pdu
got_out (Ok found) d = item_out found d
got_out (Err e) d = []

-- the accepts that an event leaves in the port's notes
abbrev pub fate_accepts : Fate → List Accepted
fate_accepts Own = []
fate_accepts (Submitted o r) = accepted_by o.value r.value
fate_accepts (Barred leave) = []
fate_accepts (Settled found reply) = []

abbrev pub event_accepts : Event → List Accepted
event_accepts (Decided p a f) = fate_accepts f
event_accepts (Broke a) = []
event_accepts (Collected lane r) = []
event_accepts (Fetched g d) = []
event_accepts (PutAgain lane reply) = []
event_accepts (Heard now) = []
event_accepts (Expired until found reply) = []
event_accepts (Looked now e) = []
event_accepts (Unbound p) = []
event_accepts (Forwarded ps os r) = accepted_all os.value.items r.value
event_accepts LinkEnded = []

abbrev pub settled_out : ℕ → Pdu → Option (ℕ × ℕ) → List (Option Pdu)
settled_out k p None = []
settled_out k p (Some found) = on_lane k found.0 (answer_up p found.1 ∷ [])

abbrev pub fate_answers : ℕ → Pdu → Fate → List (Option Pdu)
fate_answers k p Own = []
fate_answers k p (Submitted o r) = []
fate_answers k p (Barred leave) = []
fate_answers k p (Settled found reply) = settled_out k p found

abbrev pub item_answers : ℕ → Got MoItem → Delivery → List (Option Pdu)
item_answers k (Item p n item) (Refused reply) = on_lane k item.lane (refused_up (response_of item.pdu.command) item.number)
item_answers k _ _ = []

abbrev pub got_answers : ℕ → Result (Got MoItem) BoxSpent → Delivery → List (Option Pdu)
got_answers k (Ok found) d = item_answers k found d
got_answers k (Err e) d = []

-- of a message that the client didn't answer in time: its lane, and the centre's number and command
abbrev pub expired_answers : ℕ → Option (ℕ × ℕ × ℕ) → List (Option Pdu)
expired_answers k None = []
expired_answers k (Some m) = on_lane k m.0 (refused_up (response_of m.2) m.1)

-- the answers that an event has for the return box of lane k
abbrev pub event_answers : ℕ → Event → List (Option Pdu)
event_answers k (Decided p a f) = fate_answers k p.value f
event_answers k (Broke a) = []
event_answers k (Collected lane r) = []
event_answers k (Fetched g d) = got_answers k g.value d
event_answers k (PutAgain lane reply) = []
event_answers k (Heard now) = []
event_answers k (Expired until found reply) = expired_answers k found
event_answers k (Looked now e) = []
event_answers k (Unbound p) = []
event_answers k (Forwarded ps os r) = []
event_answers k LinkEnded = []

-- the lane, where its return box took an answer
abbrev pub lane_told : ℕ → Reply → List Party
lane_told lane reply.Taken = party.Answer lane ∷ []
lane_told lane reply.Full = []
lane_told lane reply.Spent = []
lane_told lane reply.Nobody = []

-- the lane that accepted a request
abbrev pub submit_told : Result ℕ (Offer × SubmitFault) → List Party
submit_told (Ok lane) = party.Lane lane ∷ []
submit_told (Err e) = []

-- and for each of a list
abbrev pub landings_told : Result (Vec Landing) (Vec Offer × Spent) → List Party
landings_told (Ok ls) = flat_map (λ l. submit_told l.landed) ls.items
landings_told (Err e) = []

abbrev pub settled_told : Option (ℕ × ℕ) → Reply → List Party
settled_told None reply = []
settled_told (Some found) reply = lane_told found.0 reply

abbrev pub item_told : Got MoItem → Reply → List Party
item_told (Item p n item) reply = lane_told item.lane reply
item_told (Shut p) reply = []
item_told Empty reply = []

abbrev pub refused_told : Result (Got MoItem) BoxSpent → Reply → List Party
refused_told (Ok found) reply = item_told found reply
refused_told (Err e) reply = []

abbrev pub got_told : Result (Got MoItem) BoxSpent → Delivery → List Party
got_told r (Given number since) = []
got_told r (Refused reply) = refused_told r reply
got_told r Dropped = []

abbrev pub expired_told : Option (ℕ × ℕ × ℕ) → Reply → List Party
expired_told None reply = []
expired_told (Some m) reply = lane_told m.0 reply

abbrev pub is_none_found : Result Batch Spent → Bool
is_none_found (Ok b) = length b.responses.items == 0
is_none_found (Err e) = true

abbrev pub is_refused : Reply → Bool
is_refused reply.Taken = false
is_refused reply.Full = true
is_refused reply.Spent = true
is_refused reply.Nobody = false

-- whether a return box takes no more calls
abbrev pub is_spent_reply : Reply → Bool
is_spent_reply reply.Spent = true
is_spent_reply _ = false

abbrev pub is_spent_delivery : Delivery → Bool
is_spent_delivery (Refused reply) = is_spent_reply reply
is_spent_delivery _ = false

abbrev pub is_spent_fault : SubmitFault → Bool
is_spent_fault submit.Spent = true
is_spent_fault _ = false

abbrev pub is_spent_submit : Result ℕ (Offer × SubmitFault) → Bool
is_spent_submit (Ok lane) = false
is_spent_submit (Err e) = is_spent_fault e.1

-- what became of a PDU, beside what the session did
abbrev pub fate_worth : Pdu → Fate → Worth
fate_worth p Own = no_worth
fate_worth p (Submitted o r) = record no_worth { said = refusal_out p r.value; tells = submit_told r.value; spent = is_spent_submit r.value }
fate_worth p (Barred leave) = no_worth
fate_worth p (Settled found reply) = record no_worth { tells = settled_told found reply; spent = is_spent_reply reply }

-- what a PDU that the session decided so is worth, of which this came
abbrev pub decided_worth : Pdu → Act → Fate → Worth
decided_worth p a f = record no_worth {
  decided = p ∷ [];
  said = act_out a ++ (fate_worth p f).said;
  tells = (fate_worth p f).tells;
  quiet = false;
  ends = (act_worth a).ends;
  spent = (fate_worth p f).spent;
}

-- what an event is worth
abbrev pub worth : Event → Worth
worth (Decided p a f) = decided_worth p.value a.value f
worth (Broke a) = record no_worth { said = act_out a.value; quiet = false; ends = Some end.BadLength; breaks = true }
worth (Collected lane r) = record no_worth { said = response_out r.value; quiet = is_none_found r.value; spent = is_err r.value }
worth (Fetched g d) = record no_worth { said = got_out g.value d; tells = got_told g.value d; quiet = finds_nothing g.value; spent = is_err g.value || is_spent_delivery d }
worth (PutAgain lane reply) = record no_worth { tells = lane_told lane reply; quiet = is_refused reply; spent = is_spent_reply reply }
worth (Heard now) = record no_worth { quiet = false }
worth (Expired until found reply) = record no_worth { tells = expired_told found reply; quiet = is_none found; spent = is_spent_reply reply }
worth (Looked now e) = record no_worth { said = enquiry_out e.value; quiet = is_not_due e.value; ends = silent_end (is_unanswered e.value) }
worth (Unbound p) = says p.value
worth (Forwarded ps os r) = record no_worth { decided = ps; said = refusals_out ps r.value; tells = landings_told r.value; quiet = false; spent = is_err r.value }
worth LinkEnded = record no_worth { ends = Some end.LinkEnded }

-- whether nothing came of it
abbrev pub is_quiet_event : Event → Bool
is_quiet_event e = (worth e).quiet

unfoldable pub accepts : List Event → List Accepted
accepts es = flat_map event_accepts es

unfoldable pub answers : ℕ → List Event → List (Option Pdu)
answers k es = flat_map (event_answers k) es
