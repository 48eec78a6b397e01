-- What an event is worth: what it decided and sends, whom it tells, what it asks the directory, whether nothing came of it, and what it ends.
use Rattle.std.specs.Prelude.{ℕ, Bool, true, false, ◌&&◌, ◌==◌, length, is_some, is_none, List, [], ◌∷◌, ◌++◌, map, Option, Some, None, Result, Ok, Err, if◌then◌else◌}
use Rattle.std.specs.List.{flat_map}
use Rattle.std.specs.Result.{is_err}
use Rattle.std.specs.declared.vec.Vec.{Vec}
use Rattle.std.specs.declared.alloc.Global.{Global}
use Rattle.smx_pdu.specs.declared.pdu.Pdu.{Pdu}
use Rattle.smx_pdu.specs.declared.status.TheConstants.{ESME_RINVCMDLEN, ESME_RMSGQFUL, ESME_RX_T_APPN}
use Rattle.smx_pdu.specs.Reading.{destination_at}
use Rattle.smx_pdu.specs.declared.body_fault.BodyFault.{BodyFault}
use Rattle.smx_pdu.specs.Answers.{refusal, nack_of_undecoded}
use Rattle.smx_history.specs.declared.entry.Entry.{Entry}
use Rattle.smx_history.specs.declared.reply.Failed.{Failed}
use Rattle.smx_history.specs.declared.reply.Failed.TheVariants as failed
use Rattle.smx_history.specs.declared.reply.Answered.{Answered}
use Rattle.smx_history.specs.declared.reply.Answered.TheVariants as answered
use Rattle.smx_lane.specs.declared.sent.Sent.{Sent}
use Rattle.smx_lane.specs.declared.settled.Settled.{Settled}
use Rattle.smx_lock.specs.declared.faults.Spent.{Spent as LaneSpent}
use Rattle.smx_box.specs.declared.fault.Spent.{Spent}
use Rattle.smx_box.specs.declared.receiver.Got.{Got}
use Rattle.smx_box.specs.declared.receiver.Got.TheVariants as got
use Rattle.smx_session.specs.declared.up_act.UpAct.{UpAct}
use Rattle.smx_session.specs.declared.up_act.UpAct.TheVariants as act
use Rattle.smx_shared.specs.declared.batch.Takings.{Takings}
use Rattle.smx_shared.specs.declared.fault.ExpiryFault.{ExpiryFault}
use Rattle.smx_shared.specs.declared.fault.ExpiryFault.TheVariants as expires
use Rattle.smx_shared.specs.declared.fault.TurnFault.{TurnFault}
use Rattle.smx_shared.specs.declared.fault.TurnFault.TheVariants as turns
use Rattle.smx_turns.specs.declared.directory.Query.{Query}
use Rattle.smx_turns.specs.declared.directory.Query.TheVariants.{Found}
use Rattle.smx_turns.specs.declared.gate.Party.{Party}
use Rattle.smx_turns.specs.declared.gate.Party.TheVariants.{Client, Slot}
use Rattle.smx_turns.specs.declared.directory.Place.{Place}
use Rattle.smx_turns.specs.Puts.{finds_nothing}
use Rattle.smx_turns.specs.declared.end.End.{End}
use Rattle.smx_turns.specs.declared.end.End.TheVariants as end
use Rattle.smx_turns.specs.Endings.{or_end}
use Rattle.smx_turns.specs.Worth.{Worth, no_worth, spent_worth, says}
use Rattle.smx_upstream.specs.declared.event.Event.{Event}
use Rattle.smx_upstream.specs.declared.event.Event.TheVariants.{Began, Opened, Looked, Judged, Expired, Shifted, Sought, Decided, Brought, Took, Broke, LinkEnded, Unbound, GaveUp}
use Rattle.smx_upstream.specs.declared.abandoning.Round.{Round}
use Rattle.smx_upstream.specs.declared.losing.Lost.{Lost}
use Rattle.smx_upstream.specs.declared.event.Fate.{Fate}
use Rattle.smx_upstream.specs.declared.event.Fate.TheVariants as fate
use Rattle.smx_upstream.specs.Rising.{said_last, stays_down}

-- a request taken goes upstream as its command, status 0, the number given and its body
abbrev pub face_up : Sent → Pdu
face_up s = record { command = s.request.command; status = 0; number = s.upstream; body = s.request.body }

-- those of a list go upstream one after another
abbrev pub requests_up : Result Takings LaneSpent → List Pdu
requests_up (Ok b) = map face_up b.requests.items
requests_up (Err e) = []

-- whether the lane gave no request
abbrev pub gives_none : Result Takings LaneSpent → Bool
gives_none (Ok b) = length b.requests.items == 0
gives_none (Err e) = true

-- whether the list has requests and ended at a limit, so that more may be queued
abbrev pub may_give_more : Result Takings LaneSpent → Bool
may_give_more (Ok b) = is_none b.stop
may_give_more (Err e) = false

-- an answer of a client to a message of this link goes upstream under the centre's number, and any other is dropped
abbrev pub answer_out : Pdu → Option ℕ → List Pdu
answer_out p (Some number) = record p { number = number } ∷ []
answer_out p None = []

abbrev pub got_out : Result (Got Pdu) Spent → Option ℕ → List Pdu
got_out (Ok (got.Item k n p)) under = answer_out p under
got_out (Ok (got.Shut k)) under = []
got_out (Ok got.Empty) under = []
got_out (Err e) under = []

-- who is to hear that its request was given up, also where it has retired
abbrev pub failed_tells : ℕ → Failed → List Party
failed_tells lane (failed.Queued c) = Client c lane ∷ []
failed_tells lane (failed.Late c) = Client c lane ∷ []

-- of each that was given up as its lane was lost
abbrev pub lost_tells : ℕ → Lost → List Party
lost_tells lane lost = flat_map (failed_tells lane) lost.given

-- of each of these rounds
abbrev pub rounds_tells : ℕ → List Round → List Party
rounds_tells lane rounds = flat_map (λ r. lost_tells lane r.lost) rounds

abbrev pub expiry_tells : ℕ → Result Failed ExpiryFault → List Party
expiry_tells lane (Ok f) = failed_tells lane f
expiry_tells lane (Err e) = []

abbrev pub is_spent_expiry : Result Failed ExpiryFault → Bool
is_spent_expiry (Ok f) = false
is_spent_expiry (Err (expires.Refused e)) = false
is_spent_expiry (Err expires.Spent) = true

abbrev pub is_spent_shift : Result (Option (Vec Entry Global)) TurnFault → Bool
is_spent_shift (Ok o) = false
is_spent_shift (Err turns.Spent) = true
is_spent_shift (Err turns.NoMemory) = false

-- what the session's act sends
abbrev pub act_out : UpAct → List Pdu
act_out (act.Answer p) = p ∷ []
act_out (act.Leave p) = p ∷ []
act_out act.Up = []
act_out (act.Failed n) = []
act_out act.ToLane = []
act_out act.Mo = []
act_out act.Closed = []
act_out act.Ignore = []

-- how this act ends the session's work, where nothing is decided after it
abbrev pub ends : UpAct → Option End
ends act.Up = None
ends (act.Failed status) = Some (end.Refused status)
ends act.ToLane = None
ends act.Mo = None
ends (act.Answer p) = None
ends (act.Leave p) = Some end.Left
ends act.Closed = Some end.Stopped
ends act.Ignore = None

-- how a lane ends it that stays down
abbrev pub lane_end : Bool → Option End
lane_end true = Some end.LaneDown
lane_end false = None

-- and a silence
abbrev pub silent_end : Bool → Option End
silent_end true = Some end.Silent
silent_end false = None

-- the destination that is read
abbrev pub read_of : Result (List ℕ) BodyFault → List ℕ
read_of (Ok d) = d
read_of (Err e) = []

-- the directory was asked for the destination, and found this
abbrev pub finding : Pdu → Option Place → List Query
finding p found = Found (read_of (destination_at p.body)) found ∷ []

-- whose request an answer of the lane settled, also where the client has retired
abbrev pub answer_tells : ℕ → Answered → List Party
answer_tells lane (answered.Queued c) = Client c lane ∷ []
answer_tells lane (answered.Late c) = Client c lane ∷ []
answer_tells lane (answered.Unknown back) = []

-- whose requests the answers of a list settled
abbrev pub settled_tells : ℕ → List Settled → List Party
settled_tells lane ss = flat_map (λ s. answer_tells lane s.answered) ss

abbrev pub brought_tells : ℕ → Result (Vec Settled Global) (Vec Pdu Global × LaneSpent) → List Party
brought_tells lane (Ok ss) = settled_tells lane ss.items
brought_tells lane (Err e) = []

-- a message that no client gets is answered with this status
abbrev pub refused_worth : Pdu → ℕ → Worth
refused_worth p status = says (Some (refusal p.command status p.number))

-- what became of a PDU, beside what the session did; a lane that stays down ends the session's work
abbrev pub fate_worth : Pdu → Fate → Worth
fate_worth p fate.Own = no_worth
fate_worth p (fate.Up rise) = record no_worth { ends = lane_end (stays_down (said_last rise.value)) }
fate_worth p (fate.Lane lane a) = record no_worth { tells = answer_tells lane a.value }
fate_worth p fate.LaneSpent = spent_worth
fate_worth p fate.Unread = refused_worth p ESME_RINVCMDLEN
fate_worth p (fate.Unrouted found) = record (refused_worth p ESME_RX_T_APPN) { finds = finding p found }
fate_worth p (fate.Put place n given full) = record no_worth { finds = finding p (Some place); tells = Slot place.slot ∷ [] }
fate_worth p (fate.Full place) = record (refused_worth p ESME_RMSGQFUL) { finds = finding p (Some place) }
fate_worth p (fate.Crowded place) = record (refused_worth p ESME_RMSGQFUL) { finds = finding p (Some place) }
fate_worth p (fate.BoxSpent place) = record spent_worth { finds = finding p (Some place) }

-- the PDU that still waits, where a lane or a box takes no more calls
abbrev pub kept_by : Pdu → Fate → Option Pdu
kept_by p f = if (fate_worth p f).spent then Some p else None

abbrev pub unless_kept : Pdu → Option Pdu → List Pdu
unless_kept p None = p ∷ []
unless_kept p (Some q) = []

-- what a PDU that the session decided so is worth, of which this came
abbrev pub decided_worth : Pdu → UpAct → Fate → Worth
decided_worth p a f = record (fate_worth p f) {
  decided = unless_kept p (kept_by p f);
  said = act_out a ++ (fate_worth p f).said;
  quiet = false;
  ends = or_end (ends a) (fate_worth p f).ends;
  breaks = false;
}

-- what an event is worth
abbrev pub worth : Event → Worth
worth (Began p) = says (Some p.value)
worth (Opened n) = no_worth
worth (Looked now due left silent) = record (says due.value) { ends = silent_end (left && silent) }
worth (Judged silent) = record no_worth { ends = silent_end silent }
worth (Expired lane span r) = record no_worth { tells = expiry_tells lane r.value; quiet = is_err r.value; spent = is_spent_expiry r.value }
worth (Shifted least r) = record no_worth { spent = is_spent_shift r.value }
worth (Sought r under) = record no_worth { said = got_out r.value under; quiet = finds_nothing r.value; spent = is_err r.value }
worth (Decided p now a f) = decided_worth p.value a.value f
worth (Brought ps now lane r) = record no_worth { decided = ps.value.items; tells = brought_tells lane r.value; quiet = false; spent = is_err r.value }
worth (Took r) = record no_worth { said = requests_up r.value; quiet = gives_none r.value; spent = is_err r.value }
worth Broke = record (says (Some nack_of_undecoded)) { ends = Some end.BadLength; breaks = true }
worth LinkEnded = record no_worth { ends = Some end.LinkEnded }
worth (Unbound p) = says p.value
worth (GaveUp given) = record no_worth { tells = lost_tells given.lane given.lost.value ++ rounds_tells given.lane given.abandoned.value.rounds; quiet = false }

abbrev pub is_quiet_event : Event → Bool
is_quiet_event e = (worth e).quiet

-- whether nothing is decided after it
abbrev pub event_ends : Event → Bool
event_ends e = is_some (worth e).ends

abbrev pub is_spent : Event → Bool
is_spent e = (worth e).spent

-- whether a message filled its client's box
abbrev pub fills : Fate → Bool
fills (fate.Put place n given full) = full
fills _ = false
