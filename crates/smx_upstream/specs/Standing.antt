-- What a worker stands on, and what each event does to it.
use Rattle.std.specs.Prelude.{Bool, true, ◌&&◌, ◌-◌, nat_le, nat_lt, ◌≡◌, ◌≢◌, ◌≤◌, ◌++◌, [], ◌∷◌, ℕ, List, length, slice_get, Option, Some, None, Result, Ok, Err, MatchResult}
use Rattle.smx_pdu.specs.declared.pdu.Pdu.{Pdu}
use Rattle.smx_pdu.specs.declared.body_fault.BodyFault.{BodyFault}
use Rattle.smx_pdu.specs.Reading.{destination_at}
use Rattle.smx_pdu.specs.Command.{is_forwarded}
use Rattle.smx_pdu.specs.declared.command.TheConstants.{RESPONSE}
use Rattle.std.specs.declared.vec.Vec.{Vec}
use Rattle.std.specs.declared.alloc.Global.{Global}
use Rattle.smx_lock.specs.Fronts.{Front, IsSpent}
use Rattle.smx_history.specs.declared.limits.Limits.{Limits}
use Rattle.smx_history.specs.declared.note.Note.{Note}
use Rattle.smx_history.specs.declared.entry.Entry.{Entry}
use Rattle.smx_shared.specs.declared.fault.TurnFault.{TurnFault}
use Rattle.smx_box.specs.declared.fault.Spent.{Spent}
use Rattle.smx_box.specs.declared.receiver.Got.{Got}
use Rattle.smx_box.specs.declared.receiver.Got.TheVariants as got
use Rattle.smx_routes.specs.Window.{Window, IsFirstFree, message_for, without}
use Rattle.smx_routes.specs.declared.mo_window.Waiting.{Waiting}
use Rattle.smx_box.specs.Boxes.{Sending, Receiving, LookServes}
use Rattle.smx_session.specs.UpstreamTable.{own_bind_pdu}
use Rattle.smx_session.specs.Moments.{Upstream, act_on, after_pdu, is_bound, enquiry, after_moment, is_silent, farewell, state_after_stop}
use Rattle.smx_session.specs.declared.up_act.UpAct.{UpAct}
use Rattle.smx_session.specs.declared.up_act.UpAct.TheVariants as act
use Rattle.smx_shared.specs.Views.{TapView}
use Rattle.smx_shared.specs.Batches.{TakesAll, BringsAll}
use Rattle.smx_shared.specs.Serving.{Expires, AnswerServes, TurnServes, IsTurnFault}
use Rattle.std.specs.Option.{option_map}
use Rattle.smx_upstream.specs.declared.age.Age.{Age}
use Rattle.smx_upstream.specs.Ages.{next_turn, least_shift, time_of}
use Rattle.smx_upstream.specs.Abandoning.{Abandons}
use Rattle.smx_upstream.specs.Losing.{Loses}
use Rattle.smx_upstream.specs.Rising.{Rises}
use Rattle.smx_turns.specs.declared.directory.Place.{Place}
use Rattle.smx_turns.specs.declared.mo_item.MoItem.{MoItem}
use Rattle.smx_turns.specs.Puts.{AtIndex, Puts, FindsFull, FindsSpent, Gets}
use Rattle.smx_upstream.specs.declared.event.Event.{Event}
use Rattle.smx_upstream.specs.declared.event.Event.TheVariants.{Began, Opened, Looked, Judged, Expired, Shifted, Sought, Decided, Brought, Took, Broke, LinkEnded, Unbound, GaveUp}
use Rattle.smx_upstream.specs.declared.event.Fate.{Fate}
use Rattle.smx_upstream.specs.declared.event.Fate.TheVariants as fate

-- the session, the lane's tap, the return box, the senders at the index of their slot, the messages that clients have and have not answered, and the worker's age
pub record Stand : Type 0 where
  pub session : Upstream
  pub tap : TapView
  pub answers : Receiving Pdu
  pub senders : List (Sending MoItem)
  pub owed : List Window
  pub age : Age

abbrev pub stand : Upstream → TapView → Receiving Pdu → List (Sending MoItem) → List Window → Age → Stand
stand session tap answers senders owed age = record { session = session; tap = tap; answers = answers; senders = senders; owed = owed; age = age }

-- the session's bind
abbrev pub bind_of : Upstream → Pdu
bind_of u = own_bind_pdu u.bind

-- the message as an item for the client, under a number of this link's own
abbrev pub item_for : ℕ → Place → ℕ → Pdu → MoItem
item_for lane place given p = record { client = place.client; lane = lane; number = given; pdu = p }

-- the message that this answer of a slot is for is settled, and the answer goes out under the centre's number; or none of that slot waits for it, and nothing changed
abbrev pub Answers : ℕ → Pdu → Option ℕ → List Window → List Window → Type 0
Answers k p (Some number) ws ws' = AtIndex k ws ws' (λ w w'. (m : Waiting) × (message_for p.number p.command w.waiting ≡ Some m) × (number ≡ m.number) × (w' ≡ record w { waiting = without p.number w.waiting }))
Answers k p None ws ws' = ((w : Window) → slice_get ws k ≡ Some w → message_for p.number p.command w.waiting ≡ None) × (ws' ≡ ws)

abbrev pub Settles : Result (Got Pdu) Spent → Option ℕ → List Window → List Window → Type 0
Settles (Ok (got.Item k n p)) under ws ws' = Answers k p under ws ws'
Settles (Ok (got.Shut k)) under ws ws' = (under ≡ None) × (ws' ≡ ws)
Settles (Ok got.Empty) under ws ws' = (under ≡ None) × (ws' ≡ ws)
Settles (Err e) under ws ws' = (under ≡ None) × (ws' ≡ ws)

-- the message waits for its answer under the number given
abbrev pub Keeps : ℕ → Pdu → ℕ → Window → Window → Type 0
Keeps lane p given w w' = IsFirstFree w given × (w' ≡ record w { last = given; waiting = w.waiting ++ record { given = given; lane = lane; number = p.number; command = p.command; since = 0 } ∷ [] })

-- a message that was put waits in its slot's window; for any other fate nothing changed
abbrev pub Owes : ℕ → Pdu → Fate → List Window → List Window → Type 0
Owes lane p (fate.Put place n given full) ws ws' = AtIndex place.slot ws ws' (Keeps lane p given)
Owes lane p (fate.Crowded place) ws ws' = ((w : Window) → slice_get ws place.slot ≡ Some w → length w.waiting ≡ w.places) × (ws' ≡ ws)
Owes lane p _ ws ws' = ws' ≡ ws

-- what waited is let go
abbrev pub emptied : Window → Window
emptied w = record w { waiting = [] }

abbrev pub AreEmptied : List Window → List Window → Type 0
AreEmptied ws ws' = (k : ℕ) → slice_get ws' k ≡ option_map emptied (slice_get ws k)

abbrev pub HoldNone : List Window → Type 0
HoldNone ws = (k : ℕ) (w : Window) → slice_get ws k ≡ Some w → w.waiting ≡ []

-- no sender stands at the place that the directory named
abbrev pub HasNoSender : List (Sending MoItem) → Option Place → Type 0
HasNoSender ss None = Unit {0}
HasNoSender ss (Some place) = length ss ≤ place.slot

-- a destination is read
abbrev pub Reads : Pdu → Type 0
Reads p = (d : List ℕ) × (destination_at p.body ≡ Ok d)

abbrev pub ReadsNone : Pdu → Type 0
ReadsNone p = (e : BodyFault) × (destination_at p.body ≡ Err e)

-- the session itself settled the PDU
abbrev pub IsSessionAct : UpAct → Type 0
IsSessionAct a = (a ≢ act.ToLane) × (a ≢ act.Mo) × (a ≢ act.Up)

-- what became of a PDU that the session decided so: on the left what the tap and the senders were, on the right what they are
abbrev pub Becomes : Pdu → UpAct → Fate → TapView → List (Sending MoItem) → TapView → List (Sending MoItem) → Type 0
Becomes p a fate.Own t ss t' ss' = IsSessionAct a × (t' ≡ t) × (ss' ≡ ss)
Becomes p a (fate.Up rise) t ss t' ss' = (a ≡ act.Up) × Rises t.front t'.front rise.value × (t'.lane ≡ t.lane) × (ss' ≡ ss)
Becomes p a (fate.Lane lane r) t ss t' ss' = (a ≡ act.ToLane) × AnswerServes t.front t'.front p r.value × (lane ≡ t.lane) × (t'.lane ≡ t.lane) × (ss' ≡ ss)
Becomes p a fate.LaneSpent t ss t' ss' = (a ≡ act.ToLane) × IsSpent t.front t'.front × (t'.lane ≡ t.lane) × (ss' ≡ ss)
Becomes p a fate.Unread t ss t' ss' = (a ≡ act.Mo) × ReadsNone p × (t' ≡ t) × (ss' ≡ ss)
Becomes p a (fate.Unrouted found) t ss t' ss' = (a ≡ act.Mo) × Reads p × HasNoSender ss found × (t' ≡ t) × (ss' ≡ ss)
Becomes p a (fate.Put place n given full) t ss t' ss' = (a ≡ act.Mo) × Reads p × AtIndex place.slot ss ss' (λ x y. Puts (item_for t.lane place given p) n x y × LookServes y full) × (t' ≡ t)
Becomes p a (fate.Full place) t ss t' ss' = (a ≡ act.Mo) × Reads p × AtIndex place.slot ss ss' FindsFull × (t' ≡ t)
Becomes p a (fate.Crowded place) t ss t' ss' = (a ≡ act.Mo) × Reads p × (t' ≡ t) × (ss' ≡ ss)
Becomes p a (fate.BoxSpent place) t ss t' ss' = (a ≡ act.Mo) × Reads p × AtIndex place.slot ss ss' FindsSpent × (t' ≡ t)

-- one hold handed out what was noted since the last shift, or changed nothing; or the tickets are spent
abbrev pub Shifts : Front Note Limits → Front Note Limits → ℕ → Result (Option (Vec Entry Global)) TurnFault → Type 0
Shifts f g least r = MatchResult r (λ o. TurnServes f g least (option_map (λ es. es.items) o)) (IsTurnFault f g)

-- whether an enquiry was unanswered for the silence at an earlier moment than this one already
abbrev pub was_silent : Upstream → ℕ → Bool
was_silent u now = nat_lt u.latest now && is_silent u u.latest

-- a request's response (SMPP 3.4, section 5.1.2.1), of those that are passed on
abbrev pub is_answer : ℕ → Bool
is_answer command = nat_le RESPONSE command && is_forwarded (command - RESPONSE)

-- the session after PDUs that it heard at one moment, one behind the other
abbrev pub after_pdus : Upstream → List Pdu → ℕ → Upstream
after_pdus u [] now = u
after_pdus u (p ∷ ps) now = after_pdus (after_pdu u p now) ps now

-- and each of them goes to the lane
abbrev pub GoToLane : Upstream → List Pdu → ℕ → Type 0
GoToLane u [] now = Unit {0}
GoToLane u (p ∷ ps) now = (act_on u p ≡ act.ToLane) × GoToLane (after_pdu u p now) ps now

-- what an event does
abbrev pub Does : Stand → Event → Stand → Type 0
Does s (Began p) t = (p.value ≡ bind_of s.session) × (t ≡ s)
Does s (Opened n) t = (n ≡ (next_turn s.age).turns) × (t ≡ record s { age = next_turn s.age })
Does s (Looked now due left silent) t = (due.value ≡ enquiry s.session now) × (silent ≡ was_silent s.session now) × (t ≡ record s { session = after_moment s.session now })
Does s (Judged silent) t = (silent ≡ is_silent s.session s.session.latest) × (t ≡ s)
Does s (Expired lane span r) t = (lane ≡ s.tap.lane) × Expires s.tap.front t.tap.front s.session.latest (time_of span s.age) r.value × (t.tap.lane ≡ s.tap.lane)
    × (t ≡ record s { tap = t.tap })
Does s (Shifted least r) t = (least ≡ least_shift s.age) × Shifts s.tap.front t.tap.front least r.value × (t.tap.lane ≡ s.tap.lane) × (t ≡ record s { tap = t.tap })
Does s (Sought r under) t = Gets s.answers t.answers r.value × Settles r.value under s.owed t.owed × (t ≡ record s { answers = t.answers; owed = t.owed })
Does s (Decided p now a f) t = (a.value ≡ act_on s.session p.value) × Becomes p.value a.value f s.tap s.senders t.tap t.senders × Owes s.tap.lane p.value f s.owed t.owed
    × (t ≡ record s { session = after_pdu s.session p.value now; tap = t.tap; senders = t.senders; owed = t.owed })
Does s (Brought ps now lane r) t = GoToLane s.session ps.value.items now × BringsAll s.tap.front t.tap.front ps.value.items r.value × (lane ≡ s.tap.lane) × (t.tap.lane ≡ s.tap.lane)
    × (t ≡ record s { session = after_pdus s.session ps.value.items now; tap = t.tap }) × (length ps.value.items ≤ 16)
Does s (Took r) t = (is_bound s.session.state ≡ true) × TakesAll s.tap.front t.tap.front s.session.latest r.value × (t.tap.lane ≡ s.tap.lane) × (t ≡ record s { tap = t.tap })
Does s Broke t = t ≡ s
Does s LinkEnded t = t ≡ s
Does s (Unbound p) t = (p.value ≡ farewell s.session.state)
    × (t ≡ record s { session = record s.session { state = state_after_stop s.session.state } })
Does s (GaveUp given) t = (given.lane ≡ s.tap.lane) × Loses s.tap.front given.between.value.front given.lost.value
    × Abandons given.now given.between.value.front t.tap.front given.abandoned.value × (t.tap.lane ≡ s.tap.lane) × (t ≡ record s { tap = t.tap })
