-- The parts of a worker, and what an event does to them.
use Rattle.std.specs.Prelude.{◌≡◌, ◌≤◌, ◌<◌, ◌+◌, ◌++◌, length, ℕ, List, [], ◌∷◌, Option, Some, None, Result, Ok, Err}
use Rattle.smx_pdu.specs.declared.pdu.Pdu.{Pdu}
use Rattle.smx_session.specs.Login.{Login}
use Rattle.smx_pdu.specs.Answers.{nack_of_undecoded}
use Rattle.smx_session.specs.ClientTable.{client_decides, account_after}
use Rattle.smx_session.specs.ClientAsks.{client_asks, client_bars}
use Rattle.smx_session.specs.ClientMoments.{Client, after_octets, client_enquiry, after_client_moment, client_farewell, client_state_after_stop}
use Rattle.smx_session.specs.declared.act.Act.{Act}
use Rattle.smx_session.specs.declared.act.Act.TheVariants as act
use Rattle.smx_session.specs.declared.client_state.ClientState.TheVariants.{Ended}
use Rattle.smx_lock.specs.declared.faults.Spent.{Spent}
use Rattle.smx_box.specs.declared.fault.Spent.{Spent as BoxSpent}
use Rattle.smx_shared.specs.Views.{PortView}
use Rattle.smx_shared.specs.Offers.{Accepted}
use Rattle.smx_shared.specs.Ports.{HasAccepted}
use Rattle.smx_shared.specs.Collecting.{CollectsAll}
use Rattle.smx_shared.specs.Submits.{Submitted as Lands, Refuses}
use Rattle.smx_shared.specs.Landings.{SubmitsAll, accepted_all}
use Rattle.smx_shared.specs.declared.batch.Landing.{Landing}
use Rattle.std.specs.Global.{Vec}
use Rattle.std.specs.List.{AllByRecursion}
use Rattle.smx_session.specs.declared.ask.Ask.TheVariants.{Request}
use Rattle.smx_shared.specs.declared.offer.Offer.{Offer}
use Rattle.smx_shared.specs.declared.fault.SubmitFault.{SubmitFault}
use Rattle.smx_shared.specs.declared.batch.Collected.{Collected as Batch}
use Rattle.smx_box.specs.declared.receiver.Got.{Got}
use Rattle.smx_box.specs.declared.receiver.Got.TheVariants.{Item, Shut, Empty}
use Rattle.smx_routes.specs.declared.mo_window.Waiting.{Waiting}
use Rattle.smx_box.specs.Boxes.{Sending, Receiving, GetServes, Hands}
use Rattle.smx_routes.specs.Window.{Window, IsFirstFree, message_for, overdue, without}
use Rattle.smx_turns.specs.Runs.{Runs}
use Rattle.smx_turns.specs.declared.mo_item.MoItem.{MoItem}
use Rattle.smx_client.specs.declared.desk.Desk.{Desk}
use Rattle.smx_client.specs.declared.reply.Parked.{Parked}
use Rattle.smx_client.specs.declared.event.Event.{Event}
use Rattle.smx_client.specs.declared.event.Event.TheVariants.{Decided, Broke, Collected, PutAgain, Heard, Expired, Looked, Unbound, Forwarded, LinkEnded, Got as Fetched}
use Rattle.smx_client.specs.declared.event.Fate.{Fate}
use Rattle.smx_client.specs.declared.event.Fate.TheVariants.{Own, Submitted, Barred, Settled}
use Rattle.smx_client.specs.declared.event.Delivery.{Delivery}
use Rattle.smx_client.specs.declared.event.Delivery.TheVariants.{Given, Refused, Dropped}
use Rattle.smx_client.specs.Replies.{PutSo, ItemAnswersSo, SettlesSo, ExpiresSo, Parks, put_in, parked_on}
use Rattle.smx_client.specs.Events.{worth, event_accepts, event_answers}

-- the offer is the request that the PDU asks for
pub record IsOfferOf (p : Pdu) (o : Offer) : Type 0 where
  pub own : o.own ≡ p.number
  pub command : o.command ≡ p.command
  pub body : o.body ≡ p.body

-- what a submit did to the port
abbrev pub submit_step : Offer → Result ℕ (Offer × SubmitFault) → PortView → PortView → Type 0
submit_step o (Ok lane) v w = Lands v o w lane
submit_step o (Err e) v w = (e.0 ≡ o) × Refuses v o w e.1

-- the offers are the requests that these PDUs ask for, one each and in order
abbrev pub AreOffersOf : List Pdu → List Offer → Type 0
AreOffersOf [] [] = Unit {0}
AreOffersOf (p ∷ ps) (o ∷ os) = IsOfferOf p o × AreOffersOf ps os
AreOffersOf _ _ = ⊥

-- what a list of submits did to a port with one lane, by one hold
abbrev pub list_step : List Offer → Result (Vec Landing) (Vec Offer × Spent) → PortView → PortView → Type 0
list_step os r v w = (length v.fronts ≡ 1) × SubmitsAll v os w r × (w ≡ record v { next = v.next + length (accepted_all os r); fronts = w.fronts })

-- each of these PDUs has to have a request's leave, and is forwarded by the session, which stays as it is
abbrev pub AreForwarded : List Login → Client → List Pdu → Type 0
AreForwarded accounts s ps = AllByRecursion (λ p. (client_asks accounts s.account s.state p ≡ Some Request) × (client_decides accounts s.account s.state p ≡ (act.Forward, s.state))) ps

-- what the list of collects on lane k did to the port, by one hold
abbrev pub collect_step : ℕ → Result Batch Spent → PortView → PortView → Type 0
collect_step k r v w = CollectsAll k v w r × (w ≡ record v { fronts = w.fronts })

abbrev pub fate_port : Pdu → Fate → PortView → PortView → Type 0
fate_port p Own v w = w ≡ v
fate_port p (Submitted o r) v w = IsOfferOf p o.value × submit_step o.value r.value v w
fate_port p (Barred leave) v w = w ≡ v
fate_port p (Settled found reply) v w = w ≡ v

abbrev pub port_step : PortView → Event → PortView → Type 0
port_step v (Decided p a f) w = fate_port p.value f v w
port_step v (Broke a) w = w ≡ v
port_step v (Collected k r) w = collect_step k r.value v w
port_step v (Fetched g d) w = w ≡ v
port_step v (PutAgain lane reply) w = w ≡ v
port_step v (Heard now) w = w ≡ v
port_step v (Expired until found reply) w = w ≡ v
port_step v (Looked now e) w = w ≡ v
port_step v (Unbound p) w = w ≡ v
port_step v (Forwarded ps os r) w = (length ps ≤ 16) × AreOffersOf ps os.value.items × list_step os.value.items r.value v w
port_step v LinkEnded w = w ≡ v

-- what may become of a PDU under that act
abbrev pub Suits : Act → Fate → Type 0
Suits act.Forward (Submitted o r) = Unit {0}
Suits (act.MoAnswer n) (Settled found reply) = Unit {0}
Suits (act.Answer p) Own = Unit {0}
Suits (act.Bind k i p) Own = Unit {0}
Suits (act.Refuse p) Own = Unit {0}
Suits (act.Leave p) Own = Unit {0}
Suits act.Closed Own = Unit {0}
Suits act.Ignore Own = Unit {0}
Suits _ _ = ⊥

-- what the session did with a PDU: what its table says, or nothing where the gate gave no leave
abbrev pub fate_session : List Login → Client → Pdu → Act → Fate → Client → Type 0
fate_session accounts s p a (Barred leave) t = (client_asks accounts s.account s.state p ≡ Some leave) × (a ≡ client_bars leave p) × (t ≡ s)
fate_session accounts s p a f t = ((a, t.state) ≡ client_decides accounts s.account s.state p) × Suits a f × (t ≡ record s { state = t.state; account = account_after a s.account })

-- the session's table, and its moments
abbrev pub session_step : List Login → Client → Event → Client → Type 0
session_step accounts s (Decided p a f) t = fate_session accounts s p.value a.value f t
session_step accounts s (Broke a) t = (a.value ≡ act.Hangup nack_of_undecoded) × (t ≡ record s { state = Ended })
session_step accounts s (Heard now) t = t ≡ after_octets s now
session_step accounts s (Expired until found reply) t = t ≡ s
session_step accounts s (Looked now e) t = (e.value ≡ client_enquiry s now) × (t ≡ after_client_moment s now)
session_step accounts s (Unbound p) t = (p.value ≡ client_farewell s.state) × (t ≡ record s { state = client_state_after_stop s.state })
session_step accounts s (Forwarded ps os r) t = AreForwarded accounts s ps × (t ≡ s)
session_step accounts s LinkEnded t = t ≡ s
session_step accounts s (Collected k r) t = t ≡ s
session_step accounts s (Fetched g d) t = t ≡ s
session_step accounts s (PutAgain lane reply) t = t ≡ s

-- the message that a response answers leaves the window, where there is one
abbrev pub settle_step : Pdu → Option (ℕ × ℕ) → Window → Window → Type 0
settle_step p None w u = (message_for p.number p.command w.waiting ≡ None) × (u ≡ w)
settle_step p (Some found) w u = (row : Waiting) × (message_for p.number p.command w.waiting ≡ Some row) × (found.0 ≡ row.lane) × (found.1 ≡ row.number)
    × (u ≡ record w { waiting = without p.number w.waiting })

abbrev pub fate_window : Pdu → Fate → Window → Window → Type 0
fate_window p Own w u = u ≡ w
fate_window p (Submitted o r) w u = u ≡ w
fate_window p (Barred leave) w u = u ≡ w
fate_window p (Settled found reply) w u = settle_step p found w u

-- an item waits under the number that it is given
abbrev pub item_step : Got MoItem → Delivery → Window → Window → Type 0
item_step (Item p n item) (Given number since) w u = IsFirstFree w number × (u ≡ record w {
  last = number;
  waiting = w.waiting ++ record { given = number; lane = item.lane; number = item.number; command = item.pdu.command; since = since } ∷ [];
})
item_step _ (Given number since) w u = ⊥
item_step _ _ w u = u ≡ w

abbrev pub got_step : Result (Got MoItem) BoxSpent → Delivery → Window → Window → Type 0
got_step (Ok found) d w u = item_step found d w u
got_step (Err e) d w u = u ≡ w

-- the first message that was sent so long ago leaves the window, or there is none
abbrev pub expire_step : ℕ → Option (ℕ × ℕ × ℕ) → Window → Window → Type 0
expire_step until None w u = (overdue until w.waiting ≡ None) × (u ≡ w)
expire_step until (Some m) w u = (row : Waiting) × (overdue until w.waiting ≡ Some row) × (m.0 ≡ row.lane) × (m.1 ≡ row.number) × (m.2 ≡ row.command)
    × (u ≡ record w { waiting = without row.given w.waiting })

abbrev pub window_step : Window → Event → Window → Type 0
window_step w (Decided p a f) u = fate_window p.value f w u
window_step w (Broke a) u = u ≡ w
window_step w (Collected k r) u = u ≡ w
window_step w (Fetched g d) u = got_step g.value d w u
window_step w (PutAgain lane reply) u = u ≡ w
window_step w (Heard now) u = u ≡ w
window_step w (Expired until found reply) u = expire_step until found w u
window_step w (Looked now e) u = u ≡ w
window_step w (Unbound p) u = u ≡ w
window_step w (Forwarded ps os r) u = u ≡ w
window_step w LinkEnded u = u ≡ w

-- which delivery an item gets: dropped where its lane has no sender, refused where it is for another client
abbrev pub IsDelivered : ℕ → ℕ → Got MoItem → Delivery → Type 0
IsDelivered client lanes (Item p n item) (Given number since) = (item.lane < lanes) × (item.client ≡ client)
IsDelivered client lanes (Item p n item) (Refused reply) = (item.lane < lanes) × ¬ (item.client ≡ client)
IsDelivered client lanes (Item p n item) Dropped = ¬ (item.lane < lanes)
IsDelivered client lanes (Shut p) Dropped = Unit {0}
IsDelivered client lanes Empty Dropped = Unit {0}
IsDelivered client lanes _ _ = ⊥

-- one step of the box served a get, which is never spent
abbrev pub Gets : ℕ → ℕ → Receiving MoItem → Result (Got MoItem) BoxSpent → Delivery → Receiving MoItem → Type 0
Gets client lanes a (Ok found) d b = GetServes a b.front found × Hands a.got b.got found × IsDelivered client lanes found d
Gets client lanes a (Err e) d b = ⊥

abbrev pub inbox_step : ℕ → ℕ → Receiving MoItem → Event → Receiving MoItem → Type 0
inbox_step client lanes a (Decided p act f) b = b ≡ a
inbox_step client lanes a (Broke act) b = b ≡ a
inbox_step client lanes a (Collected k r) b = b ≡ a
inbox_step client lanes a (Fetched g d) b = Gets client lanes a g.value d b
inbox_step client lanes a (PutAgain lane reply) b = b ≡ a
inbox_step client lanes a (Heard now) b = b ≡ a
inbox_step client lanes a (Expired until found reply) b = b ≡ a
inbox_step client lanes a (Looked now e) b = b ≡ a
inbox_step client lanes a (Unbound p) b = b ≡ a
inbox_step client lanes a (Forwarded ps os r) b = b ≡ a
inbox_step client lanes a LinkEnded b = b ≡ a

abbrev pub fate_senders : Pdu → Fate → List (Sending Pdu) → List (Sending Pdu) → Type 0
fate_senders p Own ss tt = tt ≡ ss
fate_senders p (Submitted o r) ss tt = tt ≡ ss
fate_senders p (Barred leave) ss tt = tt ≡ ss
fate_senders p (Settled found reply) ss tt = SettlesSo p found reply ss tt

abbrev pub delivery_senders : Result (Got MoItem) BoxSpent → Delivery → List (Sending Pdu) → List (Sending Pdu) → Type 0
delivery_senders r (Given number since) ss tt = tt ≡ ss
delivery_senders r (Refused reply) ss tt = ItemAnswersSo r reply ss tt
delivery_senders r Dropped ss tt = tt ≡ ss

-- an answer to a message is put into its lane's return box by one step, or that step found no place, or the sender is spent, or there is none
abbrev pub senders_step : Option Parked → List (Sending Pdu) → Event → List (Sending Pdu) → Type 0
senders_step h ss (Decided p a f) tt = fate_senders p.value f ss tt
senders_step h ss (Broke a) tt = tt ≡ ss
senders_step h ss (Collected k r) tt = tt ≡ ss
senders_step h ss (Fetched g d) tt = delivery_senders g.value d ss tt
senders_step h ss (PutAgain lane reply) tt = (a : Parked) × (h ≡ Some a) × PutSo a.lane a.answer reply ss tt
senders_step h ss (Heard now) tt = tt ≡ ss
senders_step h ss (Expired until found reply) tt = ExpiresSo found reply ss tt
senders_step h ss (Looked now e) tt = tt ≡ ss
senders_step h ss (Unbound p) tt = tt ≡ ss
senders_step h ss (Forwarded ps os r) tt = tt ≡ ss
senders_step h ss LinkEnded tt = tt ≡ ss

abbrev pub fate_parks : Fate → Option Parked → Option Parked → Type 0
fate_parks Own h i = i ≡ h
fate_parks (Submitted o r) h i = i ≡ h
fate_parks (Barred leave) h i = i ≡ h
fate_parks (Settled found reply) h i = (h ≡ None) × Parks reply i

abbrev pub delivery_parks : Delivery → Option Parked → Option Parked → Type 0
delivery_parks (Given number since) h i = i ≡ h
delivery_parks (Refused reply) h i = (h ≡ None) × Parks reply i
delivery_parks Dropped h i = i ≡ h

-- the answer that waits
abbrev pub parked_step : Option Parked → Event → Option Parked → Type 0
parked_step h (Decided p a f) i = fate_parks f h i
parked_step h (Broke a) i = i ≡ h
parked_step h (Collected k r) i = i ≡ h
parked_step h (Fetched g d) i = delivery_parks d h i
parked_step h (PutAgain lane reply) i = (a : Parked) × (h ≡ Some a) × (lane ≡ a.lane) × Parks reply i
parked_step h (Heard now) i = i ≡ h
parked_step h (Expired until found reply) i = (h ≡ None) × Parks reply i
parked_step h (Looked now e) i = i ≡ h
parked_step h (Unbound p) i = i ≡ h
parked_step h (Forwarded ps os r) i = i ≡ h
parked_step h LinkEnded i = i ≡ h

pub record Parts : Type 0 where
  -- who may bind, and what was said to the client
  pub desk : Desk
  pub said : List Pdu
  pub port : PortView
  pub session : Client
  pub window : Window
  pub inbox : Receiving MoItem
  -- a sender for the return box of each lane, and the answer that waits for one
  pub senders : List (Sending Pdu)
  pub parked : Option Parked

-- one event is one step of the parts, as their own contracts say
pub record Does (v : Parts) (e : Event) (w : Parts) : Type 0 where
  pub says : w.said ≡ v.said ++ (worth e).said
  pub port : port_step v.port e w.port
  pub lists : (all : List Accepted) → HasAccepted v.port all → HasAccepted w.port (all ++ event_accepts e)
  pub session : session_step v.desk.accounts.items v.session e w.session
  pub window : window_step v.window e w.window
  pub inbox : inbox_step v.port.client (length v.senders) v.inbox e w.inbox
  pub senders : senders_step v.parked v.senders e w.senders
  pub answers : (k : ℕ) → k < length v.senders → put_in w.senders k ++ parked_on k w.parked ≡ put_in v.senders k ++ parked_on k v.parked ++ event_answers k e
  pub parked : parked_step v.parked e w.parked
  pub desk : w.desk ≡ v.desk
  pub lanes : length w.senders ≡ length v.senders

abbrev pub parts : Desk → List Pdu → PortView → Client → Window → Receiving MoItem → List (Sending Pdu) → Option Parked → Parts
parts desk said port session window inbox senders parked = record {
  desk = desk;
  said = said;
  port = port;
  session = session;
  window = window;
  inbox = inbox;
  senders = senders;
  parked = parked;
}

-- from the parts a the events lead to the parts b
abbrev pub Chain : Parts → List Event → Parts → Type 0
Chain a es b = ∥ Runs Does a es b ∥₁
