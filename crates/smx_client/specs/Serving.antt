-- What contracts see of a client's worker.
use Rattle.std.specs.Prelude.{◌≡◌, ◌≢◌, ℕ, Bool, true, List, [], ◌++◌, Option, Some, None, Result}
use Rattle.smx_pdu.specs.declared.pdu.Pdu.{Pdu}
use Rattle.smx_frame.specs.Stream.{HasNone}
use Rattle.smx_link.specs.Wiring.{Wiring}
use Rattle.smx_link.specs.declared.link.Polled.{Polled}
use Rattle.smx_link.specs.declared.link.LinkFault.{LinkFault}
use Rattle.smx_box.specs.Boxes.{Sending, Receiving}
use Rattle.smx_routes.specs.Window.{Window}
use Rattle.smx_session.specs.ClientAsks.{client_asks}
use Rattle.smx_session.specs.ClientMoments.{Client}
use Rattle.smx_session.specs.Login.{Login}
use Rattle.smx_session.specs.declared.ask.Ask.{Ask}
use Rattle.smx_session.specs.declared.client_state.ClientState.{ClientState}
use Rattle.smx_session.specs.declared.client_state.ClientState.TheVariants.{Ended}
use Rattle.smx_shared.specs.Views.{PortView, locks_of}
use Rattle.smx_turns.specs.declared.mo_item.MoItem.{MoItem}
use Rattle.smx_turns.specs.declared.end.TurnEnd.{TurnEnd}
use Rattle.smx_turns.specs.declared.end.Fault.{Fault}
use Rattle.smx_turns.specs.declared.end.End.{End}
use Rattle.smx_turns.specs.Endings.{ending_of}
use Rattle.smx_client.specs.declared.ending.Refusal.{Refusal}
use Rattle.smx_client.specs.Refusals.{last_refused}
use Rattle.smx_client.specs.declared.desk.Desk.{Desk}
use Rattle.smx_client.specs.declared.event.Event.{Event}
use Rattle.smx_client.specs.declared.stage.Stage.{Stage}
use Rattle.smx_client.specs.declared.stage.Stage.TheVariants.{Open, Drained, Closed}
use Rattle.smx_client.specs.declared.reply.Parked.{Parked}
use Rattle.smx_client.specs.declared.worker.Origin.{Origin}
use Rattle.smx_turns.specs.Wires.{IsBad, has_ended}
use Rattle.smx_turns.specs.Worth.{those, ins, has_broken}
use Rattle.smx_client.specs.Events.{worth}
use Rattle.smx_client.specs.Parts.{Parts, parts, Chain}
use Rattle.smx_client.specs.Table.{step_of}

pub record Serving (L : Type 0) : Type 0 where
  -- who may bind
  pub desk : Desk
  pub port : PortView
  pub session : Client
  -- the box of its slot, and a sender for the return box of each lane
  pub inbox : Receiving MoItem
  pub senders : List (Sending Pdu)
  -- the messages that wait for an answer
  pub window : Window
  -- how long a message may wait, in milliseconds (0: for ever)
  pub message_time : ℕ
  -- the PDUs over its link
  pub wire : Wiring L
  -- the PDU that was heard and not decided yet
  pub held : Option Pdu
  -- the answer to a message that a return box refused
  pub parked : Option Parked
  -- how its work ended, and the last bind that was refused
  pub ending : Option End
  pub refused : Option Refusal
  -- whether every whole PDU that came was decided
  pub settled : Bool
  pub stage : Stage
  -- how many turns it made, the steps of the last, and how each ended
  pub turns : ℕ
  pub steps : List step_of
  pub ends : List (Result TurnEnd Fault)
  -- the parts as they were handed over
  pub origin : Origin
  -- all that it did
  pub events : List Event

-- its parts, now and as they were handed over
abbrev pub parts_of : {L : Type 0} → Serving L → Parts
parts_of w = parts w.desk w.wire.said w.port w.session w.window w.inbox w.senders w.parked

abbrev pub first_of : {L : Type 0} → Serving L → Parts
first_of w = parts w.desk [] w.origin.port.value w.origin.session.value w.origin.window.value w.origin.inbox.value w.origin.senders.value.items None

-- what leave a PDU asks for, where one waits
abbrev pub asks_in : List Login → Option ℕ → ClientState → Option Pdu → Option Ask
asks_in accounts account state None = None
asks_in accounts account state (Some p) = client_asks accounts account state p

abbrev pub held_asks : {L : Type 0} → Serving L → Option Ask
held_asks w = asks_in w.desk.accounts.items w.session.account w.session.state w.held

-- what a worker keeps at every call
pub record IsServing {L : Type 0} (polls : L → List (Result Polled LinkFault)) (w : Serving L) : Type 0 where
  -- In: the PDUs heard are those decided, and then one that waits
  pub heard : w.wire.heard ≡ ins worth w.events ++ those w.held
  -- each event did what its call did, one after another
  pub runs : Chain (first_of w) w.events (parts_of w)
  -- no whole PDU is left where every one was decided
  pub settled : w.settled ≡ true → (w.held ≡ None) × HasNone 65536 w.wire.rest
  -- its port is of the exchange that the port handed over was of
  pub locks : locks_of w.port.fronts ≡ locks_of w.origin.port.value.fronts
  -- how the work ended, and which bind was refused, is what the events say
  pub over : w.ending ≡ ending_of worth w.events
  pub turned_away : w.refused ≡ last_refused w.events
  -- a bad length was told only where one was met
  pub broken : has_broken worth w.events ≡ true → IsBad w.wire
  -- the last read since it was made answered no end, or one, as its stage says
  pub opened : w.stage ≡ Open → has_ended (polls w.wire.link) ≡ true → polls w.wire.link ≡ polls w.wire.start
  pub drained : w.stage ≡ Drained → has_ended (polls w.wire.link) ≡ true
  -- closed once the session has ended, or the link has and every whole PDU was decided
  pub closed : w.stage ≡ Closed → w.session.state ≢ Ended → (w.settled ≡ true) × (has_ended (polls w.wire.link) ≡ true)
