-- A client's mailbox: the messages that wait for it, and those that it was sent and has not answered.
use Rattle.std.specs.Prelude.{ℕ, Bool, List, [], ◌∷◌, ◌++◌, length, map, not, unwrap_or, nat_le, if◌then◌else◌}
use Rattle.std.specs.List.{find, range_with_len}
use Rattle.smx_pdu.specs.declared.pdu.Pdu.{Pdu}
use Rattle.smx_routes.specs.declared.mo_window.Waiting.{Waiting}
use Rattle.smx_routes.specs.Window.{Window, number_behind, waits, without}
use Rattle.smx_mailbox.specs.declared.message.Message.{Message}
use Rattle.smx_mailbox.specs.declared.message.Unanswered.{Unanswered}

-- the messages that wait, the oldest first, and the window of those that the client was sent
pub record Mailbox : Type 0 where
  pub waiting : List Message
  pub window : Window

abbrev pub new_mailbox : ℕ → Mailbox
new_mailbox places = record { waiting = []; window = record { places = places; last = 0; waiting = [] } }

-- no message, and the last number given is this
abbrev pub mailbox_after : ℕ → ℕ → Mailbox
mailbox_after places last = record { waiting = []; window = record { places = places; last = last; waiting = [] } }

-- a message waits at each place
abbrev pub is_full : Mailbox → Bool
is_full m = nat_le m.window.places (length m.waiting)

-- the message is the last that waits
abbrev pub with_message : Message → Mailbox → Mailbox
with_message message m = record m { waiting = m.waiting ++ message ∷ [] }

-- the first number behind the last one given under which no message waits, of one number for each place
abbrev pub next_number : Window → ℕ
next_number w = unwrap_or (find (λ n. not (waits n w.waiting)) (map (number_behind w.last) (range_with_len 0 w.places))) 0

-- the message waits under the next number
abbrev pub with_given : Window → Message → Window
with_given w message = record w {
  last = next_number w;
  waiting = w.waiting ++ record { given = next_number w; lane = message.lane; number = message.pdu.number; command = message.pdu.command; since = 0 } ∷ [];
}

-- the message as the client is sent it, under this number (SMPP 3.4, section 4.6.1)
abbrev pub sent_as : Message → ℕ → Pdu
sent_as message number = record { command = message.pdu.command; status = 0; number = number; body = message.pdu.body }

-- the messages that the client is sent: one after another, as long as the window has a place
abbrev pub pdus_sent : Window → List Message → List Pdu
pdus_sent w [] = []
pdus_sent w (message ∷ messages) = if nat_le w.places (length w.waiting) then [] else sent_as message (next_number w) ∷ pdus_sent (with_given w message) messages

-- the mailbox that this leaves
abbrev pub after_sent : Window → List Message → Mailbox
after_sent w [] = record { waiting = []; window = w }
after_sent w (message ∷ messages) =
    if nat_le w.places (length w.waiting) then record { waiting = message ∷ messages; window = w } else after_sent (with_given w message) messages

-- the message under the number was answered
abbrev pub after_settling : ℕ → Mailbox → Mailbox
after_settling number m = record m { window = record m.window { waiting = without number m.window.waiting } }

-- a message among others in rising order of the numbers given
abbrev pub among : Waiting → List Waiting → List Waiting
among w [] = w ∷ []
among w (v ∷ vs) = if nat_le w.given v.given then w ∷ v ∷ vs else v ∷ among w vs

abbrev pub rising : List Waiting → List Waiting
rising [] = []
rising (w ∷ ws) = among w (rising ws)

abbrev pub unanswered_sent : Waiting → Unanswered
unanswered_sent w = record { lane = w.lane; number = w.number; command = w.command }

abbrev pub unanswered_waiting : Message → Unanswered
unanswered_waiting message = record { lane = message.lane; number = message.pdu.number; command = message.pdu.command }

-- the messages without an answer: those that the client was sent, in rising order of their numbers, and then those that wait
abbrev pub unanswered_messages : Mailbox → List Unanswered
unanswered_messages m = map unanswered_sent (rising m.window.waiting) ++ map unanswered_waiting m.waiting

abbrev pub empty_mailbox : Mailbox → Mailbox
empty_mailbox m = record { waiting = []; window = record m.window { waiting = [] } }
