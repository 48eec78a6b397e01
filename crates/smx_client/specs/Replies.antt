-- Answers to messages, for the return boxes of the lanes.
use Rattle.std.specs.Prelude.{◌≡◌, ◌==◌, ◌<◌, ℕ, Bool, true, false, List, [], ◌∷◌, length, map, Option, Some, None, IsSome, Result, Ok, slice_get, if◌then◌else◌}
use Rattle.smx_pdu.specs.declared.pdu.Pdu.{Pdu}
use Rattle.smx_pdu.specs.declared.status.TheConstants.{ESME_RX_T_APPN}
use Rattle.smx_pdu.specs.Command.{response_of}
use Rattle.smx_box.specs.declared.fault.Spent.{Spent as BoxSpent}
use Rattle.smx_box.specs.declared.receiver.Got.{Got}
use Rattle.smx_box.specs.declared.receiver.Got.TheVariants.{Item}
use Rattle.smx_box.specs.Boxes.{Sending}
use Rattle.smx_turns.specs.declared.mo_item.MoItem.{MoItem}
use Rattle.smx_turns.specs.Puts.{AtIndex, Puts, FindsFull, FindsSpent, contents_in}
use Rattle.smx_client.specs.declared.reply.Parked.{Parked}
use Rattle.smx_client.specs.declared.reply.Reply.{Reply}
use Rattle.smx_client.specs.declared.reply.Reply.TheVariants.{Taken, Full, Spent, Nobody}

-- an answer goes upstream with the centre's number
abbrev pub answer_up : Pdu → ℕ → Pdu
answer_up p number = record { command = p.command; status = p.status; number = number; body = p.body }

-- what a message that reaches nobody is answered, where its command has a response
abbrev pub refused_up : Option ℕ → ℕ → List Pdu
refused_up None number = []
refused_up (Some id) number = record { command = id; status = ESME_RX_T_APPN; number = number; body = [] } ∷ []

-- those for this lane, as its return box holds them
abbrev pub on_lane : ℕ → ℕ → List Pdu → List (Option Pdu)
on_lane k lane ps = if k == lane then map Some ps else []

abbrev pub is_answer_taken : Reply → Bool
is_answer_taken Taken = true
is_answer_taken Full = false
is_answer_taken Spent = false
is_answer_taken Nobody = false

-- an answer for this lane: one step of its return box put it, or found each place taken, or the sender's numbers are spent; or the lane has no sender
abbrev pub PutSo : ℕ → Pdu → Reply → List (Sending Pdu) → List (Sending Pdu) → Type 0
PutSo lane answer Taken ss tt = AtIndex lane ss tt (λ x y. (n : ℕ) × Puts answer n x y)
PutSo lane answer Full ss tt = AtIndex lane ss tt FindsFull
PutSo lane answer Spent ss tt = AtIndex lane ss tt FindsSpent
PutSo lane answer Nobody ss tt = ¬ (lane < length ss) × (tt ≡ ss)

-- the same, where there is an answer
abbrev pub AnswersSo : ℕ → List Pdu → Reply → List (Sending Pdu) → List (Sending Pdu) → Type 0
AnswersSo lane [] reply ss tt = (reply ≡ Nobody) × (tt ≡ ss)
AnswersSo lane (p ∷ ps) reply ss tt = PutSo lane p reply ss tt

-- the answer to what the box gave, where it is an item, was put so
abbrev pub ItemAnswersSo : Result (Got MoItem) BoxSpent → Reply → List (Sending Pdu) → List (Sending Pdu) → Type 0
ItemAnswersSo (Ok (Item p n item)) reply ss tt = AnswersSo item.lane (refused_up (response_of item.pdu.command) item.number) reply ss tt
ItemAnswersSo _ reply ss tt = (reply ≡ Nobody) × (tt ≡ ss)

-- the client's answer to a message, where it answers one, was put so under the centre's number
abbrev pub SettlesSo : Pdu → Option (ℕ × ℕ) → Reply → List (Sending Pdu) → List (Sending Pdu) → Type 0
SettlesSo p None reply ss tt = (reply ≡ Nobody) × (tt ≡ ss)
SettlesSo p (Some found) reply ss tt = PutSo found.0 (answer_up p found.1) reply ss tt

-- the answer to a message that the client didn't answer in time, where there is one
abbrev pub ExpiresSo : Option (ℕ × ℕ × ℕ) → Reply → List (Sending Pdu) → List (Sending Pdu) → Type 0
ExpiresSo None reply ss tt = (reply ≡ Nobody) × (tt ≡ ss)
ExpiresSo (Some m) reply ss tt = AnswersSo m.0 (refused_up (response_of m.2) m.1) reply ss tt

-- the answer waits then where its box refused it
abbrev pub Parks : Reply → Option Parked → Type 0
Parks Taken h = h ≡ None
Parks Full h = IsSome h
Parks Spent h = IsSome h
Parks Nobody h = h ≡ None

-- what the return box of lane k was put
abbrev pub put_in : List (Sending Pdu) → ℕ → List (Option Pdu)
put_in senders k = contents_in (slice_get senders k)

abbrev pub parked_on : ℕ → Option Parked → List (Option Pdu)
parked_on k None = []
parked_on k (Some a) = on_lane k a.lane (a.answer ∷ [])
