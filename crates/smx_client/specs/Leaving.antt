-- What becomes of a client's messages when it leaves, step by step.
use Rattle.std.specs.Prelude.{◌≡◌, ◌+◌, ◌++◌, ◌⊎◌, ℕ, Bool, true, false, ◌||◌, List, [], ◌∷◌, Option, Some, None}
use Rattle.smx_pdu.specs.declared.pdu.Pdu.{Pdu}
use Rattle.smx_pdu.specs.Command.{response_of}
use Rattle.smx_routes.specs.declared.mo_window.Waiting.{Waiting}
use Rattle.smx_box.specs.Boxes.{Sending, Receiving}
use Rattle.smx_routes.specs.Window.{Window, IsFirst, without}
use Rattle.smx_turns.specs.Runs.{Runs}
use Rattle.smx_turns.specs.Puts.{Gets, finds_nothing}
use Rattle.smx_turns.specs.declared.mo_item.MoItem.{MoItem}
use Rattle.smx_client.specs.declared.reply.Parked.{Parked}
use Rattle.smx_client.specs.declared.leaver.Leaving.{Leaving}
use Rattle.smx_client.specs.declared.leaver.Leaving.TheVariants.{Kept, Row, Item}
use Rattle.smx_client.specs.Replies.{refused_up, is_answer_taken, PutSo, AnswersSo, ItemAnswersSo}

-- what is left to be answered
pub record Rest : Type 0 where
  pub parked : Option Parked
  pub window : Window
  pub inbox : Receiving MoItem
  -- a sender for the return box of each lane
  pub senders : List (Sending Pdu)

abbrev pub rest_of : Option Parked → Window → Receiving MoItem → List (Sending Pdu) → Rest
rest_of parked window inbox senders = record { parked = parked; window = window; inbox = inbox; senders = senders }

-- the order: the answer that waits before all, then the messages that were sent by rising number, then the box's items
abbrev pub answers_next : Rest → Leaving → Rest → Type 0
answers_next v (Kept reply) w = (a : Parked) × (v.parked ≡ Some a) × (w.parked ≡ None) × (w.window ≡ v.window) × (w.inbox ≡ v.inbox)
    × PutSo a.lane a.answer reply v.senders w.senders
answers_next v (Row lane number command reply) w = (row : Waiting) × (v.parked ≡ None) × IsFirst v.window.waiting row × (lane ≡ row.lane) × (number ≡ row.number) × (command ≡ row.command)
    × (w.parked ≡ None) × (w.window ≡ record v.window { waiting = without row.given v.window.waiting }) × (w.inbox ≡ v.inbox)
    × AnswersSo lane (refused_up (response_of command) number) reply v.senders w.senders
answers_next v (Item g reply) w = (v.parked ≡ None) × (v.window.waiting ≡ []) × (w.parked ≡ None) × (w.window ≡ v.window) × Gets v.inbox w.inbox g.value
    × ItemAnswersSo g.value reply v.senders w.senders

abbrev pub Left : Rest → List Leaving → Rest → Type 0
Left a es b = ∥ Runs answers_next a es b ∥₁

abbrev pub get_of : Leaving → ℕ
get_of (Kept reply) = 0
get_of (Row lane number command reply) = 0
get_of (Item g reply) = 1

abbrev pub is_put : Leaving → Bool
is_put (Kept reply) = is_answer_taken reply
is_put (Row lane number command reply) = is_answer_taken reply
is_put (Item g reply) = is_answer_taken reply

-- whether a return box took an answer
unfoldable pub is_answered : List Leaving → Bool
is_answered [] = false
is_answered (e ∷ es) = is_put e || is_answered es

-- how often the box was asked
unfoldable pub gets : List Leaving → ℕ
gets [] = 0
gets (e ∷ es) = get_of e + gets es

abbrev pub FoundNothing : Leaving → Type 0
FoundNothing (Kept reply) = ⊥
FoundNothing (Row lane number command reply) = ⊥
FoundNothing (Item g reply) = finds_nothing g.value ≡ true

-- the box was asked until it gave nothing, or as often as it has places
abbrev pub IsEmptied : ℕ → List Leaving → Type 0
IsEmptied places es = (gets es ≡ places) ⊎ ((before : List Leaving) × (last : Leaving) × (es ≡ before ++ last ∷ []) × FoundNothing last)
