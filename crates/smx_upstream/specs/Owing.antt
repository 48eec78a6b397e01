-- The answers to the centre's messages that go out, beside the messages that were put into boxes.
use Rattle.std.specs.Prelude.{◌≡◌, ◌≤◌, ℕ, Bool, true, List, [], ◌∷◌, count_by}
use Rattle.std.specs.List.{flat_map}
use Rattle.smx_pdu.specs.declared.pdu.Pdu.{Pdu}
use Rattle.smx_pdu.specs.Command.{is_response_to}
use Rattle.smx_upstream.specs.declared.event.Event.{Event}
use Rattle.smx_upstream.specs.declared.event.Event.TheVariants.{Sought, Decided, Took}
use Rattle.smx_upstream.specs.declared.event.Fate.{Fate}
use Rattle.smx_upstream.specs.declared.event.Fate.TheVariants as fate
use Rattle.smx_upstream.specs.Events.{worth}

-- the answer of a client that goes out
abbrev pub answer_by : Event → List Pdu
answer_by (Sought r under) = (worth (Sought r under)).said
answer_by _ = []

abbrev pub put_message : Pdu → Fate → List Pdu
put_message p (fate.Put place n given full) = p ∷ []
put_message p _ = []

-- the message of the centre that was put into a box
abbrev pub message_by : Event → List Pdu
message_by (Decided p now a f) = put_message p.value f
message_by _ = []

unfoldable pub answers : List Event → List Pdu
answers es = flat_map answer_by es

unfoldable pub messages : List Event → List Pdu
messages es = flat_map message_by es

-- whether a PDU's number and command are such
abbrev pub is_such : (ℕ → ℕ → Bool) → Pdu → Bool
is_such such p = such p.number p.command

-- what such an answer answers are such messages, each under its own number
abbrev pub Suits : (ℕ → ℕ → Bool) → (ℕ → ℕ → Bool) → Type 0
Suits answer message = (number request command : ℕ) → is_response_to request command ≡ true → answer number command ≡ true → message number request ≡ true

-- Of whatever answers: no more of them went out than messages came that they answer. So under each number no more answers went out than messages came under it, and of each command no more than messages that it answers
abbrev pub AreOwn : List Event → Type 0
AreOwn es = (answer message : ℕ → ℕ → Bool) → Suits answer message → count_by (is_such answer) (answers es) ≤ count_by (is_such message) (messages es)

-- what an event passes on: an answer of a client, or a request
abbrev pub passed_by : Event → List Pdu
passed_by (Sought r under) = (worth (Sought r under)).said
passed_by (Took r) = (worth (Took r)).said
passed_by _ = []

unfoldable pub passed : List Event → List Pdu
passed es = flat_map passed_by es
