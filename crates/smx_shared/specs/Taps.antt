-- What a tap's caller knows of the tap's notes.
use Rattle.std.specs.Prelude.{ℕ, List, [], ◌∷◌, ◌++◌, map, filter_map, Option, Some, None, Result, Ok, Err}
use Rattle.smx_pdu.specs.declared.pdu.Pdu.{Pdu}
use Rattle.smx_history.specs.declared.note.Note.{Note}
use Rattle.smx_history.specs.declared.note.Event.{Event}
use Rattle.smx_history.specs.declared.note.Event.TheVariants as event
use Rattle.smx_history.specs.declared.reply.Answered.{Answered}
use Rattle.smx_history.specs.declared.reply.Answered.TheVariants as answered
use Rattle.std.specs.Global.{Vec}
use Rattle.smx_lane.specs.declared.sent.Sent.{Sent}
use Rattle.smx_lane.specs.declared.settled.Settled.{Settled}
use Rattle.smx_shared.specs.declared.batch.Takings.{Takings}

-- a note without its ordinal
pub data Known : Type 0 where
  Took : (client upstream : ℕ) → Known
  Queued : (client : ℕ) → (response : Pdu) → Known
  CameLate : (client upstream command : ℕ) → Known

abbrev pub known_from : Option Event → Option Known
known_from (Some (event.Take c n u t)) = Some (Took c u)
known_from (Some (event.Answer c n p)) = Some (Queued c p)
known_from (Some (event.Late c n u k)) = Some (CameLate c u k)
known_from _ = None

-- what is known of these notes, in order
abbrev pub known_of : List Note → List Known
known_of h = filter_map (λ n. known_from n.event) h

-- what a take adds to it
abbrev pub known_by_take : {E : Type 0} → Result Sent E → List Known
known_by_take (Ok sent) = Took sent.request.client sent.upstream ∷ []
known_by_take (Err _) = []

-- what an answer adds to it
abbrev pub known_by_answer : {E : Type 0} → Pdu → Result Answered E → List Known
known_by_answer p (Ok (answered.Queued c)) = Queued c p ∷ []
known_by_answer p (Ok (answered.Late c)) = CameLate c p.number p.command ∷ []
known_by_answer p _ = []

-- what a list of takes adds to it
abbrev pub known_by_takes : {E : Type 0} → Result Takings E → List Known
known_by_takes (Ok b) = map (λ s. Took s.request.client s.upstream) b.requests.items
known_by_takes (Err _) = []

-- what a list of answers adds to it
abbrev pub known_by_settled : List Pdu → List Settled → List Known
known_by_settled (p ∷ ps) (s ∷ ss) = known_by_answer {E = Unit {0}} p (Ok s.answered) ++ known_by_settled ps ss
known_by_settled _ _ = []

abbrev pub known_by_answers : {E : Type 0} → List Pdu → Result (Vec Settled) E → List Known
known_by_answers ps (Ok ss) = known_by_settled ps ss.items
known_by_answers ps (Err _) = []
