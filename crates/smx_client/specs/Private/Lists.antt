-- What is said of a list of offers.
use Rattle.std.specs.Prelude.{◌∷◌, ℕ, List, [], map, length, Result, Ok, Err}
use Rattle.std.specs.Global.{Vec}
use Rattle.std.specs.List.{flat_map}
use Rattle.smx_pdu.specs.declared.pdu.Pdu.{Pdu}
use Rattle.smx_history.specs.Failures.{refusal_of}
use Rattle.smx_lock.specs.declared.faults.Spent.{Spent}
use Rattle.smx_shared.specs.declared.batch.Landing.{Landing}
use Rattle.smx_shared.specs.declared.offer.Offer.{Offer}
use Rattle.smx_shared.specs.declared.fault.SubmitFault.{SubmitFault}
use Rattle.smx_shared.specs.declared.fault.SubmitFault.TheVariants as submit
use Rattle.smx_client.specs.Events.{why_unaccepted}

-- the answer to an offer that came back for this
abbrev pub back_out : Offer → SubmitFault → Pdu
back_out o why = refusal_of (why_unaccepted why) o.command o.own

abbrev pub landed_out : Result ℕ (Offer × SubmitFault) → List Pdu
landed_out (Ok lane) = []
landed_out (Err e) = back_out e.0 e.1 ∷ []

-- and to those of a list, and how many it has
abbrev pub list_out : Result (Vec Landing) (Vec Offer × Spent) → List Pdu
list_out (Ok ls) = flat_map (λ l. landed_out l.landed) ls.items
list_out (Err e) = map (λ o. back_out o submit.Spent) e.0.items

abbrev pub list_length : Result (Vec Landing) (Vec Offer × Spent) → ℕ
list_length (Ok ls) = length ls.items
list_length (Err e) = length e.0.items
