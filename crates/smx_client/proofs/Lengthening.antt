-- What a lane gave for a client fits the wire, and where more may wait it made what waits longer.
use Rattle.std.proofs.Common.{◌≡◌, ◌≤◌, ◌<◌, ℕ, List, [], ◌∷◌, ◌++◌, length, length-append, arith, true, Result, Ok, Err, IfOk, IsOkAnd}
use Rattle.smx_pdu.specs.Pdu.{spelling}
use Rattle.smx_pdu.proofs.Spelling.{length-spelling}
use Rattle.smx_history.specs.declared.response.Response.{Response}
use Rattle.smx_lock.specs.declared.faults.Spent.{Spent}
use Rattle.smx_link.specs.Wiring.{spellings}
use Rattle.smx_shared.specs.Views.{PortView}
use Rattle.smx_shared.specs.Batches.{octets_of_responses}
use Rattle.smx_shared.specs.Collecting.{CollectsAll}
use Rattle.smx_shared.specs.declared.batch.Collected.{Collected as Batch}
use Rattle.smx_client.specs.Events.{pdus_of, response_out}

longer : (rs : List Response) (us : List ℕ) → 0 < length rs → length us < length (us ++ spellings (pdus_of rs))
longer [] us some = absurd (omega (arith, some))
longer (r ∷ rs) us some =
    omega (arith, length-append us (spelling r.pdu ++ spellings (pdus_of rs)), length-append (spelling r.pdu) (spellings (pdus_of rs)), length-spelling r.pdu)

pub lengthens : (lane : ℕ) (v w : PortView) (r : Result Batch Spent) (us : List ℕ) → CollectsAll lane v w r → IsOkAnd r (λ b. b.more ≡ true) → length us < length (us ++ spellings (response_out r))
lengthens lane v w (Ok b) us served more = longer b.responses.items us (served.5.some more)
lengthens lane v w (Err e) us served more = absurd more

pub fits : (lane : ℕ) (v w : PortView) (r : Result Batch Spent) (room : ℕ) → CollectsAll lane v w r → 65536 ≤ room → IfOk r (λ b. octets_of_responses b.responses.items ≤ room)
fits lane v w (Ok b) room served enough = let few = served.5.octets in omega (arith, few, enough)
fits lane v w (Err e) room served enough = tt
