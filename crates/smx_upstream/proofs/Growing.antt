-- Requests that a list has leave more octets to go out, so takes come to an end.
use Rattle.std.proofs.Common.{◌≡◌, ◌<◌, ◌≤◌, ◌+◌, ◌-◌, ℕ, List, [], ◌∷◌, ◌++◌, Bool, true, false, Option, Some, None, refl, Result, Ok, Err, IfOk, sym, true≢false, length, map, is_none, length-append, arith}
use Rattle.smx_pdu.specs.declared.pdu.Pdu.{Pdu}
use Rattle.smx_pdu.specs.Pdu.{spelling}
use Rattle.smx_pdu.proofs.Spelling.{length-spelling}
use Rattle.smx_link.specs.Wiring.{spellings}
use Rattle.smx_lock.specs.Fronts.{Front}
use Rattle.smx_lock.specs.declared.faults.Spent.{Spent}
use Rattle.smx_history.specs.declared.limits.Limits.{Limits}
use Rattle.smx_history.specs.declared.note.Note.{Note}
use Rattle.smx_history.specs.declared.reply.TakeRefusal.{TakeRefusal}
use Rattle.smx_lane.specs.declared.sent.Sent.{Sent}
use Rattle.smx_shared.specs.declared.batch.Takings.{Takings}
use Rattle.smx_shared.specs.Batches.{TakesAll, octets_of_requests}
use Rattle.smx_upstream.specs.Events.{face_up, may_give_more, requests_up}

longer : (p : Pdu) (more us : List ℕ) → length us < length (us ++ (spelling p ++ more))
longer p more us = omega (arith, length-append us (spelling p ++ more), length-append (spelling p) more, length-spelling p)

grows_by : (ss : List Sent) (us : List ℕ) → 0 < length ss → length us < length (us ++ spellings (map face_up ss))
grows_by [] us some = absurd (omega (arith, some))
grows_by (s ∷ ss) us some = longer (face_up s) (spellings (map face_up ss)) us

has_none : (o : Option TakeRefusal) → is_none o ≡ true → o ≡ None
has_none None h = refl
has_none (Some r) h = absurd (true≢false (sym h))

-- a list that may be followed by another has a request
pub grows : (f g : Front Note Limits) (now : ℕ) (r : Result Takings Spent) (us : List ℕ) → TakesAll f g now r → may_give_more r ≡ true → length us < length (us ++ spellings (requests_up r))
grows f g now (Ok b) us t h = grows_by b.requests.items us (t.some (has_none b.stop h))
grows f g now (Err e) us t h = absurd (true≢false (sym h))

-- how much a turn may still take, where its lane may have more or not
abbrev pub left_to_take : Bool → List ℕ → ℕ
left_to_take true us = 1 + (65536 - length us)
left_to_take false us = 0

pub takes_end : (more : Bool) (us us' : List ℕ) → length us < 65536 → (more ≡ true → length us < length us') → left_to_take more us' < left_to_take true us
takes_end true us us' few more = omega (arith, few, more refl)
takes_end false us us' few more = omega (arith)

-- the room for one PDU is room for a list
pub fits : (f g : Front Note Limits) (now room : ℕ) (r : Result Takings Spent) → TakesAll f g now r → 65536 ≤ room → IfOk r (λ b. octets_of_requests b.requests.items ≤ room)
fits f g now room (Ok b) t enough = omega (arith, t.octets, enough)
fits f g now room (Err e) t enough = tt
