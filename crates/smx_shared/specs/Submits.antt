-- How a submit goes round the lanes.
use Rattle.std.specs.Prelude.{◌≡◌, ◌≢◌, ℕ, ◌+◌, ◌-◌, ◌%◌, ◌^◌, List, [], ◌∷◌, ◌++◌, length, slice_get, set, Some, Ok, Err}
use Rattle.smx_lock.specs.Fronts.{Front, IsSpent}
use Rattle.smx_history.specs.declared.limits.Limits.{Limits}
use Rattle.smx_history.specs.declared.note.Note.{Note}
use Rattle.smx_history.specs.declared.request.Request.{Request}
use Rattle.smx_history.specs.declared.reply.Refusal.{Refusal}
use Rattle.smx_history.specs.declared.reply.Refusal.TheVariants.{NotAdmitted, HistoryFull}
use Rattle.smx_history.specs.Ring.{ring}
use Rattle.smx_shared.specs.declared.offer.Offer.{Offer}
use Rattle.smx_shared.specs.declared.fault.SubmitFault.{SubmitFault}
use Rattle.smx_shared.specs.declared.fault.SubmitFault.TheVariants as fault
use Rattle.smx_shared.specs.Views.{PortView}
use Rattle.smx_shared.specs.Offers.{request_for}
use Rattle.smx_shared.specs.Roomy.{IsCrowded}
use Rattle.smx_shared.specs.Serving.{AcceptServes}

-- on one lane this became of the front, and the others are as they were
abbrev pub OnLane : ℕ → List (Front Note Limits) → List (Front Note Limits) → (Front Note Limits → Front Note Limits → Type 0) → Type 0
OnLane lane old new P = (f : Front Note Limits) × (g : Front Note Limits) × (slice_get old lane ≡ Some f) × (new ≡ set old lane g) × (g.lock ≡ f.lock) × P f g

-- one hold found the lane full for the client, of its requests, of requests or, by what it holds itself, of entries, or down
abbrev pub FullServes : Request → Front Note Limits → Front Note Limits → Type 0
FullServes r f g = (e : Refusal) × (h : AcceptServes f g r (Err (r, e))) × (e ≢ NotAdmitted) × (e ≡ HistoryFull → IsCrowded h.old)

-- each of these lanes, one after the other, was found full, and the others are as they were
abbrev pub FoundFull : List ℕ → Request → List (Front Note Limits) → List (Front Note Limits) → Type 0
FoundFull [] r old new = new ≡ old
FoundFull (lane ∷ lanes) r old new = (mid : List (Front Note Limits)) × OnLane lane old mid (FullServes r) × FoundFull lanes r mid new

-- the lanes before this one in the ring were found full, this became of the front on it, and the others are as they were
abbrev pub Reaches : ℕ → Request → List (Front Note Limits) → List (Front Note Limits) → ℕ → (Front Note Limits → Front Note Limits → Type 0) → Type 0
Reaches start r old new lane P = (before : List ℕ) × (after : List ℕ) × (mid : List (Front Note Limits))
    × (ring start (length old) ≡ before ++ lane ∷ after) × FoundFull before r old mid × OnLane lane mid new P

-- the request that the port's next offer becomes
abbrev pub request_of : PortView → Offer → Request
request_of v o = request_for v.client v.next o

-- the lane that is tried first
abbrev pub start_of : PortView → ℕ
start_of v = (v.next - 1) % length v.fronts

-- the lane named is the first of the ring that accepted the request
abbrev pub AcceptsOn : ℕ → Request → List (Front Note Limits) → List (Front Note Limits) → ℕ → Type 0
AcceptsOn start r old new lane = Reaches start r old new lane (λ f g. AcceptServes f g r (Ok tt))

-- all lanes of the ring were found full, or the first that wasn't is spent
abbrev pub StopsOn : ℕ → Request → List (Front Note Limits) → List (Front Note Limits) → SubmitFault → Type 0
StopsOn start r old new fault.AllFull = FoundFull (ring start (length old)) r old new
StopsOn start r old new fault.Spent = (lane : ℕ) × Reaches start r old new lane IsSpent
StopsOn start r old new fault.Exhausted = ⊥

-- the lane named accepted the request, and the ordinal is used
abbrev pub Submitted : PortView → Offer → PortView → ℕ → Type 0
Submitted v o w lane = AcceptsOn (start_of v) (request_of v o) v.fronts w.fronts lane × (w ≡ record v { next = v.next + 1; fronts = w.fronts })

-- no ordinal is used
abbrev pub Refuses : PortView → Offer → PortView → SubmitFault → Type 0
Refuses v o w fault.Exhausted = (v.next ≡ 2 ^ 62 + 1) × (w ≡ v)
Refuses v o w stop = StopsOn (start_of v) (request_of v o) v.fronts w.fronts stop × (w ≡ record v { fronts = w.fronts })
