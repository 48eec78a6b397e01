-- What an offer becomes, and what a port's accepts were.
use Rattle.std.specs.Prelude.{◌+◌, ◌==◌, ℕ, List, [], ◌∷◌, Result, Ok, Err, if◌then◌else◌}
use Rattle.smx_history.specs.declared.request.Request.{Request}
use Rattle.smx_shared.specs.declared.offer.Offer.{Offer}

-- the client's request of that ordinal
abbrev pub request_for : ℕ → ℕ → Offer → Request
request_for c n o = record { client = c; ordinal = n; own = o.own; command = o.command; body = o.body; forwarded = o.forwarded }

-- an offer that was accepted, and the lane that accepted it
pub record Accepted : Type 0 where
  pub lane : ℕ
  pub offer : Offer

-- what a submit of the offer adds to the port's accepts
abbrev pub accepted_by : {E : Type 0} → Offer → Result ℕ E → List Accepted
accepted_by o (Ok lane) = record { lane = lane; offer = o } ∷ []
accepted_by o (Err _) = []

-- the accepts, numbered from n on, as requests of the client: those on lane k
abbrev pub requests_on : ℕ → ℕ → ℕ → List Accepted → List Request
requests_on k c n [] = []
requests_on k c n (a ∷ all) = if a.lane == k then request_for c n a.offer ∷ requests_on k c (n + 1) all else requests_on k c (n + 1) all
