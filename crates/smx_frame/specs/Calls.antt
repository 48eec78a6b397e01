-- Calls of a framer, one after another.
use Rattle.std.specs.Prelude.{◌≡◌, ℕ, List, [], ◌∷◌, ◌++◌, Some}
use Rattle.smx_pdu.specs.declared.pdu.Pdu.{Pdu}
use Rattle.smx_frame.specs.declared.fault.FrameFault.{FrameFault}
use Rattle.smx_frame.specs.Stream.{HasNone, TakesFirst, Begins, Cuts, fault_at}

-- a call that changed what is left: a piece that feed took, or a PDU that next_pdu handed out
pub data Call : Type 0 where
  fed : List ℕ → Call
  given : Pdu → Call

abbrev pub octets_fed : List Call → List ℕ
octets_fed [] = []
octets_fed (fed piece ∷ calls) = piece ++ octets_fed calls
octets_fed (given p ∷ calls) = octets_fed calls

abbrev pub pdus_given : List Call → List Pdu
pdus_given [] = []
pdus_given (fed piece ∷ calls) = pdus_given calls
pdus_given (given p ∷ calls) = p ∷ pdus_given calls

-- what is left goes from old to new by these calls, each as the contracts of feed and next_pdu say
abbrev pub Goes : ℕ → List ℕ → List Call → List ℕ → Type 0
Goes max old [] new = new ≡ old
Goes max old (fed piece ∷ calls) new = Goes max (old ++ piece) calls new
Goes max old (given p ∷ calls) new = (between : List ℕ) × (TakesFirst max old p between × Goes max between calls new)

-- a framer's calls over a whole stream
pub record StreamLaw : Type 0 where
  -- whatever the calls, the octets fed are the PDUs handed out, and then what is left
  pub kept : (max : ℕ) (calls : List Call) (rest : List ℕ) → Goes max [] calls rest → Begins max (octets_fed calls) (pdus_given calls) rest
  -- two readings of one stream are one
  pub one_reading : (max : ℕ) (octets : List ℕ) (ps qs : List Pdu) (r s : List ℕ) → Cuts max octets ps r → Cuts max octets qs s → (ps ≡ qs) × (r ≡ s)
  -- so the pieces don't matter, once next_pdu has no more to hand out
  pub any_pieces : (max : ℕ) (calls others : List Call) (r s : List ℕ) → octets_fed calls ≡ octets_fed others
      → Goes max [] calls r → HasNone max r → Goes max [] others s → HasNone max s → (pdus_given calls ≡ pdus_given others) × (r ≡ s)
  -- at a bad length the stream ends: no PDU begins there, however the octets go on
  pub bad_length : (max : ℕ) (rest more : List ℕ) (e : FrameFault) → fault_at max rest ≡ Some e → HasNone max (rest ++ more) × (fault_at max (rest ++ more) ≡ Some e)
