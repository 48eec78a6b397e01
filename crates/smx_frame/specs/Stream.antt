-- A stream of PDUs, as far as it has come.
use Rattle.std.specs.Prelude.{◌≡◌, ℕ, ◌≤◌, List, ◌++◌, length, nat_lt, Option, Some, None, if◌then◌else◌}
use Rattle.std.specs.List.{flat_map, AllByRecursion}
use Rattle.smx_pdu.specs.declared.pdu.Pdu.{Pdu}
use Rattle.smx_pdu.specs.Pdu.{spelling, Spells, length_field}
use Rattle.smx_frame.specs.declared.fault.FrameFault.{FrameFault}
use Rattle.smx_frame.specs.declared.fault.FrameFault.TheVariants.{Below16, AboveMax}

-- the greatest length, what was fed and not handed out, and the fault that was answered
pub record Stream : Type 0 where
  pub max : ℕ
  pub rest : List ℕ
  pub failed : Option FrameFault

-- a framer: its stream, and how many octets can be fed before memory is wanted
pub record Framing : Type 0 where
  pub stream : Stream
  pub room : ℕ

-- the fault of a bad length in a PDU's place, where its four octets stand there
unfoldable pub fault_at : ℕ → List ℕ → Option FrameFault
fault_at max rest =
    if nat_lt (length rest) 4 then None
    else if nat_lt (length_field rest) 16 then Some Below16
    else if nat_lt max (length_field rest) then Some AboveMax
    else None

-- a PDU in its one spelling, which is no longer than max
pub record IsFrame (max : ℕ) (p : Pdu) (octets : List ℕ) : Type 0 where
  pub spells : Spells p octets
  pub within : length octets ≤ max

-- no front of the rest is a PDU
abbrev pub HasNone : ℕ → List ℕ → Type 0
HasNone max rest = (p : Pdu) (octets more : List ℕ) → IsFrame max p octets → rest ≡ octets ++ more → ⊥

-- the PDU was at the front of the old rest
abbrev pub TakesFirst : ℕ → List ℕ → Pdu → List ℕ → Type 0
TakesFirst max old p new = IsFrame max p (spelling p) × (old ≡ spelling p ++ new)

-- a PDU is at the front
abbrev pub BeginsFrame : ℕ → List ℕ → Type 0
BeginsFrame max rest = (p : Pdu) × ((more : List ℕ) × TakesFirst max rest p more)

-- the octets are these PDUs, each in its one spelling, and then this rest
pub record Begins (max : ℕ) (octets : List ℕ) (ps : List Pdu) (rest : List ℕ) : Type 0 where
  pub whole : octets ≡ flat_map spelling ps ++ rest
  pub each : AllByRecursion (λ p. IsFrame max p (spelling p)) ps

-- the same, and no PDU begins the rest
pub record Cuts (max : ℕ) (octets : List ℕ) (ps : List Pdu) (rest : List ℕ) : Type 0 where
  pub begins : Begins max octets ps rest
  pub none : HasNone max rest
