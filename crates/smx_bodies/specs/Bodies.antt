-- Which octets a body has (SMPP 3.4): its command's fields in their order, and then optional parameters.
use Rattle.std.specs.Prelude.{◌≡◌, ℕ, zero, suc, ◌+◌, ◌*◌, ◌<◌, ◌≤◌, List, [], ◌∷◌, ◌++◌, length, Bool, true, false, ◌⊎◌}
use Rattle.smx_pdu.specs.Fields.{IsText}
use Rattle.smx_bodies.specs.declared.layout.Part.{Part}
use Rattle.smx_bodies.specs.declared.layout.Part.TheVariants.{Text, Octet, Destinations, ShortMessage}
use Rattle.smx_bodies.specs.Layouts.{parts_of, has_parameters}

-- octets of one kind, and then of another
pub record InTurn (A B : List ℕ → Type 0) (octets : List ℕ) : Type 0 where
  pub first : List ℕ
  pub rest : List ℕ
  pub is_first : A first
  pub is_rest : B rest
  pub octets_are : octets ≡ first ++ rest

-- a dest_address: dest_flag 1, and an SME's type of number, numbering plan and address (4.5.1.1), or 2, and
-- the name of a distribution list (4.5.1.2)
pub data IsDestination (octets : List ℕ) : Type 0 where
  address : (ton npi : ℕ) (value : List ℕ) → IsText 21 value → octets ≡ 1 ∷ ton ∷ npi ∷ (value ++ 0 ∷ []) → IsDestination octets
  distribution_list : (value : List ℕ) → IsText 21 value → octets ≡ 2 ∷ (value ++ 0 ∷ []) → IsDestination octets

-- so many of them
abbrev pub AreDestinations : ℕ → List ℕ → Type 0
AreDestinations zero octets = octets ≡ []
AreDestinations (suc n) octets = InTurn IsDestination (AreDestinations n) octets

-- a C-Octet String, which takes at most so many octets with its ending 0, or a number of one octet (3.1); how
-- many destinations follow, and those (4.5.1); the length of a short message, at most 254, and its octets
-- (5.2.21 and 5.2.22)
abbrev pub IsPart : Part → List ℕ → Type 0
IsPart (Text limit) octets = (value : List ℕ) × (IsText limit value × (octets ≡ value ++ 0 ∷ []))
IsPart Octet octets = (n : ℕ) × (octets ≡ n ∷ [])
IsPart Destinations octets = (n : ℕ) × ((all : List ℕ) × (AreDestinations n all × (octets ≡ n ∷ all)))
IsPart ShortMessage octets = (message : List ℕ) × ((length message ≤ 254) × (octets ≡ length message ∷ message))

abbrev pub AreParts : List Part → List ℕ → Type 0
AreParts [] octets = octets ≡ []
AreParts (p ∷ ps) octets = InTurn (IsPart p) (AreParts ps) octets

-- an optional parameter: a tag of two octets, a length of two, the more significant one first, and so many
-- octets (5.3.1)
pub record Parameter : Type 0 where
  pub tag_high : ℕ
  pub tag_low : ℕ
  pub high : ℕ
  pub low : ℕ
  pub value : List ℕ

abbrev pub SpellsAll : List Parameter → List ℕ → Type 0
SpellsAll [] octets = octets ≡ []
SpellsAll (p ∷ ps) octets =
    (rest : List ℕ) × ((length p.value ≡ p.high * 256 + p.low) × (SpellsAll ps rest × (octets ≡ p.tag_high ∷ p.tag_low ∷ p.high ∷ p.low ∷ (p.value ++ rest))))

abbrev pub AreParameters : List ℕ → Type 0
AreParameters octets = (ps : List Parameter) × SpellsAll ps octets

-- what may follow the fields
abbrev pub MayFollow : Bool → List ℕ → Type 0
MayFollow false octets = octets ≡ []
MayFollow true octets = AreParameters octets

-- the body of a command
abbrev pub IsBody : ℕ → List ℕ → Type 0
IsBody command octets = InTurn (AreParts (parts_of command)) (MayFollow (has_parameters command)) octets

-- a short message whose length is above 254, or above how many octets there are
abbrev pub IsCut : Part → List ℕ → Type 0
IsCut (Text limit) octets = ⊥
IsCut Octet octets = ⊥
IsCut Destinations octets = ⊥
IsCut ShortMessage octets = (n : ℕ) × ((more : List ℕ) × ((octets ≡ n ∷ more) × ((254 < n) ⊎ (length more < n))))

-- such a one after the parts before it
abbrev pub IsMessageCut : List Part → List ℕ → Type 0
IsMessageCut [] octets = ⊥
IsMessageCut (p ∷ ps) octets = IsCut p octets ⊎ InTurn (IsPart p) (IsMessageCut ps) octets
