-- What a link's calls give and take.
use Rattle.std.specs.Prelude.{ℕ, ◌≤◌, List, [], ◌∷◌, take, Result, Ok, Err, nat_lt, if◌then◌else◌}
use Rattle.smx_link.specs.declared.link.Polled.{Polled}
use Rattle.smx_link.specs.declared.link.Polled.TheVariants.{Octets, Nothing, End}
use Rattle.smx_link.specs.declared.link.LinkFault.{LinkFault}

-- the octets that a read put into a buffer
abbrev pub octets_polled : Polled → List ℕ → List ℕ
octets_polled (Octets n) buffer = take n buffer
octets_polled Nothing buffer = []
octets_polled End buffer = []

abbrev pub octets_read : Result Polled LinkFault → List ℕ → List ℕ
octets_read (Ok polled) buffer = octets_polled polled buffer
octets_read (Err fault) buffer = []

abbrev pub IsPolledWithin : Polled → ℕ → Type 0
IsPolledWithin (Octets n) room = n ≤ room
IsPolledWithin Nothing room = Unit {0}
IsPolledWithin End room = Unit {0}

abbrev pub IsReadWithin : Result Polled LinkFault → ℕ → Type 0
IsReadWithin (Ok polled) room = IsPolledWithin polled room
IsReadWithin (Err fault) room = Unit {0}

abbrev pub octets_written : Result ℕ LinkFault → List ℕ → List ℕ
octets_written (Ok n) octets = take n octets
octets_written (Err fault) octets = []

-- a read that asks for no octet doesn't count
abbrev pub polls_of : ℕ → Result Polled LinkFault → List (Result Polled LinkFault)
polls_of room answer = if nat_lt 0 room then answer ∷ [] else []

-- how many faults a call answered
abbrev pub fault_count : {A : Type 0} → Result A LinkFault → ℕ
fault_count (Ok x) = 0
fault_count (Err fault) = 1
