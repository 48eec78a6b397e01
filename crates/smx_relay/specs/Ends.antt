-- What a run may have written when it ends.
use Rattle.std.specs.Prelude.{◌≡◌, ℕ, ◌<◌, List, [], ◌∷◌, ◌++◌, length, Option, Some, None}
use Rattle.smx_relay.specs.declared.end.RunEnd.{RunEnd}
use Rattle.smx_relay.specs.declared.end.RunEnd.TheVariants.{Clean, BadLine, TooLarge, TooLong, ReadFault, WriteFault, NoMemory}
use Rattle.smx_relay.specs.Runs.{Relays, StopsAt}

-- a front of what the script may print
abbrev pub BeginsRelay : List ℕ → List ℕ → Type 0
BeginsRelay script out = (more : List ℕ) × (stop : Option ℕ) × Relays script (out ++ more) stop

-- so is this, and at least one octet more was to be printed
abbrev pub BreaksOff : List ℕ → List ℕ → Type 0
BreaksOff script out = (octet : ℕ) × (more : List ℕ) × (stop : Option ℕ) × Relays script (out ++ octet ∷ more) stop

abbrev pub Ends : RunEnd → List ℕ → List ℕ → Type 0
Ends Clean script out = Relays script out None
Ends (BadLine n reason) script out = Relays script out (Some n)
Ends WriteFault script out = BreaksOff script out
Ends NoMemory script out = BeginsRelay script out
Ends (TooLarge n) script out = StopsAt script n out × BeginsRelay script out
Ends TooLong script out = (1048576 < length script) × (out ≡ [])
Ends ReadFault script out = out ≡ []
