-- What a whole script prints.
use Rattle.std.specs.Prelude.{◌≡◌, ℕ, ◌+◌, ◌-◌, List, [], ◌∷◌, ◌++◌, Option, Some, None, take, true, false}
use Rattle.smx_script.specs.Script.{lines_of}
use Rattle.smx_lines.specs.Texts.{bad_line}
use Rattle.smx_lines.specs.Relay.{Relay, new_relay}
use Rattle.smx_lines.specs.Turns.{Lines}
use Rattle.smx_relay.specs.Sizes.{is_too_large}

-- a line prints its text, and the lines after it print the rest; a bad line is the last
abbrev pub PrintsOn : ℕ → Option (List ℕ × Relay) → (Relay → List ℕ → Type 0) → List ℕ → Option ℕ → Type 0
PrintsOn n None others out stop = (out ≡ bad_line n) × (stop ≡ Some n)
PrintsOn n (Some x) others out stop = (rest : List ℕ) × others x.1 rest × (out ≡ x.0 ++ rest)

-- the lines from the n-th on may print this, and stop at this bad line or at none
unfoldable pub Runs : ℕ → Relay → List (List ℕ) → List ℕ → Option ℕ → Type 0
Runs n s [] out stop = (out ≡ []) × (stop ≡ None)
Runs n s (line ∷ lines) out stop =
    (x : Option (List ℕ × Relay)) × Lines s line x × PrintsOn n x (λ t rest. Runs (n + 1) t lines rest stop) out stop

-- the script may print this, up to and with its first bad line, or to its end
abbrev pub Relays : List ℕ → List ℕ → Option ℕ → Type 0
Relays script out stop = Runs 1 new_relay (lines_of script) out stop

-- the lines print this and leave this, and before none of them the run is too large
unfoldable pub RunsTo : Relay → List (List ℕ) → List ℕ → Relay → Type 0
RunsTo s [] out t = (out ≡ []) × (s ≡ t)
RunsTo s (line ∷ lines) out t =
    (x : List ℕ × Relay) × Lines s line (Some x) × (is_too_large s ≡ false) × (rest : List ℕ) × RunsTo x.1 lines rest t × (out ≡ x.0 ++ rest)

-- the lines before the n-th print this, and then the run is too large
abbrev pub StopsAt : List ℕ → ℕ → List ℕ → Type 0
StopsAt script n out = (s : Relay) × RunsTo new_relay (take (n - 1) (lines_of script)) out s × (is_too_large s ≡ true)
