-- What a line is made of.
use Rattle.std.specs.Prelude.{◌≡◌, ◌≤◌, ◌++◌, ◌∷◌, [], ℕ, List, All}
use Rattle.smx_notice.specs.declared.level.Level.{Level}
use Rattle.smx_notice.specs.declared.level.Level.TheVariants.{Error, Warn, Info}

-- a level's priority, as syslog(3) numbers them: LOG_ERR, LOG_WARNING, LOG_INFO
abbrev pub priority : Level → ℕ
priority Error = 3
priority Warn = 4
priority Info = 6

-- the octet is one of ASCII that a terminal shows as it is: from the blank to the tilde
abbrev pub IsPrintable : ℕ → Type 0
IsPrintable octet = (32 ≤ octet) × (octet ≤ 126)

-- these octets are one line: printable ones, and one line feed at the end
abbrev pub IsLine : List ℕ → Type 0
IsLine octets = (words : List ℕ) × (octets ≡ words ++ 10 ∷ []) × All IsPrintable words
