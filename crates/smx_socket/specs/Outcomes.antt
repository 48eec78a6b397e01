-- What the system's calls answer, and what that says.
use Rattle.std.specs.Prelude.{◌≡◌, ℕ, ◌≤◌, Bool, true, false, not, ◌&&◌, ◌||◌, List, [], take, Result, Ok, IsErr, nat_eq, nat_lt, if◌then◌else◌}
use Rattle.std.specs.List.{list_any}
use Rattle.smx_link.specs.declared.link.Polled.{Polled}
use Rattle.smx_link.specs.declared.link.Polled.TheVariants.{Octets, Nothing, End}
use Rattle.smx_link.specs.declared.link.LinkFault.{LinkFault}
use Rattle.smx_socket.specs.declared.transport.Outcome.{Outcome}
use Rattle.smx_socket.specs.declared.transport.Outcome.TheVariants.{Moved, NotNow, Retry, Failed}
use Rattle.smx_socket.specs.declared.marks.Marks.{Marks}

-- the octets that a call moved, of those in its buffer
abbrev pub octets_moved : Outcome → List ℕ → List ℕ
octets_moved (Moved n) octets = take n octets
octets_moved NotNow octets = []
octets_moved Retry octets = []
octets_moved Failed octets = []

abbrev pub IsMovedWithin : Outcome → ℕ → Type 0
IsMovedWithin (Moved n) room = n ≤ room
IsMovedWithin NotNow room = Unit {0}
IsMovedWithin Retry room = Unit {0}
IsMovedWithin Failed room = Unit {0}

-- a read that moves none has found the peer's end; a write that moves none has failed
abbrev pub is_end : Outcome → Bool
is_end (Moved n) = nat_eq n 0
is_end NotNow = false
is_end Retry = false
is_end Failed = false

abbrev pub is_read_failure : Outcome → Bool
is_read_failure (Moved n) = false
is_read_failure NotNow = false
is_read_failure Retry = false
is_read_failure Failed = true

abbrev pub is_write_failure : Outcome → Bool
is_write_failure (Moved n) = nat_eq n 0
is_write_failure NotNow = false
is_write_failure Retry = false
is_write_failure Failed = true

abbrev pub has_failed : List Outcome → List Outcome → Bool
has_failed reads writes = list_any is_read_failure reads || list_any is_write_failure writes

-- what a link's read says of the outcome of the system's
abbrev pub IsPolled : Outcome → Result Polled LinkFault → Type 0
IsPolled (Moved n) answer = answer ≡ (if nat_eq n 0 then Ok End else Ok (Octets n))
IsPolled NotNow answer = answer ≡ Ok Nothing
IsPolled Retry answer = answer ≡ Ok Nothing
IsPolled Failed answer = IsErr answer

-- what is known once the system has answered a read of so many octets: a short read has emptied the
-- socket, unless the system said that every read answers at once
abbrev pub marks_read : Outcome → ℕ → Marks → Marks
marks_read (Moved n) room m =
    if nat_eq n 0 then record m { ended = true }
    else if nat_lt n room && not m.read_closed then record m { readable = false }
    else m
marks_read NotNow room m = record m { readable = false }
marks_read Retry room m = m
marks_read Failed room m = record m { failed = true }

-- the same of a write
abbrev pub marks_written : Outcome → Marks → Marks
marks_written (Moved n) m = if nat_eq n 0 then record m { failed = true } else m
marks_written NotNow m = record m { writable = false }
marks_written Retry m = m
marks_written Failed m = record m { failed = true }

-- whether a read asks the system
abbrev pub asks : Marks → ℕ → Bool
asks m room = not m.failed && (m.readable && nat_lt 0 room)
