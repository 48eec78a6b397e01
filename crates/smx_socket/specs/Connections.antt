-- What contracts see of a connection.
use Rattle.std.specs.Prelude.{◌≡◌, ℕ, ◌<◌, ◌≤◌, Bool, not, ◌&&◌, length, List, [], ◌∷◌, ◌++◌, Result, Ok, IsErr, IsTrue, IsFalse}
use Rattle.std.specs.List.{list_any}
use Rattle.smx_link.specs.declared.link.Polled.{Polled}
use Rattle.smx_link.specs.declared.link.Polled.TheVariants.{Nothing}
use Rattle.smx_link.specs.declared.link.LinkFault.{LinkFault}
use Rattle.smx_socket.specs.declared.transport.Outcome.{Outcome}
use Rattle.smx_socket.specs.declared.transport.Outcome.TheVariants.{NotNow}
use Rattle.smx_socket.specs.declared.marks.Marks.{Marks}
use Rattle.smx_socket.specs.Outcomes.{is_end, has_failed, IsPolled, marks_read}

pub record Connecting (T : Type 0) : Type 0 where
  pub transport : T
  -- the octets that were accepted to be written, in order, and those of them that wait
  pub accepted : List ℕ
  pub unsent : List ℕ
  pub marks : Marks

-- what was accepted is what the system took and then what waits; what is known of the connection is
-- what the system's calls answered; its writing side is shut down only where nothing waits, and
-- nothing more is accepted
pub record Holds {T : Type 0} (taken : T → List ℕ) (reads writes : T → List Outcome) (is_shut : T → Bool) (c : Connecting T) : Type 0 where
  pub balance : c.accepted ≡ taken c.transport ++ c.unsent
  pub failed : c.marks.failed ≡ has_failed (reads c.transport) (writes c.transport)
  pub ended : c.marks.ended ≡ list_any is_end (reads c.transport)
  pub shut : c.marks.write_closed ≡ is_shut c.transport
  pub last : IsTrue c.marks.write_closed → IsTrue c.marks.closing × (c.unsent ≡ [])

-- a read asked the system once, and its answer and what is known since say what the system answered;
-- where no more faults can be counted, only the latter
abbrev pub TellsRead : (before after : List Outcome) (room faults : ℕ) (old new : Marks) (answer : Result Polled LinkFault) → Type 0
TellsRead before after room faults old new answer =
    (outcome : Outcome) × (after ≡ before ++ outcome ∷ []) × (new ≡ marks_read outcome room old)
    × (faults < 18446744073709551615 → IsPolled outcome answer)

-- a read that asked nothing: there is nothing now, or the connection has failed
pub record TellsNothing (before after : List Outcome) (faults : ℕ) (old new : Marks) (answer : Result Polled LinkFault) : Type 0 where
  pub asked : after ≡ before
  pub marks : new ≡ old
  pub nothing : IsFalse old.failed → answer ≡ Ok Nothing
  pub failed : IsTrue old.failed → faults < 18446744073709551615 → IsErr answer

-- whether a drain asks the system: a read may find something, and neither the peer's end nor a failure was found
abbrev pub drains : Marks → Bool
drains m = not m.failed && (not m.ended && m.readable)

-- the system was asked once for so many octets, and what is known since is what it answered
abbrev pub Asks : (before after : List Outcome) (room : ℕ) (old new : Marks) → Type 0
Asks before after room old new = (outcome : Outcome) × (after ≡ before ++ outcome ∷ []) × (new ≡ marks_read outcome room old)

-- since then the system was asked to write, and what it answered last is that it would have to wait
abbrev pub HasToWait : (before after : List Outcome) → Type 0
HasToWait before after = (earlier : List Outcome) × (length before ≤ length earlier) × (after ≡ earlier ++ NotNow ∷ [])
