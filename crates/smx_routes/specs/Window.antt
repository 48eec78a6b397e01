-- The messages that a client was sent and has not answered, each under a number of its own.
use Rattle.std.specs.Prelude.{◌≡◌, ◌≤◌, ◌<◌, ◌+◌, ◌%◌, ◌==◌, ◌&&◌, nat_le, ℕ, List, Option, Bool, true, false, not, filter, Contains, All, AllPairs, ◌≢◌}
use Rattle.std.specs.List.{list_any, find}
use Rattle.smx_pdu.specs.Command.{is_response_to}
use Rattle.smx_routes.specs.declared.fault.WindowFault.{WindowFault}
use Rattle.smx_routes.specs.declared.fault.WindowFault.TheVariants.{BadSize, NoMemory}
use Rattle.smx_routes.specs.declared.mo_window.Waiting.{Waiting}

-- the messages that wait, the oldest first, the places for them, and the last number given, 0 at first
pub record Window : Type 0 where
  pub places : ℕ
  pub last : ℕ
  pub waiting : List Waiting

abbrev pub IsSize : ℕ → Type 0
IsSize n = (1 ≤ n) × (n ≤ 1_024)

-- why a window isn't made: memory is asked for where its size is right
abbrev pub IsWindowFault : ℕ → WindowFault → Type 0
IsWindowFault places BadSize = ¬ IsSize places
IsWindowFault places NoMemory = IsSize places

-- a message waits under the number
abbrev pub waits : ℕ → List Waiting → Bool
waits number messages = list_any (λ w. w.given == number) messages

-- the greatest number of a message: the greatest sequence number (SMPP 3.4, section 5.1.4) is the proxy's own enquire_link's
abbrev pub greatest : ℕ
greatest = 0x7FFF_FFFE

-- the number so many places behind the one after the last, going round from the greatest to 1
abbrev pub number_behind : ℕ → ℕ → ℕ
number_behind last k = (last + k) % greatest + 1

-- the first number after the last one given under which no message waits, of one number for each place
pub record IsFirstFree (w : Window) (number : ℕ) : Type 0 where
  pub passed : ℕ
  pub is : number ≡ number_behind w.last passed
  pub within : passed < w.places
  pub free : waits number w.waiting ≡ false
  pub others : (k : ℕ) → k < passed → waits (number_behind w.last k) w.waiting ≡ true

-- the message that a response with this number and command answers (SMPP 3.4, sections 4.3 and 5.1.2.1)
abbrev pub message_for : ℕ → ℕ → List Waiting → Option Waiting
message_for number command messages = find (λ w. (w.given == number) && is_response_to w.command command) messages

-- the first message that was sent at this moment or before
abbrev pub overdue : ℕ → List Waiting → Option Waiting
overdue until messages = find (λ w. nat_le w.since until) messages

-- no message has a smaller number
pub record IsFirst (messages : List Waiting) (w : Waiting) : Type 0 where
  pub there : Contains messages w
  pub least : All (λ v. w.given ≤ v.given) messages

-- no two messages wait under one number
abbrev pub HaveDistinctNumbers : List Waiting → Type 0
HaveDistinctNumbers messages = AllPairs (λ v w. v.given ≢ w.given) messages

-- the messages but that under the number
abbrev pub without : ℕ → List Waiting → List Waiting
without number messages = filter (λ w. not (w.given == number)) messages
