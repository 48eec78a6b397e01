-- How many turns a worker made, when its lane is turned over, and how long it waits for answers.
use Rattle.std.specs.Prelude.{ℕ, ◌+◌, ◌*◌, ◌^◌, ◌-◌, ◌/◌, min, max}
use Rattle.smx_upstream.specs.declared.age.Age.{Age}
use Rattle.smx_upstream.specs.declared.event.Span.{Span}
use Rattle.smx_upstream.specs.declared.event.Span.TheVariants.{Once, Twice}

-- before the first turn
abbrev pub new_age : ℕ → ℕ → Age
new_age history response_timer = record { turns = 0; history = history; response_timer = response_timer }

-- the count of turns stays at its greatest
abbrev pub next_turn : Age → Age
next_turn a = record a { turns = min (a.turns + 1) (2 ^ 64 - 1) }

-- how many entries the lane is turned over for: an eighth of those that it may have, 500 at most and one at least
abbrev pub least_shift : Age → ℕ
least_shift a = max (min (a.history / 8) 500) 1

-- how long a request may be without an answer: the response timer (SMPP 3.4, section 7.2), or twice it
abbrev pub time_of : Span → Age → ℕ
time_of Once a = a.response_timer
time_of Twice a = min (a.response_timer * 2) (2 ^ 64 - 1)
