-- Lines that clients cause, counted by their kind.
use Rattle.std.specs.Prelude.{◌+◌, ◌-◌, ◌^◌, ℕ, min}
use Rattle.smx_notice.specs.declared.meter.MeteredKind.{MeteredKind}
use Rattle.smx_notice.specs.declared.meter.MeteredKind.TheVariants.{Connected, Bound, Gone, BindRefused, TurnedAway, NotAccepted}
use Rattle.smx_notice.specs.declared.meter.Tally.{Tally}

-- how many lines of the kind
abbrev pub count : Tally → MeteredKind → ℕ
count tally Connected = tally.connected
count tally Bound = tally.bound
count tally Gone = tally.gone
count tally BindRefused = tally.bind_refused
count tally TurnedAway = tally.turned_away
count tally NotAccepted = tally.not_accepted

-- one more, and none behind the greatest number of 64 bits
abbrev pub next : ℕ → ℕ
next n = min (n + 1) (2 ^ 64 - 1)

-- the tally with one more line of the kind
abbrev pub one_more : Tally → MeteredKind → Tally
one_more tally Connected = record tally { connected = next tally.connected }
one_more tally Bound = record tally { bound = next tally.bound }
one_more tally Gone = record tally { gone = next tally.gone }
one_more tally BindRefused = record tally { bind_refused = next tally.bind_refused }
one_more tally TurnedAway = record tally { turned_away = next tally.turned_away }
one_more tally NotAccepted = record tally { not_accepted = next tally.not_accepted }

-- no line of any kind
abbrev pub none : Tally
none = record { connected = 0; bound = 0; gone = 0; bind_refused = 0; turned_away = 0; not_accepted = 0 }

-- how many lines of all kinds
abbrev pub total : Tally → ℕ
total tally = tally.connected + tally.bound + tally.gone + tally.bind_refused + tally.turned_away + tally.not_accepted
