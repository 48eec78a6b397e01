-- What a bell remembers.
use Rattle.std.specs.Prelude.{◌≡◌, ℕ, Option}
use Rattle.std.specs.Option.{ForSome}
use Rattle.smx_turns.specs.declared.gate.Party.{Party}
use Rattle.smx_turns.specs.declared.gate.Party.TheVariants.{Client}
use Rattle.smx_slots.specs.Bells.{party_number}
use Rattle.smx_slots.specs.Hints.{Hinted, hinted_by}
use Rattle.smx_slots.specs.Schedules.{Agenda, with_ready}

-- whoever tells this client once more of that lane changes neither who is ready nor a hint
abbrev pub IsToldAgain : ℕ → (ℕ → Option ℕ) → Party → Agenda → Hinted → Type 0
IsToldAgain lanes slot_of party agenda hints = (with_ready (party_number lanes slot_of party) agenda ≡ agenda) × (hinted_by slot_of party hints ≡ hints)

-- so does whoever tells the last one
abbrev pub IsKnown : ℕ → (ℕ → Option ℕ) → Option (ℕ × ℕ) → Agenda → Hinted → Type 0
IsKnown lanes slot_of last agenda hints = ForSome last (λ told. IsToldAgain lanes slot_of (Client told.0 told.1) agenda hints)
