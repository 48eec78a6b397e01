-- On which lanes something may wait for a client.
use Rattle.std.specs.Prelude.{◌≡◌, ◌<◌, ◌==◌, ◌&&◌, ℕ, List, [], ◌∷◌, Bool, true, false, Option, Some, None, length, slice_index_or, slice_set, if◌then◌else◌}
use Rattle.std.specs.Option.{option_map_or}
use Rattle.smx_turns.specs.declared.gate.Party.{Party}
use Rattle.smx_turns.specs.declared.gate.Party.TheVariants as party
use Rattle.smx_turns.specs.declared.gate.Point.{Point}
use Rattle.smx_turns.specs.declared.gate.Point.TheVariants as point
use Rattle.smx_slots.specs.Schedules.{has_mark}

-- by slot and lane, whether its client was told of something there and hasn't found the lane empty since
abbrev pub Hinted : Type 0
Hinted = List (List Bool)

-- those of a slot
abbrev pub row_of : ℕ → Hinted → List Bool
row_of slot hints = slice_index_or hints slot []

abbrev pub has_hint : ℕ → ℕ → Hinted → Bool
has_hint slot lane hints = has_mark lane (row_of slot hints)

-- there is one for this slot on this lane now, or none
abbrev pub with_hint : Bool → ℕ → ℕ → Hinted → Hinted
with_hint mark slot lane hints = slice_set hints slot (slice_set (row_of slot hints) lane mark)

-- what is told to a client is on that lane
abbrev pub hinted_by : (ℕ → Option ℕ) → Party → Hinted → Hinted
hinted_by slot_of (party.Client client lane) hints = option_map_or (λ slot. with_hint true slot lane hints) (slot_of client) hints
hinted_by slot_of (party.Lane lane) hints = hints
hinted_by slot_of (party.Answer lane) hints = hints
hinted_by slot_of (party.Slot slot) hints = hints

-- a turn that asks again found empty the lane from which it had leave to collect; one that ended there may not have
abbrev pub emptied_by : ℕ → ℕ → Option (ℕ × ℕ) → Hinted → Hinted
emptied_by slot turn None hints = hints
emptied_by slot turn (Some (lane, then_turn)) hints = if then_turn == turn then with_hint false slot lane hints else hints

-- from which lane a turn has leave to collect, by the answer at this point
abbrev pub leave_by : ℕ → Point → Bool → Option (ℕ × ℕ)
leave_by turn (point.Collecting lane) true = Some (lane, turn)
leave_by turn _ _ = None

-- what a hint comes from: a client is told, or finds a lane empty
pub data Tiding : Type 0 where
  Told : (slot lane : ℕ) → Tiding
  Emptied : (slot lane : ℕ) → Tiding

abbrev pub hints_after : Tiding → Hinted → Hinted
hints_after (Told slot lane) hints = with_hint true slot lane hints
hints_after (Emptied slot lane) hints = with_hint false slot lane hints

unfoldable pub hints_of : List Tiding → Hinted → Hinted
hints_of [] hints = hints
hints_of (t ∷ ts) hints = hints_of ts (hints_after t hints)

abbrev pub is_of : ℕ → ℕ → ℕ → ℕ → Bool
is_of slot lane s l = (slot == s) && (lane == l)

-- what the last tiding of this slot and lane says, or else this
unfoldable pub last_of : ℕ → ℕ → List Tiding → Bool → Bool
last_of slot lane [] hint = hint
last_of slot lane (Told s l ∷ ts) hint = last_of slot lane ts (if is_of slot lane s l then true else hint)
last_of slot lane (Emptied s l ∷ ts) hint = last_of slot lane ts (if is_of slot lane s l then false else hint)

-- there is a hint just where the last tiding of the slot and the lane is that its client was told: whoever isn't hinted found the lane empty since it was told last, or never was
abbrev pub IsHinted : Type 0
IsHinted =
    (slot lane : ℕ) (ts : List Tiding) (hints : Hinted) → lane < length (row_of slot hints)
    → has_hint slot lane (hints_of ts hints) ≡ last_of slot lane ts (has_hint slot lane hints)
