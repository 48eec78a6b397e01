-- Who is ready, in two classes, and who is stalled.
use Rattle.std.specs.Prelude.{◌||◌, ℕ, List, Bool, false, slice_index_or, if◌then◌else◌}
use Rattle.smx_slots.specs.Lines.{Standing, stands, with_party}

-- those of the first class that are ready and the unbound ones, those that found a return box full; and by
-- party whether it is of the first class, and whether its socket takes no octets
pub record Agenda : Type 0 where
  pub first : Standing
  pub unbound : Standing
  pub crowded : Standing
  pub is_first : List Bool
  pub unwritable : List Bool

-- the party has a mark
abbrev pub has_mark : ℕ → List Bool → Bool
has_mark party marks = slice_index_or marks party false

abbrev pub is_ready : ℕ → Agenda → Bool
is_ready party agenda = stands party agenda.first.parties || stands party agenda.unbound.parties

abbrev pub is_stalled : ℕ → Agenda → Bool
is_stalled party agenda = has_mark party agenda.unwritable || stands party agenda.crowded.parties

-- the party is ready, behind those of its class; one that is ready keeps its place, and one that is stalled stays so
abbrev pub with_ready : ℕ → Agenda → Agenda
with_ready party agenda =
    if is_ready party agenda || is_stalled party agenda then agenda
    else if has_mark party agenda.is_first then record agenda { first = with_party party agenda.first }
    else record agenda { unbound = with_party party agenda.unbound }
