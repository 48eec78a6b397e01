-- What the fields of a line show, and what they keep.
use Rattle.std.specs.Prelude.{◌≡◌, ◌≤◌, ◌==◌, ℕ, false, length, slice_index_or}
use Rattle.std.specs.List.{IsDistinct}
use Rattle.std.specs.VecDeque.{deque_capacity}
use Rattle.smx_slots.specs.declared.line.Line.TheInside.{Inside}
use Rattle.smx_slots.specs.Lines.{Standing, stands}

abbrev pub standing_of : Inside → Standing
standing_of a = record { count = length a.marks.items; parties = a.parties.items }

pub record IsMarked (a : Inside) : Type 0 where
  pub distinct : IsDistinct (λ p q. p == q) a.parties.items
  pub marks : (party : ℕ) → slice_index_or a.marks.items party false ≡ stands party a.parties.items
  pub room : length a.marks.items ≤ deque_capacity a.parties
