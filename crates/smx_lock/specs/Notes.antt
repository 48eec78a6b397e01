-- The notes of a history, by the seats that made them.
use Rattle.std.specs.Prelude.{ℕ, ◌==◌, List, filter}

-- the notes of one seat, in their order
abbrev pub notes_of : {N : Type 0} → (N → ℕ) → ℕ → List N → List N
notes_of writer number h = filter (λ n. writer n == number) h
