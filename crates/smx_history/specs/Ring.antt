-- The order in which lanes are tried.
use Rattle.std.specs.Prelude.{◌+◌, ◌%◌, ℕ, List, map}
use Rattle.std.specs.List.{range_with_len}

-- so many lanes, from one on, and from the last on with the first
abbrev pub ring : ℕ → ℕ → List ℕ
ring first count = map (λ k. (first + k) % count) (range_with_len 0 count)
