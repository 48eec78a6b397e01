-- The numbers that requests bear upstream (sequence_number, SMPP 3.4, section 5.1.4).
use Rattle.std.specs.Prelude.{◌≡◌, ◌+◌, ◌-◌, ◌/◌, ◌%◌, ◌<◌, ◌≤◌, ◌==◌, ℕ, List, map, drop, length, count_by, slice_get, Some}
use Rattle.std.specs.List.{AllByRecursion, range_with_len}
use Rattle.smx_history.specs.Prefixes.{AtEach}

-- the place of the window that a number names, and how often that place was given before, going round
abbrev pub place_in : ℕ → ℕ
place_in u = (u - 1) % 1024

abbrev pub generation_in : ℕ → ℕ
generation_in u = (u - 1) / 1024

-- the generation of the next take of a place, after takes that bore these numbers: 0, 1, 2, .., and after 2,097,150 again 0
abbrev pub generation_after : ℕ → List ℕ → ℕ
generation_after place ns = count_by (λ u. place_in u == place) ns % 2097151

-- the takes of each place have the generations 0, 1, 2, .. in order
abbrev pub ArePlaced : List ℕ → Type 0
ArePlaced ns = AtEach (λ before u. generation_in u ≡ generation_after (place_in u) before) ns

-- so they do, and no place is at or past the window's size
pub record AreNumbered (window : ℕ) (ns : List ℕ) : Type 0 where
  pub within : AllByRecursion (λ u. place_in u < window) ns
  pub placed : ArePlaced ns

-- for each place of a window of that size, the generation of its next take
abbrev pub generations_after : ℕ → List ℕ → List ℕ
generations_after window ns = map (λ k. generation_after k ns) (range_with_len 0 window)

-- two takes that bear the same number are at least 1,000,000 takes apart
abbrev pub AreSpaced : List ℕ → Type 0
AreSpaced ns = (i j u : ℕ) → i < j → slice_get ns i ≡ Some u → slice_get ns j ≡ Some u → i + 1000000 ≤ j

-- the numbers that the next take can't bear for that: those of the last 999,999
abbrev pub recent : List ℕ → List ℕ
recent ns = drop (length ns - 999999) ns
