-- What is known of the place and the number that a take gives.
use Rattle.std.proofs.Common.{◌≡◌, ◌+◌, ◌-◌, ◌*◌, ◌/◌, ◌%◌, ◌<◌, ◌++◌, ◌∷◌, [], ℕ, List, length, get_or, slice_get, Option, Some, None, ◌∙◌, ap, sym, arith}
use Rattle.std.specs.Option.{option_to_list}
use Rattle.std.proofs.lemmas.Nat.{div-mul-add, mod-mul-add}
use Rattle.std.proofs.lemmas.Option.{slice_get_within, slice_get-get_or}
use Rattle.smx_history.specs.Numbers.{place_in, generation_in}
use Rattle.smx_lane.specs.declared.window.Window.TheInside.{Inside}
use Rattle.smx_lane.specs.Private.Window.{KeepsPlaces, IsEmptyAt}
use Rattle.smx_lane.proofs.WindowRows.{last-empty}

before_one : (n : ℕ) → n + 1 - 1 ≡ n
before_one n = omega arith

pub place_of_number : (generation place : ℕ) → place < 1024 → place_in (generation * 1024 + place + 1) ≡ place
place_of_number generation place below = ap (λ n. n % 1024) (before_one (generation * 1024 + place)) ∙ mod-mul-add generation 1024 place below

pub generation_of_number : (generation place : ℕ) → place < 1024 → generation_in (generation * 1024 + place + 1) ≡ generation
generation_of_number generation place below = ap (λ n. n / 1024) (before_one (generation * 1024 + place)) ∙ div-mul-add generation 1024 place below

-- the place that stood last among the empty ones, and what is left of them
pub record IsGiven (a : Inside) (rest : List ℕ) (at : ℕ) : Type 0 where
  pub split : a.free.items ≡ rest ++ at ∷ []
  pub empty : IsEmptyAt a.rows at
  pub within : at < length a.rows
  pub below : at < 1024
  pub known : at < length a.generations.items

pub given : (a : Inside) (rest : List ℕ) (o : Option ℕ) (at : ℕ) → KeepsPlaces a → a.free.items ≡ rest ++ option_to_list o → o ≡ Some at → IsGiven a rest at
given a rest o at keeps items is =
    let split : a.free.items ≡ rest ++ at ∷ [] = items ∙ ap (λ x. rest ++ option_to_list x) is in
    let empty = last-empty a.rows a.free.items rest at split keeps.empty in
    let within = slice_get_within a.rows at None empty in
    record { split = split; empty = empty; within = within; below = omega (arith, within, keeps.few); known = omega (arith, within, keeps.generations) }

-- its generation
pub record IsTurnOf (a : Inside) (at g : ℕ) : Type 0 where
  pub there : slice_get a.generations.items at ≡ Some g
  pub round : g < 2097151

pub turn_of : (a : Inside) (at g : ℕ) → KeepsPlaces a → at < length a.generations.items → g ≡ get_or a.generations.items at g → IsTurnOf a at g
turn_of a at g keeps within is =
    let there : slice_get a.generations.items at ≡ Some g = slice_get-get_or a.generations.items at g within ∙ ap Some (sym is) in
    record { there = there; round = keeps.going_round at g there }
