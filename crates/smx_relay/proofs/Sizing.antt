-- The least of two numbers.
use Rattle.std.proofs.Common.{◌≤◌, ℕ, arith}
use Rattle.std.specs.Prelude.{min}
use Rattle.std.proofs.lemmas.Bool.Decides.{nat_tests}

pub min_le : (a b : ℕ) → min a b ≤ b
min_le a b = grind (arith, nat_tests)
