-- The texts of addresses.
use Rattle.std.proofs.Common.{◌≡◌, ◌≢◌, ◌<◌, ℕ, List, [], ◌∷◌, ◌&&◌, length, Result, Ok, Err, is_ok, nat_lt, true, false, refl, rules, arith}
use Rattle.std.proofs.lemmas.Bool.{ne_eqb}
use Rattle.std.proofs.lemmas.Bool.Decides.{nat_tests}
use Rattle.std.proofs.lemmas.Str.Parse.{IsDigitsTest, IsNumeralModel, numerals_by_value, parse_digits}
use Rattle.std.specs.Char.{is_ascii_digit}
use Rattle.std.specs.List.{list_all}
use Rattle.std.specs.Result.{OkIff}
use Rattle.std.specs.Str.Parse.{digits_value, ParsesUnsigned}
use Rattle.smx_config.specs.Address.{is_address, is_plain_address, is_port_behind_colon}

-- a text that doesn't begin with a colon
pub no_colon : (s : List ℕ) → ((rest : List ℕ) → s ≢ 58 ∷ rest) → false ≡ is_port_behind_colon s
no_colon [] h = refl
no_colon (c ∷ s) h = rw (ne_eqb c 58 (λ e. h s (rw e)))

-- a text that doesn't begin with an opening bracket
pub no_bracket : (s : List ℕ) → ((rest : List ℕ) → s ≢ 91 ∷ rest) → is_plain_address s ≡ is_address s
no_bracket [] h = refl
no_bracket (c ∷ s) h = rw (ne_eqb c 91 (λ e. h s (rw e)))

are_digits : IsDigitsTest (λ ds. list_all is_ascii_digit ds ≡ true)
are_digits = search rules

numerals : IsNumeralModel (λ ds. list_all is_ascii_digit ds ≡ true) (digits_value 10)
numerals = numerals_by_value _ are_digits

is_ok-tests : {E : Type 0} (r : Result ℕ E) (a b v : ℕ) → OkIff r ((0 < a) × (b < 65536)) v → is_ok r ≡ (nat_lt 0 a && nat_lt b 65536)
is_ok-tests (Ok x) a b v h = grind (arith, nat_tests)
is_ok-tests (Err e) a b v h = grind (arith, nat_tests)

-- of digits a number of 16 bits is parsed just where they write one
pub port_of_digits : {E : Type 0} (s : List ℕ) (r : Result ℕ E) → ParsesUnsigned 16 10 s r → list_all is_ascii_digit s ≡ true → is_ok r ≡ (nat_lt 0 (length s) && nat_lt (digits_value 10 s) 65536)
port_of_digits s r h digits = is_ok-tests r (length s) (digits_value 10 s) (digits_value 10 s) (parse_digits numerals 16 s r h digits)
