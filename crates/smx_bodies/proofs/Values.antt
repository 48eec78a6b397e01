-- A parameter that is read leaves what follows its value.
use Rattle.std.proofs.Common.{◌≡◌, ℕ, zero, suc, ◌+◌, ◌*◌, ◌<◌, ◌≤◌, false, List, [], ◌∷◌, length, drop, get_or, refl, ap, sym, ◌∙◌, arith}
use Rattle.smx_bodies.specs.Reading.{parameters_after}

-- a value that is there is passed over
pub value_passed : (n : ℕ) (octets : List ℕ) → n ≤ length octets → parameters_after n octets ≡ parameters_after 0 (drop n octets)
value_passed zero octets h = refl
value_passed (suc n) [] h = absurd (omega (arith, h))
value_passed (suc n) (o ∷ octets) h = value_passed n octets (omega (arith, h))

-- and one that isn't there is none
pub value_cut : (n : ℕ) (octets : List ℕ) → length octets < n → parameters_after n octets ≡ false
value_cut zero octets h = absurd (omega (arith, h))
value_cut (suc n) [] h = refl
value_cut (suc n) (o ∷ octets) h = value_cut n octets (omega (arith, h))

-- a parameter is there where so many octets follow its first four
pub header_read : (octets : List ℕ) (high low : ℕ) → 4 ≤ length octets → high ≡ get_or octets 2 0 → low ≡ get_or octets 3 0 → parameters_after 0 octets ≡ parameters_after (high * 256 + low) (drop 4 octets)
header_read [] high low h a b = absurd (omega (arith, h))
header_read (t ∷ []) high low h a b = absurd (omega (arith, h))
header_read (t ∷ u ∷ []) high low h a b = absurd (omega (arith, h))
header_read (t ∷ u ∷ x ∷ []) high low h a b = absurd (omega (arith, h))
header_read (t ∷ u ∷ x ∷ y ∷ octets) high low h a b = ap (λ n. parameters_after n octets) (ap (λ k. k * 256 + y) (sym a) ∙ ap (λ k. high * 256 + k) (sym b))
