-- The rows of clients, by their index and by their client.
use Rattle.std.proofs.Common.{◌≡◌, ◌<◌, ◌≤◌, ℕ, true, false, List, [], ◌∷◌, length, map, get_or, set, refl, ap, arith, ◌==◌, zero, suc}
use Rattle.std.proofs.lemmas.Bool.{ne_eqb, eq-eqb}
use Rattle.smx_history.specs.Prefixes.{RiseAbove}
use Rattle.smx_history.specs.Contents.{Member}
use Rattle.smx_history.proofs.Updates.{with_row}

-- the i-th of numbers that rise is above the start
pub rise_at : (ms : List Member) (low i : ℕ) (d : Member) → RiseAbove low (map (λ m. m.client) ms) → i < length ms → low < (get_or ms i d).client
rise_at [] low i d rise within = absurd (omega arith)
rise_at (m ∷ ms) low zero d rise within = rise.0
rise_at (m ∷ ms) low (suc i) d rise within =
    let h = rise_at ms m.client i d rise.1 (omega arith) in omega (arith, h, rise.0)

-- no row above c is of c
pub with_row-above : (f : Member → Member) (ms : List Member) (c low : ℕ) → c ≤ low → RiseAbove low (map (λ m. m.client) ms) → with_row c f ms ≡ ms
with_row-above f [] c low h rise = refl
with_row-above f (m ∷ ms) c low h rise =
    let other : (m.client == c) ≡ false = ne_eqb m.client c (λ e. omega (arith, rise.0)) in
    let rest = with_row-above f ms c m.client (omega (arith, rise.0)) rise.1 in
    rw (other, rest) refl

-- a change at the index of a client's row is a change of that client's row
pub set_is_with_row : (f : Member → Member) (ms : List Member) (c low i : ℕ) (d : Member) → RiseAbove low (map (λ m. m.client) ms) → i < length ms → (get_or ms i d).client ≡ c → set ms i (f (get_or ms i d)) ≡ with_row c f ms
set_is_with_row f [] c low i d rise within is = absurd (omega arith)
set_is_with_row f (m ∷ ms) c low zero d rise within is =
    let here : (m.client == c) ≡ true = eq-eqb m.client c is in
    let rest = with_row-above f ms c m.client (omega arith) rise.1 in
    rw (here, rest) refl
set_is_with_row f (m ∷ ms) c low (suc i) d rise within is =
    let above = rise_at ms m.client i d rise.1 (omega arith) in
    let other : (m.client == c) ≡ false = ne_eqb m.client c (λ e. omega (arith, above)) in
    rw other (ap (λ xs. m ∷ xs) (set_is_with_row f ms c m.client i d rise.1 (omega arith) is))
