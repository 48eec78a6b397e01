-- One message alone waits under a number.
use Rattle.std.proofs.Common.{◌≡◌, ◌≢◌, ◌<◌, ◌+◌, ◌==◌, ◌&&◌, ℕ, Bool, true, false, cond, Some, List, [], ◌∷◌, length, get_or, nat_le, refl, sym, ap, ◌∙◌, arith, suc, zero}
use Rattle.std.specs.List.{All, Contains, find}
use Rattle.std.proofs.lemmas.Bool.{eq-eqb, ne_eqb, eqb-true}
use Rattle.std.proofs.lemmas.List.Elements.{All-tail}
use Rattle.smx_pdu.specs.Command.{is_response_to}
use Rattle.smx_routes.specs.declared.mo_window.Waiting.{Waiting}
use Rattle.smx_routes.specs.Window.{HaveDistinctNumbers, without, message_for, overdue}

-- nothing is taken out where nothing waits under the number
pub without-other : (number : ℕ) (ws : List Waiting) → All (λ w. w.given ≢ number) ws → without number ws ≡ ws
without-other number [] others = refl
without-other number (w ∷ ws) others =
    let here : (w.given == number) ≡ false = ne_eqb w.given number (others 0 w (omega arith)) in
    rw here (ap (λ xs. w ∷ xs) (without-other number ws (All-tail (λ (v : Waiting). v.given ≢ number) w ws others)))

one_at : (ws : List Waiting) (k : ℕ) (w : Waiting) → HaveDistinctNumbers ws → k < length ws → get_or ws k w ≡ w → length (without w.given ws) + 1 ≡ length ws
one_at [] k w apart within is = absurd (omega arith)
one_at (x ∷ ws) zero w apart within is =
    let here : (x.given == w.given) ≡ true = eq-eqb x.given w.given (ap (λ (v : Waiting). v.given) is) in
    let rest = without-other w.given ws (λ j d low same. apart 0 (suc j) d (omega arith) (omega arith) (ap (λ (v : Waiting). v.given) is ∙ sym same)) in
    rw here (omega (arith, ap (λ (xs : List Waiting). length xs) rest))
one_at (x ∷ ws) (suc k) w apart within is =
    let other : (x.given == w.given) ≡ false = ne_eqb x.given w.given (λ same. apart 0 (suc k) w (omega arith) within (same ∙ sym (ap (λ (v : Waiting). v.given) is))) in
    let rest = one_at ws k w (λ i j d less low. apart (suc i) (suc j) d (omega arith) (omega arith)) (omega arith) is in
    rw other (omega (arith, rest))

-- one message is taken out
pub length-without : (ws : List Waiting) (w : Waiting) → HaveDistinctNumbers ws → Contains ws w → length (without w.given ws) + 1 ≡ length ws
length-without ws w apart has = one_at ws has.0 w apart has.1 has.2

found_at : {X : Type 0} (p : X → Bool) (y x : X) (xs : List X) (b : Bool) → p y ≡ b → (find p xs ≡ Some x → Contains xs x × (p x ≡ true)) → cond b (Some y) (find p xs) ≡ Some x → Contains (y ∷ xs) x × (p x ≡ true)
found_at p y x xs true here later is = let same : y ≡ x = cc in ((0, omega arith, same), sym (ap p same) ∙ here)
found_at p y x xs false here later is = let rest = later is in ((suc rest.0.0, omega (arith, rest.0.1), rest.0.2), rest.1)

-- what is found is there, and passes the test
found : {X : Type 0} (p : X → Bool) (xs : List X) (x : X) → find p xs ≡ Some x → Contains xs x × (p x ≡ true)
found p [] x is = cc
found p (y ∷ xs) x is = found_at p y x xs (p y) refl (found p xs x) is

first_so : (a b : Bool) → (a && b) ≡ true → a ≡ true
first_so true b h = refl
first_so false b h = cc

-- one message is settled
pub length-settled : (ws : List Waiting) (number command : ℕ) (w : Waiting) → HaveDistinctNumbers ws → message_for number command ws ≡ Some w → length (without number ws) + 1 ≡ length ws
length-settled ws number command w apart is =
    let there = found (λ (v : Waiting). (v.given == number) && is_response_to v.command command) ws w is in
    let same : w.given ≡ number = eqb-true w.given number (first_so (w.given == number) (is_response_to w.command command) there.1) in
    sym (ap (λ n. length (without n ws) + 1) same) ∙ length-without ws w apart there.0

-- one message is overdue
pub length-overdue : (ws : List Waiting) (until : ℕ) (w : Waiting) → HaveDistinctNumbers ws → overdue until ws ≡ Some w → length (without w.given ws) + 1 ≡ length ws
length-overdue ws until w apart is = length-without ws w apart (found (λ (v : Waiting). nat_le v.since until) ws w is).0
