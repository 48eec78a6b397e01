-- Messages in rising order of their numbers: that with the least number comes first.
use Rattle.std.proofs.Common.{◌≡◌, ◌≢◌, ◌<◌, ◌≤◌, ◌==◌, ◌∷◌, ℕ, true, false, List, [], length, get_or, refl, ap, sym, ◌∙◌, arith, inl, inr, zero, suc, ◌+◌, length-append}
use Rattle.std.proofs.lemmas.List.{length-map}
use Rattle.std.specs.List.{All}
use Rattle.std.proofs.lemmas.Bool.{cases_lt, le-leb, lt-leb, eq-eqb, ne_eqb}
use Rattle.std.proofs.lemmas.List.Elements.{All-cons, All-head, All-tail}
use Rattle.smx_routes.specs.declared.mo_window.Waiting.{Waiting}
use Rattle.smx_routes.specs.Window.{HaveDistinctNumbers, IsFirst, without}
use Rattle.smx_routes.proofs.Apart.{without-other}
use Rattle.smx_mailbox.specs.Mailbox.{Mailbox, among, rising, unanswered_messages}

among-first : (w : Waiting) (vs : List Waiting) → All (λ v. w.given ≤ v.given) vs → among w vs ≡ w ∷ vs
among-first w [] least = refl
among-first w (v ∷ vs) least = rw (le-leb w.given v.given (All-head (λ (u : Waiting). w.given ≤ u.given) v vs least)) refl

All-among : (P : Waiting → Type 0) (w : Waiting) (vs : List Waiting) → P w → All P vs → All P (among w vs)
All-among P w [] here rest = All-cons P w [] here rest
All-among P w (v ∷ vs) here rest =
    elim (cases_lt v.given w.given) [
      | inl below ↦ rw (lt-leb w.given v.given below) (All-cons P v (among w vs) (All-head P v vs rest) (All-among P w vs here (All-tail P v vs rest)))
      | inr above ↦ rw (le-leb w.given v.given above) (All-cons P w (v ∷ vs) here rest)
    ]

All-rising : (P : Waiting → Type 0) (ws : List Waiting) → All P ws → All P (rising ws)
All-rising P [] all = all
All-rising P (w ∷ ws) all = All-among P w (rising ws) (All-head P w ws all) (All-rising P ws (All-tail P w ws all))

first_at : (ws : List Waiting) (k : ℕ) (w : Waiting) → HaveDistinctNumbers ws → k < length ws → get_or ws k w ≡ w → All (λ v. w.given ≤ v.given) ws → rising ws ≡ w ∷ rising (without w.given ws)
first_at [] k w apart within is least = absurd (omega arith)
first_at (x ∷ ws) zero w apart within is least =
    let same : (x.given == w.given) ≡ true = eq-eqb x.given w.given (ap (λ (v : Waiting). v.given) is) in
    let rest = without-other w.given ws (λ j d low equal. apart 0 (suc j) d (omega arith) (omega arith) (ap (λ (v : Waiting). v.given) is ∙ sym equal)) in
    let behind = All-rising (λ v. w.given ≤ v.given) ws (All-tail (λ (v : Waiting). w.given ≤ v.given) x ws least) in
    rw (same, rest) (ap (λ (v : Waiting). among v (rising ws)) is ∙ among-first w (rising ws) behind)
first_at (x ∷ ws) (suc k) w apart within is least =
    let distinct : x.given ≢ w.given = λ equal. apart 0 (suc k) w (omega arith) within (equal ∙ sym (ap (λ (v : Waiting). v.given) is)) in
    let other : (x.given == w.given) ≡ false = ne_eqb x.given w.given distinct in
    let below : w.given < x.given = omega (arith, distinct, All-head (λ (v : Waiting). w.given ≤ v.given) x ws least) in
    let rest = first_at ws k w (λ i j d less low. apart (suc i) (suc j) d (omega arith) (omega arith)) (omega arith) is (All-tail (λ (v : Waiting). w.given ≤ v.given) x ws least) in
    let behind = lt-leb x.given w.given below in
    rw (other, rest, behind) refl

-- the message with the least number is the first, and the others follow
pub rising-first : (ws : List Waiting) (w : Waiting) → HaveDistinctNumbers ws → IsFirst ws w → rising ws ≡ w ∷ rising (without w.given ws)
rising-first ws w apart first = first_at ws first.there.0 w apart first.there.1 first.there.2 first.least

length-among : (w : Waiting) (vs : List Waiting) → length (among w vs) ≡ length vs + 1
length-among w [] = refl
length-among w (v ∷ vs) =
    elim (cases_lt v.given w.given) [
      | inl below ↦ rw (lt-leb w.given v.given below) (omega (arith, length-among w vs))
      | inr above ↦ rw (le-leb w.given v.given above) (omega arith)
    ]

pub length-rising : (ws : List Waiting) → length (rising ws) ≡ length ws
length-rising [] = refl
length-rising (w ∷ ws) = omega (arith, length-among w (rising ws), length-rising ws)

pub length-unanswered : (m : Mailbox) → length (unanswered_messages m) ≡ length m.window.waiting + length m.waiting
length-unanswered m = simp (length-append, length-map, length-rising) refl
