-- The ring of lanes in which a request is offered.
use Rattle.std.proofs.Common.{◌≡◌, ◌<◌, ◌≤◌, ◌+◌, ◌%◌, ℕ, Bool, true, false, List, ◌∷◌, length, drop, sym, ◌∙◌, ap, subst, arith, Option, Some, None, slice_get}
use Rattle.std.specs.Prelude.{is_none}
use Rattle.std.specs.List.{find}
use Rattle.smx_history.specs.declared.reply.Refusal.{Refusal}
use Rattle.smx_history.specs.Replies.{accept_refusal}
use Rattle.smx_history.specs.Ring.{ring}
use Rattle.smx_history.proofs.Ring.{ring_step, ring_end}
use Rattle.smx_lines.specs.declared.state.LinkedLane.{LinkedLane}
use Rattle.smx_lines.specs.Private.Lanes.{accepts_in}
use Rattle.smx_lines.proofs.Lanes.{find-here, find-next}

-- whether the lane at an index accepts a request of the client
abbrev pub accepts_at : List LinkedLane → ℕ → ℕ → Bool
accepts_at lanes c i = accepts_in c (slice_get lanes i)

abbrev pub first_from : List LinkedLane → ℕ → ℕ → ℕ → Option ℕ
first_from lanes c last k = find (accepts_at lanes c) (drop k (ring (last % length lanes) (length lanes)))

-- the k-th lane accepts, or the lanes after it are left
pub ring_found : (lanes now : List LinkedLane) (c last count k : ℕ) (old : LinkedLane) → count ≡ length lanes → k < count → now ≡ lanes → slice_get now ((last % count + k) % count) ≡ Some old → accept_refusal old.lane c ≡ None
    → first_from lanes c last k ≡ Some ((last % count + k) % count)
ring_found lanes now c last count k old size lt same here none =
    let there : slice_get lanes ((last % count + k) % count) ≡ Some old = ap (λ xs. slice_get xs ((last % count + k) % count)) (sym same) ∙ here in
    let good : accepts_at lanes c ((last % count + k) % count) ≡ true = ap (accepts_in c) there ∙ ap is_none none in
    let step : drop k (ring (last % length lanes) (length lanes)) ≡ ((last % count + k) % count) ∷ drop (k + 1) (ring (last % length lanes) (length lanes)) =
    subst (λ n. drop k (ring (last % n) n) ≡ ((last % count + k) % count) ∷ drop (k + 1) (ring (last % n) n)) size (ring_step (last % count) count k lt) in
    find-here (accepts_at lanes c) _ (drop (k + 1) (ring (last % length lanes) (length lanes))) ((last % count + k) % count) step good

pub ring_next : (lanes now : List LinkedLane) (c last count k : ℕ) (old : LinkedLane) (e : Refusal) → count ≡ length lanes → k < count → now ≡ lanes → slice_get now ((last % count + k) % count) ≡ Some old → accept_refusal old.lane c ≡ Some e
    → first_from lanes c last k ≡ first_from lanes c last (k + 1)
ring_next lanes now c last count k old e size lt same here refused =
    let there : slice_get lanes ((last % count + k) % count) ≡ Some old = ap (λ xs. slice_get xs ((last % count + k) % count)) (sym same) ∙ here in
    let bad : accepts_at lanes c ((last % count + k) % count) ≡ false = ap (accepts_in c) there ∙ ap is_none refused in
    let step : drop k (ring (last % length lanes) (length lanes)) ≡ ((last % count + k) % count) ∷ drop (k + 1) (ring (last % length lanes) (length lanes)) =
    subst (λ n. drop k (ring (last % n) n) ≡ ((last % count + k) % count) ∷ drop (k + 1) (ring (last % n) n)) size (ring_step (last % count) count k lt) in
    find-next (accepts_at lanes c) _ (drop (k + 1) (ring (last % length lanes) (length lanes))) ((last % count + k) % count) step bad

pub ring_none : (lanes : List LinkedLane) (c last count k : ℕ) → count ≡ length lanes → count ≤ k → first_from lanes c last k ≡ None
ring_none lanes c last count k size le = ap (find (accepts_at lanes c)) (ring_end (last % length lanes) (length lanes) k (omega (arith, size, le)))
