-- One step of a client's leaving more.
use Rattle.std.proofs.Common.{◌≡◌, ◌+◌, List, [], ◌∷◌, ◌++◌, sym, ◌∙◌, ap, subst, arith, false, Bool, ◌||◌, Option, None}
use Rattle.std.proofs.Math.Bool.{or-false, or_assoc}
use Rattle.smx_box.specs.Boxes.{Receiving, Sending}
use Rattle.smx_routes.specs.Window.{Window}
use Rattle.smx_pdu.specs.declared.pdu.Pdu.{Pdu}
use Rattle.smx_client.specs.declared.reply.Parked.{Parked}
use Rattle.smx_turns.specs.declared.mo_item.MoItem.{MoItem}
use Rattle.smx_turns.specs.Runs.{Runs}
use Rattle.smx_client.specs.declared.leaver.Leaving.{Leaving}
use Rattle.smx_client.specs.Leaving.{Rest, Left, rest_of, gets, get_of, is_put, is_answered}

gets_more : (es : List Leaving) (e : Leaving) → gets (es ++ e ∷ []) ≡ gets es + get_of e
unfolding gets
gets_more [] e = omega arith
gets_more (x ∷ es) e = let h = gets_more es e in omega (arith, h)

pub gets_push : (es es' : List Leaving) (e : Leaving) → es' ≡ es ++ e ∷ [] → gets es' ≡ gets es + get_of e
gets_push es es' e grown = ap gets grown ∙ gets_more es e

-- a step that asks the box nothing
pub gets_same : (es es' : List Leaving) (e : Leaving) → es' ≡ es ++ e ∷ [] → get_of e ≡ 0 → gets es' ≡ gets es
gets_same es es' e grown none = let h = gets_push es es' e grown in omega (arith, h, none)

pub left_first : (h h' : Option Parked) (w w' : Window) (i i' : Receiving MoItem) (x x' : List (Sending Pdu)) (es : List Leaving)
    → es ≡ [] → h' ≡ h → w' ≡ w → i' ≡ i → x' ≡ x → Left (rest_of h' w' i' x') es (rest_of h w i x)
unfolding Runs
left_first h h' w w' i i' x x' es none parked window inbox senders =
    let same : rest_of h w i x ≡ rest_of h' w' i' x' = cc in
    subst (λ l. Left (rest_of h' w' i' x') l (rest_of h w i x)) (sym none) ∣ same ∣₁

pub gets_none : (es : List Leaving) → es ≡ [] → gets es ≡ 0
unfolding gets
gets_none es none = ap gets none

answered_more : (es : List Leaving) (e : Leaving) → is_answered (es ++ e ∷ []) ≡ (is_answered es || is_put e)
unfolding is_answered
answered_more [] e = or-false (is_put e)
answered_more (x ∷ es) e = ap (λ b. is_put x || b) (answered_more es e) ∙ sym (or_assoc (is_put x) (is_answered es) (is_put e))

pub answered_push : (es es' : List Leaving) (e : Leaving) (was now : Bool) → es' ≡ es ++ e ∷ [] → was ≡ is_answered es → now ≡ (was || is_put e) → now ≡ is_answered es'
answered_push es es' e was now grown is grows = grows ∙ ap (λ b. b || is_put e) is ∙ sym (ap is_answered grown ∙ answered_more es e)

pub answered_none : (es : List Leaving) → es ≡ [] → is_answered es ≡ false
unfolding is_answered
answered_none es none = ap is_answered none

pub left_so : (h h' o : Option Parked) (w w' u : Window) (i i' j : Receiving MoItem) (x x' y : List (Sending Pdu)) (es : List Leaving)
    → h' ≡ h → w' ≡ w → i' ≡ i → x' ≡ x → o ≡ None → Left (rest_of h' w' i' x') es (rest_of o u j y) → Left (rest_of h w i x) es (rest_of None u j y)
left_so h h' o w w' u i i' j x x' y es parked window inbox senders none left =
    let first : rest_of h' w' i' x' ≡ rest_of h w i x = cc in
    subst (λ p. Left (rest_of h w i x) es (rest_of p u j y)) none (subst (λ (r : Rest). Left r es (rest_of o u j y)) first left)
