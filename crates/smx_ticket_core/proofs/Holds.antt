-- The holds of a run have the tickets in order.
use Rattle.std.proofs.Common.{◌≡◌, ℕ, ◌+◌, ◌<◌, ◌≤◌, ◌⊎◌, List, [], ◌∷◌, ◌++◌, length, refl, sym, ap, ◌∙◌, subst, ⊎_elim, arith, length-append, replicate}
use mathlib.Core.Option.{Option, some, some-injective, some-ne-none}
use lib.ListN.{get_elem?}
use Rattle.std.proofs.lemmas.List.{append-nil}
use Rattle.smx_ticket_core.specs.declared.callers.Caller.{Caller}
use Rattle.smx_ticket_core.specs.declared.callers.Caller.TheVariants.{Idle, Read, Saw, Waiting, Holding}
use Rattle.smx_ticket_core.specs.declared.callers.Event.{Event}
use Rattle.smx_ticket_core.specs.Machine.{Machine, most, who, Turn, start, holding, begins, begins_between, Run, InTicketOrder, ExclusionLaw, FitsNumbers, ticket, Sound}
use Rattle.smx_ticket_core.proofs.Changes.{Change, row_changes}
use Rattle.smx_ticket_core.proofs.Lists.{sum_by, set_here, sum_set, sum_zero, at_copies, at_end}
use Rattle.smx_ticket_core.proofs.Rows.{changed, after_row}
use Rattle.smx_ticket_core.proofs.Soundness.{run_sound, at_most_one}

-- the holds so far, and what each had
pub record Counted (first : ℕ) (m : Machine) (holds : List ℕ) : Type 0 where
  pub long : m.serving + sum_by holding m.callers ≡ first + length holds
  pub in_order : InTicketOrder first holds

start_counted : (callers first : ℕ) → Counted first (start callers first) []
start_counted callers first = record {
  long = let z : sum_by holding (replicate callers Idle) ≡ 0 = sum_zero holding (replicate callers Idle) (λ i c e. sym (ap holding (at_copies callers i Idle c e))) in omega arith;
  in_order = λ k t e. absurd (some-ne-none t (sym e));
}

-- no caller holds where one takes its turn or draws what is served
no_holder : (m : Machine) (i : ℕ) (c : Caller) → Sound m → get_elem? m.callers i ≡ some c → holding c ≡ 0 → (ticket c ≡ m.serving + 1) ⊎ (m.next ≡ m.serving) → sum_by holding m.callers ≡ 0
no_holder m i c s at free why = sum_zero holding m.callers (λ j d there. one j d there (s.each j d there))
  where
    one : (j : ℕ) (d : Caller) → get_elem? m.callers j ≡ some d → FitsNumbers m.next m.serving d → holding d ≡ 0
    one j Idle there f = refl
    one j (Read x) there f = refl
    one j (Saw x) there f = refl
    one j (Waiting x) there f = refl
    one j (Holding x) there f = ⊎_elim (λ (mine : ticket c ≡ m.serving + 1). let g : ticket c ≡ x + 1 = omega arith in let p : 0 < ticket c = omega arith in let same : i ≡ j = s.apart i j c (Holding x) at there p g in
        let e : c ≡ Holding x = some-injective c (Holding x) (sym at ∙ ap (get_elem? m.callers) same ∙ there) in let h : holding c ≡ 1 = ap holding e in absurd (omega arith)) (λ (all : m.next ≡ m.serving). absurd (omega arith)) why

begun_is : (o p : Option Caller) (c d : Caller) → o ≡ some c → p ≡ some d → begins_between o p ≡ begins c d
begun_is o p c d e f = ap (λ (x : Option Caller). begins_between x p) e ∙ ap (begins_between (some c)) f

grows : (first : ℕ) (m : Machine) (i : ℕ) (c : Caller) (t : Turn) (past new : List ℕ) → Sound m → Counted first m past → get_elem? m.callers i ≡ some c → Change m.next m.serving c t → new ≡ begins c t.1.1
    → Counted first (changed m i t) (past ++ new)
grows first m i c t past new s k at ch is = record {
  long = let e = sum_set holding m.callers i t.1.1 c at in let f : t.1.0 + holding t.1.1 ≡ m.serving + holding c + length (begins c t.1.1) = ch.counted in let l : length new ≡ length (begins c t.1.1) = ap length is in let a = length-append past new in let o = k.long in omega arith;
  in_order = ⊎_elim (λ (no : begins c t.1.1 ≡ []). subst (λ (l : List ℕ). InTicketOrder first (past ++ l)) (sym (is ∙ no)) (λ q u e. k.in_order q u (sym (ap (λ (l : List ℕ). get_elem? l q) (append-nil past)) ∙ e)))
      (λ (yes : (begins c t.1.1 ≡ m.serving ∷ []) × (holding c ≡ 0) × ((ticket c ≡ m.serving + 1) ⊎ (m.next ≡ m.serving))). let z = no_holder m i c s at yes.1 yes.2 in let o = k.long in
      subst (λ (l : List ℕ). InTicketOrder first (past ++ l)) (sym (is ∙ yes.0)) (λ q u e. ⊎_elim (λ (old : get_elem? past q ≡ some u). k.in_order q u old)
      (λ (last : (q ≡ length past) × (m.serving ≡ u)). omega arith) (at_end past m.serving u q e))) ch.first;
}

pub run_counted : (callers first : ℕ) (es : List Event) (m : Machine) (holds : List ℕ) → first ≤ most → Run callers first es m holds → Counted first m holds
run_counted callers first [] m holds le r = subst (λ (z : Machine × List ℕ). Counted first z.0 z.1) (λ k. (sym r.0 k, sym r.1 k)) (start_counted callers first)
run_counted callers first (e ∷ es) m holds le r = let b = r.0 in let s = run_sound callers first es b r.1 le r.2 in let w = after_row b e m r.3 in
    let ch = row_changes b.next b.serving e w.0 w.1 w.3 s.behind s.bounded (s.each (who e) w.0 w.2) in
    let there : get_elem? m.callers (who e) ≡ some w.1.1.1 = ap (λ (z : Machine). get_elem? z.callers (who e)) w.4 ∙ set_here b.callers (who e) w.1.1.1 w.0 w.2 in
    let new = begins_between (get_elem? b.callers (who e)) (get_elem? m.callers (who e)) in
    subst (λ (z : Machine × List ℕ). Counted first z.0 z.1) (λ k. (sym w.4 k, sym r.4 k)) (grows first b (who e) w.0 w.1 r.1 new s (run_counted callers first es b r.1 le r.2) w.2 ch (begun_is _ _ w.0 w.1.1.1 w.2 there))

pub exclusion : ExclusionLaw
exclusion callers first es m holds le r = (at_most_one m (run_sound callers first es m holds le r), (run_counted callers first es m holds le r).in_order)
