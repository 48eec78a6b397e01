-- A turn's steps with one more at their end, and what they come to.
use Rattle.std.proofs.Common.{◌≡◌, Bool, true, false, ◌&&◌, List, [], ◌∷◌, ◌++◌, sym, ◌∙◌, ap, refl}
use Rattle.smx_turns.specs.declared.step.Step.{Step}
use Rattle.smx_turns.specs.Steps.{is_quiet_step, are_quiet, phase_from}

module _ {E : Type 0} where
  quiet_push : (e : E → Bool) (ss : List (Step E)) (s : Step E) → are_quiet e (ss ++ s ∷ []) ≡ (are_quiet e ss && is_quiet_step e s)
  unfolding are_quiet
  quiet_push e [] s = both_true (is_quiet_step e s)
    where
      both_true : (b : Bool) → (b && true) ≡ b
      both_true true = refl
      both_true false = refl
  quiet_push e (x ∷ ss) s = ap (λ b. is_quiet_step e x && b) (quiet_push e ss s) ∙ assoc (is_quiet_step e x) (are_quiet e ss) (is_quiet_step e s)
    where
      assoc : (a b d : Bool) → (a && (b && d)) ≡ ((a && b) && d)
      assoc true b d = refl
      assoc false b d = refl

  pub quiet_none : (e : E → Bool) → true ≡ are_quiet {E = E} e []
  unfolding are_quiet
  quiet_none e = refl

  -- one more, of which nothing came
  pub still_quiet : (e : E → Bool) (ss ss' : List (Step E)) (s : Step E) (b q : Bool) → ss' ≡ ss ++ s ∷ [] → q ≡ is_quiet_step e s → q ≡ true
      → b ≡ are_quiet e ss → b ≡ are_quiet e ss'
  still_quiet e ss ss' s b q grown which calm was =
      was ∙ sym (ap (are_quiet e) grown ∙ quiet_push e ss s ∙ ap (λ x. are_quiet e ss && x) (sym which ∙ calm) ∙ both_right (are_quiet e ss))
    where
      both_right : (a : Bool) → (a && true) ≡ a
      both_right true = refl
      both_right false = refl

  -- one more, of which something came
  pub not_quiet : (e : E → Bool) (ss ss' : List (Step E)) (s : Step E) (q : Bool) → ss' ≡ ss ++ s ∷ [] → q ≡ is_quiet_step e s → q ≡ false
      → false ≡ are_quiet e ss'
  not_quiet e ss ss' s q grown which loud =
      sym (ap (are_quiet e) grown ∙ quiet_push e ss s ∙ ap (λ x. are_quiet e ss && x) (sym which ∙ loud) ∙ both_false (are_quiet e ss))
    where
      both_false : (a : Bool) → (a && false) ≡ false
      both_false true = refl
      both_false false = refl

module _ {P S : Type 0} (go : P → S → P) where
  from_push : (p : P) (ss : List S) (s : S) → phase_from go p (ss ++ s ∷ []) ≡ go (phase_from go p ss) s
  from_push p [] s = refl
  from_push p (x ∷ ss) s = from_push (go p x) ss s

  -- one step more leads from one phase to the next
  pub phase_push : (first : P) (ss ss' : List S) (s : S) (p q : P) → ss' ≡ ss ++ s ∷ [] → go p s ≡ q → phase_from go first ss ≡ p → phase_from go first ss' ≡ q
  phase_push first ss ss' s p q grown cell was = ap (phase_from go first) grown ∙ from_push first ss s ∙ ap (λ x. go x s) was ∙ cell
