-- The notes of one seat in a history.
use Rattle.std.proofs.Common.{cond, ◌≡◌, ◌≢◌, ℕ, suc, ◌<◌, ◌≤◌, ◌∙◌, eq-eqb, ne_eqb, List, [], ◌∷◌, refl, sym, ap, subst, arith}
use Rattle.std.specs.Prelude.{All}
use Rattle.std.proofs.lemmas.List.Elements.{All-head}
use mathlib.Core.Logic.{dite}
use native.Mathlib.Decide.{ℕ_discrete}
use Rattle.smx_lock.specs.Notes.{notes_of}

cons_not_nil : {A : Type 0} (x : A) (xs : List A) → x ∷ xs ≡ [] → ⊥
cons_not_nil x xs e = cc

module _ {N : Type 0} (writer : N → ℕ) where
  -- where no seat but the first made a note, all are the first's
  pub only_first : (h : List N) → ((k : ℕ) → 1 ≤ k → notes_of writer k h ≡ []) → notes_of writer 0 h ≡ h
  only_first [] others = refl
  only_first (n ∷ ns) others = dite (ℕ_discrete (writer n) 0)
      (λ first. subst (λ b. cond b (n ∷ notes_of writer 0 ns) (notes_of writer 0 ns) ≡ n ∷ ns) (sym (eq-eqb (writer n) 0 first))
      (ap (λ l. n ∷ l) (only_first ns (λ k le. subst (λ b. cond b (n ∷ notes_of writer k ns) (notes_of writer k ns) ≡ []) (ne_eqb (writer n) k (λ e. omega arith)) (others k le)))))
      (λ other. absurd (cons_not_nil n (notes_of writer (writer n) ns)
      (subst (λ b. cond b (n ∷ notes_of writer (writer n) ns) (notes_of writer (writer n) ns) ≡ []) (eq-eqb (writer n) (writer n) refl) (others (writer n) (omega arith)))))

  -- where there is one seat the history is that seat's notes
  pub all_own : (h : List N) (number seats : ℕ) → number < seats → ((k : ℕ) → seats ≤ k → notes_of writer k h ≡ []) → seats ≡ 1 → h ≡ notes_of writer number h
  all_own h number seats below others one = let at : 0 ≡ number = omega arith in
      sym (only_first h (λ k le. others k (omega arith))) ∙ ap (λ (k : ℕ). notes_of writer k h) at

  -- notes of one seat are all of that seat's
  pub own_all : (k : ℕ) (new : List N) → All (λ n. writer n ≡ k) new → notes_of writer k new ≡ new
  own_all k [] h = refl
  own_all k (n ∷ ns) h = subst (λ b. cond b (n ∷ notes_of writer k ns) (notes_of writer k ns) ≡ n ∷ ns) (sym (eq-eqb (writer n) k (All-head (λ m. writer m ≡ k) n ns h))) (ap (λ l. n ∷ l) (own_all k ns (λ i d le. h (suc i) d (omega arith))))

  -- and none are another's
  pub own_none : (k j : ℕ) (new : List N) → j ≢ k → All (λ n. writer n ≡ k) new → notes_of writer j new ≡ []
  own_none k j [] other h = refl
  own_none k j (n ∷ ns) other h = subst (λ b. cond b (n ∷ notes_of writer j ns) (notes_of writer j ns) ≡ []) (sym (ne_eqb (writer n) j (λ e. other (sym e ∙ All-head (λ m. writer m ≡ k) n ns h)))) (own_none k j ns other (λ i d le. h (suc i) d (omega arith)))
