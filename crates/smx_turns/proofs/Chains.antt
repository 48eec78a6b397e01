-- Events, one after another: one more, and more of them.
use Rattle.std.proofs.Common.{◌≡◌, List, [], ◌∷◌, ◌++◌, sym, ◌∙◌, ap, refl, subst, append_assoc}
use Rattle.std.proofs.lemmas.List.{append-nil}
use Rattle.std.proofs.lemmas.List.Concat.{flat_map-append}
use Rattle.std.proofs.Math.Logic.{∥∥₁_map}
use Rattle.std.specs.List.{flat_map}
use Rattle.smx_turns.specs.Runs.{Runs, RunsOn}

-- a filter of a list with one more at its end
pub pushed : {A B : Type 0} (f : A → List B) (xs : List A) (x : A) → flat_map f (xs ++ x ∷ []) ≡ flat_map f xs ++ f x
pushed f xs x = flat_map-append f xs (x ∷ []) ∙ ap (λ l. flat_map f xs ++ l) (append-nil (f x))

module _ {S E : Type 0} (does : S → E → S → Type 0) where
  pub runs_none : (s : S) → Runs does s [] s
  unfolding Runs
  runs_none s = refl

  pub runs_append : (s t u : S) (es fs : List E) → Runs does s es t → Runs does t fs u → Runs does s (es ++ fs) u
  unfolding Runs
  runs_append s t u [] fs r q = subst (λ (x : S). Runs does x fs u) r q
  runs_append s t u (e ∷ es) fs r q = (r.0, r.1, runs_append r.0 t u es fs r.2 q)

  pub runs_one : (s t : S) (e : E) → does s e t → Runs does s (e ∷ []) t
  unfolding Runs
  runs_one s t e d = (t, d, refl)

  pub runs_push : (s t u : S) (es es' : List E) (e : E) → es' ≡ es ++ e ∷ [] → does t e u → Runs does s es t → Runs does s es' u
  runs_push s t u es es' e grown d r = subst (λ (l : List E). Runs does s l u) (sym grown) (runs_append s t u es (e ∷ []) r (runs_one t u e d))

  -- the same, where only that there is such a chain is known
  pub chain_push : (s t u : S) (es es' : List E) (e : E) → es' ≡ es ++ e ∷ [] → does t e u → ∥ Runs does s es t ∥₁ → ∥ Runs does s es' u ∥₁
  chain_push s t u es es' e grown d was = ∥∥₁_map was (runs_push s t u es es' e grown d)

  pub chain_first : (s t u : S) (es es' : List E) (e : E) → t ≡ s → es ≡ [] → es' ≡ es ++ e ∷ [] → does t e u → ∥ Runs does s es' u ∥₁
  chain_first s t u es es' e same none grown d =
      ∣ runs_push s t u [] es' e (grown ∙ ap (λ l. l ++ e ∷ []) none) d (subst (λ (x : S). Runs does s [] x) (sym same) (runs_none s)) ∣₁

  pub ran_none : (s t : S) (es es' : List E) → t ≡ s → es' ≡ es → RunsOn does s es t es'
  unfolding Runs
  ran_none s t es es' same kept = record { more = []; grown = kept ∙ sym (append-nil es); runs = same }

  pub ran_more : (s t u : S) (es es' es'' more : List E) → RunsOn does s es t es' → es'' ≡ es' ++ more → Runs does t more u → RunsOn does s es u es''
  ran_more s t u es es' es'' more f grown r = record {
    more = f.more ++ more;
    grown = grown ∙ ap (λ l. l ++ more) f.grown ∙ append_assoc es f.more more;
    runs = runs_append s t u f.more more f.runs r;
  }
