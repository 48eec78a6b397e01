-- How turns end, one more.
use Rattle.std.proofs.Common.{◌≡◌, ℕ, ◌+◌, zero, suc, List, [], ◌∷◌, ◌++◌, sym, ◌∙◌, ap, refl, arith, append_assoc, Result, Ok}
use Rattle.smx_turns.specs.declared.end.Fault.{Fault}
use Rattle.smx_turns.specs.declared.end.TurnEnd.{TurnEnd}
use Rattle.smx_turns.specs.declared.end.TurnEnd.TheVariants.{Worked}
use Rattle.smx_turns.specs.Rounds.{worked_turns}

ended : (k : ℕ) (x : Result TurnEnd Fault) → worked_turns k [] ++ x ∷ [] ≡ worked_turns k (x ∷ [])
ended zero x = refl
ended (suc k) x = ap (λ l. Ok Worked ∷ l) (ended k x)

one_more : (k : ℕ) → worked_turns k (Ok Worked ∷ []) ≡ worked_turns (k + 1) []
one_more zero = refl
one_more (suc k) = let e : suc k + 1 ≡ suc (k + 1) = omega arith in ap (λ l. Ok Worked ∷ l) (one_more k) ∙ sym (ap (λ n. worked_turns n []) e)

pub last_one : (old es es' : List (Result TurnEnd Fault)) (k : ℕ) (x : Result TurnEnd Fault) → es' ≡ es ++ x ∷ [] → es ≡ old ++ worked_turns k [] → es' ≡ old ++ worked_turns k (x ∷ [])
last_one old es es' k x grown was =
    grown ∙ ap (λ l. l ++ x ∷ []) was ∙ append_assoc old (worked_turns k []) (x ∷ []) ∙ ap (λ l. old ++ l) (ended k x)

pub round_more : (old es es' : List (Result TurnEnd Fault)) (k : ℕ) → es' ≡ es ++ Ok Worked ∷ [] → es ≡ old ++ worked_turns k [] → es' ≡ old ++ worked_turns (k + 1) []
round_more old es es' k grown was = last_one old es es' k (Ok Worked) grown was ∙ ap (λ l. old ++ l) (one_more k)

-- said of the end itself
pub end_as : (es es' : List (Result TurnEnd Fault)) (e e' : TurnEnd) → e ≡ e' → es' ≡ es ++ Ok e ∷ [] → es' ≡ es ++ Ok e' ∷ []
end_as es es' e e' same grown = grown ∙ ap (λ x. es ++ Ok x ∷ []) same
