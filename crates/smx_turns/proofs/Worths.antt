-- One event more, and what the events are worth.
use Rattle.std.proofs.Common.{◌≡◌, List, [], ◌∷◌, ◌++◌, Bool, ◌||◌, Option, None, sym, ◌∙◌, ap, refl, append_assoc}
use Rattle.std.proofs.Math.Bool.{or-false}
use Rattle.std.proofs.lemmas.List.Folds.{list_any-append}
use Rattle.std.specs.List.{flat_map, list_any}
use Rattle.smx_pdu.specs.declared.pdu.Pdu.{Pdu}
use Rattle.smx_turns.specs.Worth.{Worth, those, ins, outs, has_broken}
use Rattle.smx_turns.specs.declared.end.End.{End}
use Rattle.smx_turns.specs.Endings.{or_end, ending_of}
use Rattle.smx_turns.proofs.Chains.{pushed}
use Rattle.smx_turns.proofs.Logged.{phase_push}

-- whether any is so, of one more
pub any_push : {E : Type 0} (f : E → Bool) (es es' : List E) (e : E) → es' ≡ es ++ e ∷ [] → list_any f es' ≡ (list_any f es || f e)
any_push f es es' e grown = ap (list_any f) grown ∙ list_any-append f es (e ∷ []) ∙ ap (λ b. list_any f es || b) (or-false (f e))

module _ {E : Type 0} (worth : E → Worth) where
  pub ins_push : (es es' : List E) (e : E) → es' ≡ es ++ e ∷ [] → ins worth es' ≡ ins worth es ++ (worth e).decided
  unfolding ins
  ins_push es es' e grown = ap (flat_map (λ x. (worth x).decided)) grown ∙ pushed (λ x. (worth x).decided) es e

  pub outs_push : (es es' : List E) (e : E) → es' ≡ es ++ e ∷ [] → outs worth es' ≡ outs worth es ++ (worth e).said
  unfolding outs
  outs_push es es' e grown = ap (flat_map (λ x. (worth x).said)) grown ∙ pushed (λ x. (worth x).said) es e

  pub broken_push : (es es' : List E) (e : E) → es' ≡ es ++ e ∷ [] → has_broken worth es' ≡ (has_broken worth es || (worth e).breaks)
  unfolding has_broken
  broken_push es es' e grown = any_push (λ x. (worth x).breaks) es es' e grown

  -- how the work ended, with one more
  pub ending_push : (es es' : List E) (e : E) (o o' : Option End) → es' ≡ es ++ e ∷ [] → o ≡ ending_of worth es → o' ≡ or_end o (worth e).ends → o' ≡ ending_of worth es'
  unfolding ending_of
  ending_push es es' e o o' grown was now = now ∙ sym (phase_push (λ x y. or_end x (worth y).ends) None es es' e o (or_end o (worth e).ends) grown refl (sym was))

  -- what was heard is what was decided, and then one that waits
  pub heard_push : (was now : List Pdu) (es es' : List E) (e : E) (held held' : Option Pdu) → es' ≡ es ++ e ∷ [] → was ≡ ins worth es ++ those held → now ≡ was
      → (worth e).decided ++ those held' ≡ those held → now ≡ ins worth es' ++ those held'
  heard_push was now es es' e held held' grown is same settled =
      same ∙ is ∙ ap (λ l. ins worth es ++ l) (sym settled) ∙ sym (append_assoc (ins worth es) (worth e).decided (those held'))
      ∙ ap (λ l. l ++ those held') (sym (ins_push es es' e grown))
