-- What a step changes, and nothing else.
use Rattle.std.proofs.Common.{◌≡◌, ℕ, ◌+◌, Bool, List, [], ◌∷◌, ◌++◌, length, not, refl, sym, ap, subst, Result}
use Rattle.std.specs.Prelude.{◌==◌}
use Rattle.smx_link.specs.declared.link.Polled.{Polled}
use Rattle.smx_link.specs.declared.link.LinkFault.{LinkFault}
use Rattle.smx_link.specs.Links.{fault_count}
use Rattle.smx_link.specs.Wiring.{spellings}
use Rattle.smx_turns.specs.declared.gate.Question.{Question}
use Rattle.smx_turns.specs.declared.gate.Party.{Party}
use Rattle.smx_turns.specs.declared.directory.Query.{Query}
use Rattle.smx_turns.specs.declared.step.Step.{Step}
use Rattle.smx_turns.specs.Scenes.{Scene, scene, Offers, Happens, Acts, Changed}
use Rattle.smx_turns.specs.Wires.{some_wait}
use Rattle.smx_turns.specs.Worth.{Worth}
use Rattle.smx_turns.proofs.Chains.{runs_push, runs_none}

module _ {S E : Type 0} where
  -- the same scenes by other names
  pub scenes_same : {q q' : List Question} {t t' : List Party} {f f' : List Query} {es es' : List E} {v v' : S} {u u' o o' : List ℕ} {p p' : List (Result Polled LinkFault)} {n n' : ℕ}
      → q' ≡ q → t' ≡ t → f' ≡ f → es' ≡ es → v' ≡ v → u' ≡ u → o' ≡ o → p' ≡ p → n' ≡ n → scene q' t' f' es' v' u' o' p' n' ≡ scene q t f es v u o p n
  scenes_same a b c d e f g h i = cc

  -- a question
  pub asks : (q q' : List Question) (t t' : List Party) (queries : List Query) (es : List E) (v : S) (u o : List ℕ) (ps : List (Result Polled LinkFault)) (f : ℕ) (x : Question)
      → q' ≡ q ++ x ∷ [] → t' ≡ t → scene q' t' queries es v u o ps f ≡ scene (q ++ x ∷ []) t queries es v u o ps f
  asks q q' t t' queries es v u o ps f x asked told = scenes_same asked told refl refl refl refl refl refl refl

module _ {S E : Type 0} (does : S → E → S → Type 0) (worth : E → Worth) (May : Scene S E → Step E → Scene S E → Type 0) where
  -- one step more
  pub step_more : (n : ℕ) (a b : Scene S E) (ss ss' : List (Step E)) (s : Step E) (base : Scene S E) → ss' ≡ ss ++ s ∷ [] → May a s b → Acts does worth n a s b
      → Changed does worth May n base ss a → Changed does worth May n base ss' b
  step_more n a b ss ss' s base grown may acts was = runs_push (λ x z y. May x z y × Acts does worth n x z y) base a b ss ss' s grown (may, acts) was

  pub nothing_yet : (n : ℕ) (a : Scene S E) (ss : List (Step E)) → ss ≡ [] → Changed does worth May n a ss a
  nothing_yet n a ss none = subst (λ l. Changed does worth May n a l a) (sym none) (runs_none (λ x z y. May x z y × Acts does worth n x z y) a)

  -- of the same steps
  pub changes_as : (n : ℕ) (a b : Scene S E) (ss ss' : List (Step E)) → ss' ≡ ss → Changed does worth May n a ss b → Changed does worth May n a ss' b
  changes_as n a b ss ss' same r = subst (λ l. Changed does worth May n a l b) (sym same) r

module _ {S E L : Type 0} (offered : L → List ℕ) (polls : L → List (Result Polled LinkFault)) (failures : L → ℕ) where
  -- an event
  pub happens : (does : S → E → S → Type 0) (worth : E → Worth) (asked asked' : List Question) (told told' : List Party) (queries queries' : List Query) (es es' : List E) (v v' : S) (u u' : List ℕ) (l l' : L) (e : E)
      → does v e v' → asked' ≡ asked → told' ≡ told ++ (worth e).tells → queries' ≡ queries ++ (worth e).finds → es' ≡ es ++ e ∷ [] → u' ≡ u ++ spellings (worth e).said → l' ≡ l
      → Happens does worth (scene asked told queries es v u (offered l) (polls l) (failures l)) e (scene asked' told' queries' es' v' u' (offered l') (polls l') (failures l'))
  happens does worth asked asked' told told' queries queries' es es' v v' u u' l l' e did same tells finds grown says link = record {
    does = did;
    same = scenes_same same tells finds grown refl says (ap offered link) (ap polls link) (ap failures link);
  }

  -- an offer that the link took some or nothing of
  pub offers : (asked : List Question) (told : List Party) (queries : List Query) (es : List E) (v v' : S) (u u' : List ℕ) (l l' : L) (waited wrote left : Bool)
      → v' ≡ v → waited ≡ some_wait u → wrote ≡ not (length u' == length u) → left ≡ some_wait u' → offered l' ≡ offered l ++ u → polls l' ≡ polls l → failures l' ≡ failures l
      → Offers (scene asked told queries es v u (offered l) (polls l) (failures l)) waited wrote left (scene asked told queries es v' u' (offered l') (polls l') (failures l'))
  offers asked told queries es v v' u u' l l' waited wrote left same was did is_left offer read well = record {
    some_waited = was;
    some_written = did;
    some_left = is_left;
    same = scenes_same refl refl refl refl same refl offer read well;
  }

  -- an offer that failed
  pub write_fails : (asked : List Question) (told : List Party) (queries : List Query) (es : List E) (v v' : S) (u u' : List ℕ) (l l' : L)
      → v' ≡ v → offered l' ≡ offered l ++ u → polls l' ≡ polls l → failures l' ≡ failures l + 1
      → scene asked told queries es v' u' (offered l') (polls l') (failures l') ≡ scene asked told queries es v u' (offered l ++ u) (polls l) (failures l + 1)
  write_fails asked told queries es v v' u u' l l' same offer read fails =
      scenes_same refl refl refl refl same refl offer read fails

  -- a read
  pub reads : (asked : List Question) (told : List Party) (queries : List Query) (es : List E) (v v' : S) (u u' : List ℕ) (l l' : L) (answer : Result Polled LinkFault)
      → v' ≡ v → u' ≡ u → offered l' ≡ offered l → polls l' ≡ polls l ++ answer ∷ [] → failures l' ≡ failures l + fault_count answer
      → scene asked told queries es v' u' (offered l') (polls l') (failures l') ≡ scene asked told queries es v u (offered l) (polls l ++ answer ∷ []) (failures l + fault_count answer)
  reads asked told queries es v v' u u' l l' answer same kept offer read well =
      scenes_same refl refl refl refl same kept offer read well
