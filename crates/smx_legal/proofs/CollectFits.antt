-- The test of a collect or a retire says whether it fits.
use Rattle.smx_history.proofs.FitsCollect.{IsOldest, collect_fit, retire_fit, ordinals_collected}
use Rattle.std.proofs.Common.{◌≡◌, ◌↔◌, Bool, true, not, List, [], ◌∷◌, ◌++◌, length, map, sym, ◌∙◌, ap, slice_get}
use Rattle.std.specs.Option.{option_map}
use Rattle.std.proofs.lemmas.List.{length-map}
use Rattle.std.proofs.lemmas.Option.{slice_get-map}
use Rattle.std.proofs.lemmas.Bool.{and_from, and_parts, eqb-true, eq-eqb, not-true}
use Rattle.smx_history.specs.declared.entry.Entry.{Entry}
use Rattle.smx_history.specs.declared.entry.Kind.TheVariants as kind
use Rattle.smx_history.specs.declared.limits.Limits.{Limits}
use Rattle.smx_history.specs.Prefixes.{StartsWith}
use Rattle.smx_history.specs.Entries.{is_answer, answers_of, collects_of}
use Rattle.smx_history.specs.Legal.{KeepsRules, IsFifo, HasForm, StandsWell}
use Rattle.smx_history.proofs.Fitting.{Fits}
use Rattle.smx_legal.specs.Checks.{collect_fits, retire_fits, is_oldest}
use Rattle.smx_history.proofs.Frames.{answers_of-other}
use Rattle.smx_history.proofs.Parts.{StartsWith-end}
use Rattle.smx_legal.proofs.Passing.{numbered_some, some_numbered}

pub oldest_is : (es : List Entry) (e : Entry) → option_map (λ (x : Entry). x.ordinal) (slice_get (answers_of e.client es) (length (collects_of e.client es))) ≡ slice_get (map (λ x. x.ordinal) (answers_of e.client es)) (length (map (λ x. x.ordinal) (collects_of e.client es)))
oldest_is es e =
    sym (slice_get-map (λ (x : Entry). x.ordinal) (answers_of e.client es) (length (collects_of e.client es)))
    ∙ ap (slice_get (map (λ (x : Entry). x.ordinal) (answers_of e.client es))) (sym (length-map (collects_of e.client es) (λ (x : Entry). x.ordinal)))

pub oldest_from : (es : List Entry) (e : Entry) → e.kind ≡ kind.Collect → IsFifo (es ++ e ∷ []) → IsOldest es e
unfolding IsOldest
oldest_from es e k fifo =
    let starts : StartsWith (map (λ x. x.ordinal) (answers_of e.client es)) (map (λ x. x.ordinal) (collects_of e.client es) ++ e.ordinal ∷ []) =
    rw (answers_of-other e.client es e (ap is_answer k), ordinals_collected es e k) at (fifo.collected e.client) in
    StartsWith-end (map (λ x. x.ordinal) (answers_of e.client es)) (map (λ x. x.ordinal) (collects_of e.client es)) e.ordinal starts

oldest_test : (es : List Entry) (e : Entry) → is_oldest es e ≡ true → IsOldest es e
unfolding IsOldest
oldest_test es e test = sym (oldest_is es e) ∙ numbered_some (slice_get (answers_of e.client es) (length (collects_of e.client es))) e.ordinal test

test_oldest : (es : List Entry) (e : Entry) → IsOldest es e → is_oldest es e ≡ true
unfolding IsOldest
test_oldest es e oldest = some_numbered (slice_get (answers_of e.client es) (length (collects_of e.client es))) e.ordinal (oldest_is es e ∙ oldest)

pub collect_iff : (limits : Limits) (es : List Entry) (e : Entry) (b : Bool) → KeepsRules limits es → e.kind ≡ kind.Collect → b ≡ collect_fits es e → (b ≡ true) ↔ Fits limits es e
collect_iff limits es e b legal k is = (
  λ h.
      let a = and_parts _ _ (sym is ∙ h) in
      let c = and_parts _ _ a.0 in
      let bare = and_parts _ _ c.0 in
      let served = and_parts _ _ c.1 in
      collect_fit limits es e legal k (eqb-true _ _ bare.0, eqb-true _ _ bare.1) (served.0, not-true _ served.1) (oldest_test es e a.1),
  λ fits.
      let form : HasForm kind.Collect e = rw k at fits.form in
      let served : StandsWell kind.Collect es e = rw k at fits.standing in
      is ∙ and_from _ _ (and_from _ _ (and_from _ _ (eq-eqb e.number 0 form.0) (eq-eqb e.command 0 form.1)) (and_from _ _ served.0 (ap not served.1))) (test_oldest es e (oldest_from es e k fits.fifo)),
)

pub retire_iff : (limits : Limits) (es : List Entry) (e : Entry) (b : Bool) → KeepsRules limits es → e.kind ≡ kind.Retire → b ≡ retire_fits es e → (b ≡ true) ↔ Fits limits es e
retire_iff limits es e b legal k is = (
  λ h.
      let a = and_parts _ _ (sym is ∙ h) in
      let c = and_parts _ _ a.0 in
      let bare = and_parts _ _ c.1 in
      let served = and_parts _ _ a.1 in
      retire_fit limits es e legal k (eqb-true _ _ c.0, eqb-true _ _ bare.0, eqb-true _ _ bare.1) (served.0, not-true _ served.1),
  λ fits.
      let form : HasForm kind.Retire e = rw k at fits.form in
      let served : StandsWell kind.Retire es e = rw k at fits.standing in
      is ∙ and_from _ _ (and_from _ _ (eq-eqb e.ordinal 0 form.0) (and_from _ _ (eq-eqb e.number 0 form.1) (eq-eqb e.command 0 form.2))) (and_from _ _ served.0 (ap not served.1)),
)
