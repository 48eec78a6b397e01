-- The tests of a down and of an up say whether they fit.
use Rattle.std.proofs.Common.{◌≡◌, ◌↔◌, Bool, true, not, List, length, sym, ◌∙◌, ap}
use Rattle.std.proofs.lemmas.Bool.{and_from, and_parts, not-true, eqb-true, eq-eqb}
use Rattle.smx_history.specs.declared.entry.Entry.{Entry}
use Rattle.smx_history.specs.declared.entry.Kind.TheVariants as kind
use Rattle.smx_history.specs.declared.limits.Limits.{Limits}
use Rattle.smx_legal.specs.declared.totals.Totals.{Totals}
use Rattle.smx_history.specs.Entries.{is_link, unanswered_takes}
use Rattle.smx_history.specs.Legal.{KeepsRules, HasForm, StandsWell, IsBare}
use Rattle.smx_history.proofs.Fitting.{Fits}
use Rattle.smx_history.proofs.Kept.{HasForm-by, StandsWell-by}
use Rattle.smx_history.proofs.AdmitAgrees.{empty_of}
use Rattle.smx_history.proofs.LinkAgrees.{link_fit}
use Rattle.smx_legal.specs.Checks.{Counted, link_fits, down_fits, up_fits}

bare_from : (e : Entry) → link_fits e ≡ true → IsBare e
bare_from e h =
    let a = and_parts _ _ h in
    let b = and_parts _ _ a.0 in
    let d = and_parts _ _ a.1 in
    (eqb-true _ _ b.0, eqb-true _ _ b.1, eqb-true _ _ d.0, eqb-true _ _ d.1)

bare_to : (e : Entry) → IsBare e → link_fits e ≡ true
bare_to e h = and_from _ _ (and_from _ _ (eq-eqb _ _ h.0) (eq-eqb _ _ h.1)) (and_from _ _ (eq-eqb _ _ h.2) (eq-eqb _ _ h.3))

pub down_iff : (limits : Limits) (t : Totals) (es : List Entry) (e : Entry) (b : Bool) → KeepsRules limits es → Counted es t → e.kind ≡ kind.Down → b ≡ down_fits t e → (b ≡ true) ↔ Fits limits es e
down_iff limits t es e b legal counted k is = (
  λ h. let w = and_parts _ _ (sym is ∙ h) in
      link_fit limits es e legal (ap is_link k) (HasForm-by e kind.Down k (bare_from e w.0)) (StandsWell-by es e kind.Down k (sym counted.up ∙ w.1)),
  λ fits.
      let form : HasForm kind.Down e = rw k at fits.form in
      let standing : StandsWell kind.Down es e = rw k at fits.standing in
      is ∙ and_from _ _ (bare_to e form) (counted.up ∙ standing),
)

pub up_iff : (limits : Limits) (t : Totals) (es : List Entry) (e : Entry) (b : Bool) → KeepsRules limits es → Counted es t → e.kind ≡ kind.Up → b ≡ up_fits t e → (b ≡ true) ↔ Fits limits es e
up_iff limits t es e b legal counted k is = (
  λ h. let w = and_parts _ _ (sym is ∙ h) in
      let x = and_parts _ _ w.0 in
      link_fit limits es e legal (ap is_link k) (HasForm-by e kind.Up k (bare_from e x.0))
      (StandsWell-by es e kind.Up k (sym counted.up ∙ not-true _ x.1, empty_of (unanswered_takes es) (sym counted.unanswered ∙ eqb-true _ _ w.1))),
  λ fits.
      let form : HasForm kind.Up e = rw k at fits.form in
      let standing : StandsWell kind.Up es e = rw k at fits.standing in
      is ∙ and_from _ _ (and_from _ _ (bare_to e form) (ap not (counted.up ∙ standing.0))) (eq-eqb _ _ (counted.unanswered ∙ ap length standing.1)),
)
