-- The test of an admit says whether it fits.
use Rattle.smx_history.proofs.FitsAdmit.{admit_fit, clients_admitted}
use Rattle.std.proofs.Common.{◌≡◌, ◌↔◌, ℕ, Bool, true, List, map, sym, ◌∙◌, subst, arith}
use Rattle.std.proofs.lemmas.Bool.{and_from, and_parts, eqb-true, eq-eqb, ltb-true, lt-ltb}
use Rattle.smx_history.specs.declared.entry.Entry.{Entry}
use Rattle.smx_history.specs.declared.entry.Kind.TheVariants as kind
use Rattle.smx_history.specs.declared.limits.Limits.{Limits}
use Rattle.smx_legal.specs.declared.totals.Totals.{Totals}
use Rattle.smx_history.specs.Prefixes.{RiseAbove}
use Rattle.smx_history.specs.Entries.{admits}
use Rattle.smx_history.specs.Legal.{KeepsRules, HasForm}
use Rattle.smx_history.proofs.Fitting.{Fits}
use Rattle.smx_legal.specs.Checks.{Counted, admit_fits}
use Rattle.smx_history.proofs.Parts.{RiseAbove-end}

admit_to : (limits : Limits) (t : Totals) (es : List Entry) (e : Entry) → KeepsRules limits es → Counted es t → e.kind ≡ kind.Admit → admit_fits t e ≡ true → Fits limits es e
admit_to limits t es e legal counted k test =
    let a = and_parts _ _ test in
    let b = and_parts _ _ a.0 in
    let c = and_parts _ _ b.1 in
    admit_fit limits es e legal k (eqb-true _ _ b.0, eqb-true _ _ c.0, eqb-true _ _ c.1) (omega (arith, ltb-true _ _ a.1, counted.greatest))

admit_from : (limits : Limits) (t : Totals) (es : List Entry) (e : Entry) → Counted es t → e.kind ≡ kind.Admit → Fits limits es e → admit_fits t e ≡ true
admit_from limits t es e counted k fits =
    let form : HasForm kind.Admit e = rw k at fits.form in
    let above = RiseAbove-end 0 (map (λ x. x.client) (admits es)) e.client (subst (λ (xs : List ℕ). RiseAbove 0 xs) (clients_admitted es e k) fits.membership.clients) in
    and_from _ _ (and_from _ _ (eq-eqb e.ordinal 0 form.0) (and_from _ _ (eq-eqb e.number 0 form.1) (eq-eqb e.command 0 form.2))) (lt-ltb t.greatest e.client (omega (arith, above, counted.greatest)))

pub admit_iff : (limits : Limits) (t : Totals) (es : List Entry) (e : Entry) (b : Bool) → KeepsRules limits es → Counted es t → e.kind ≡ kind.Admit → b ≡ admit_fits t e → (b ≡ true) ↔ Fits limits es e
admit_iff limits t es e b legal counted k is = (λ h. admit_to limits t es e legal counted k (sym is ∙ h), λ fits. is ∙ admit_from limits t es e counted k fits)
