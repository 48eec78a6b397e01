-- The test of an answer, in time or late, says whether it fits.
use Rattle.smx_history.proofs.FitsSettle.{answer_fit, late_fit, fail_fit}
use Rattle.std.proofs.Common.{◌==◌, ◌≡◌, ◌↔◌, Bool, true, not, ◌&&◌, List, sym, ◌∙◌, ap, subst}
use Rattle.std.proofs.lemmas.Bool.{and_from, and_parts, not-true, eqb-true, eq-eqb}
use Rattle.smx_pdu.specs.Command.{is_response_to}
use Rattle.smx_history.specs.declared.entry.Entry.{Entry}
use Rattle.smx_history.specs.declared.entry.Kind.{Kind}
use Rattle.smx_history.specs.declared.entry.Kind.TheVariants as kind
use Rattle.smx_history.specs.declared.limits.Limits.{Limits}
use Rattle.smx_history.specs.Entries.{is_accept, has_name}
use Rattle.smx_history.specs.Legal.{KeepsRules, StandsWell, IsPaired, Answers}
use Rattle.smx_history.proofs.Fitting.{Fits}
use Rattle.smx_legal.specs.Checks.{settle_fits, answer_fits, late_fits, fail_fits}
use Rattle.smx_history.specs.Failures.{failure_command}
use Rattle.smx_legal.proofs.Passing.{passes_first}

settle_from : (es : List Entry) (e : Entry) → settle_fits es e ≡ true → Answers es e
settle_from es e test =
    let a = and_parts _ _ test in
    let b = and_parts _ _ a.0 in
    let r = and_parts _ _ (sym (passes_first (λ x. is_accept x.kind && has_name e.client e.ordinal x) (λ x. x.command) (λ n. is_response_to n e.command) es) ∙ a.1) in
    record { taken = b.0; first = not-true _ b.1; accepted = r.0; command = r.1 }

settle_to : (es : List Entry) (e : Entry) → Answers es e → settle_fits es e ≡ true
settle_to es e p =
    and_from _ _ (and_from _ _ p.taken (ap not p.first))
    (passes_first (λ x. is_accept x.kind && has_name e.client e.ordinal x) (λ x. x.command) (λ n. is_response_to n e.command) es ∙ and_from _ _ p.accepted p.command)

pub answer_iff : (limits : Limits) (es : List Entry) (e : Entry) (b : Bool) → KeepsRules limits es → e.kind ≡ kind.Answer → b ≡ answer_fits es e → (b ≡ true) ↔ Fits limits es e
answer_iff limits es e b legal k is = (
  λ h. let w = and_parts _ _ (sym is ∙ h) in answer_fit limits es e legal k (settle_from es e w.0) (not-true _ w.1),
  λ fits.
      let standing : StandsWell kind.Answer es e = rw k at fits.standing in
      let paired : IsPaired kind.Answer es e = subst (λ (x : Kind). IsPaired x es e) k fits.pairing in
      is ∙ and_from _ _ (settle_to es e paired) (ap not standing),
)

pub late_iff : (limits : Limits) (es : List Entry) (e : Entry) (b : Bool) → KeepsRules limits es → e.kind ≡ kind.Late → b ≡ late_fits es e → (b ≡ true) ↔ Fits limits es e
late_iff limits es e b legal k is = (
  λ h. let w = and_parts _ _ (sym is ∙ h) in late_fit limits es e legal k (settle_from es e w.0) w.1,
  λ fits.
      let standing : StandsWell kind.Late es e = rw k at fits.standing in
      let paired : IsPaired kind.Late es e = subst (λ (x : Kind). IsPaired x es e) k fits.pairing in
      is ∙ and_from _ _ (settle_to es e paired) standing,
)

pub fail_iff : (limits : Limits) (es : List Entry) (e : Entry) (b : Bool) → KeepsRules limits es → e.kind ≡ kind.Fail → b ≡ fail_fits es e → (b ≡ true) ↔ Fits limits es e
fail_iff limits es e b legal k is =
    let first = passes_first (λ x. is_accept x.kind && has_name e.client e.ordinal x) (λ x. x.command) (λ n. e.command == failure_command n) es in (
      λ h.
          let w = and_parts _ _ (sym is ∙ h) in
          let r = and_parts _ _ (sym first ∙ w.1) in
          fail_fit limits es e legal k (settle_from es e w.0) (eqb-true _ _ r.1),
      λ fits.
          let paired : IsPaired kind.Fail es e = subst (λ (x : Kind). IsPaired x es e) k fits.pairing in
          is ∙ and_from _ _ (settle_to es e paired.0) (first ∙ and_from _ _ paired.0.accepted (eq-eqb _ _ paired.1)),
    )
