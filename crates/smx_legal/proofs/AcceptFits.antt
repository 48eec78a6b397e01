-- The test of an accept says whether it fits.
use Rattle.smx_history.proofs.FitsAccept.{MayAccept, accept_fit, accepted_push, accepted_own, ordinals_accepted}
use Rattle.std.proofs.Common.{sym, ◌≡◌, ◌<◌, ◌≤◌, ◌+◌, ◌==◌, ◌↔◌, ℕ, Bool, true, not, ◌&&◌, List, [], ◌∷◌, ◌++◌, length, map, refl, sym, ◌∙◌, ap, subst, arith, length-append}
use Rattle.std.proofs.lemmas.Bool.{and_from, and_parts, ltb-true, lt-ltb, not-true}
use Rattle.smx_history.specs.declared.entry.Entry.{Entry}
use Rattle.smx_history.specs.declared.entry.Kind.TheVariants as kind
use Rattle.smx_history.specs.declared.limits.Limits.{Limits}
use Rattle.smx_legal.specs.declared.totals.Totals.{Totals}
use Rattle.smx_history.specs.Prefixes.{RiseAbove, last_or}
use Rattle.smx_history.specs.Entries.{is_accept, is_take, is_collect, is_retire, accepts, takes, accepts_of, collects_of}
use Rattle.smx_history.specs.Legal.{KeepsRules, IsFifo, HasForm, StandsWell}
use Rattle.smx_history.proofs.Fitting.{Fits}
use Rattle.smx_legal.specs.Checks.{Counted, accept_fits}
use Rattle.smx_history.proofs.ListPushes.{AtEachPrefix-whole}
use Rattle.smx_history.proofs.Frames.{takes-other, collects_of-other, is_retired-other}
use Rattle.smx_history.proofs.Sizes.{takes-le-accepts}
use Rattle.smx_history.proofs.Unseen.{rise_last}
use Rattle.smx_history.proofs.Parts.{RiseAbove-end}
use Rattle.smx_legal.proofs.Passing.{last_below, below_last}

passes_from : (limits : Limits) (t : Totals) (es : List Entry) (e : Entry) → KeepsRules limits es → Counted es t → accept_fits limits.queue limits.client t es e ≡ true → MayAccept limits es e
passes_from limits t es e legal counted test =
    let a = and_parts _ _ test in
    let b = and_parts _ _ a.0 in
    let c = and_parts _ _ b.0 in
    let d = and_parts _ _ c.0 in
    let g = and_parts _ _ d.0 in
    let f = and_parts _ _ g.0 in
    let s = and_parts _ _ f.1 in
    let queue : t.queued < limits.queue = ltb-true _ _ b.1 in
    record {
      forwarded = f.0;
      served = (s.0, not-true _ s.1);
      up = sym counted.up ∙ g.1;
      rises = last_below (λ (x : Entry). x.ordinal) (λ x. is_accept x.kind && (x.client == e.client)) 0 e.ordinal es (ltb-true _ _ d.1) (not-true _ c.1);
      queue = omega (arith, queue, counted.queued, takes-le-accepts es (AtEachPrefix-whole IsFifo es legal.fifo));
      client = ltb-true _ _ a.1;
    }

passes_to : (limits : Limits) (t : Totals) (es : List Entry) (e : Entry) → KeepsRules limits es → Counted es t → MayAccept limits es e → accept_fits limits.queue limits.client t es e ≡ true
passes_to limits t es e legal counted p =
    let all = rise_last 0 (map (λ x. x.ordinal) (accepts_of e.client es)) (legal.once.ordinals e.client) in
    let reached = below_last (λ (x : Entry). x.ordinal) (λ x. is_accept x.kind && (x.client == e.client)) e.ordinal (last_or 0 (map (λ x. x.ordinal) (accepts_of e.client es))) es p.rises all.1 in
    let queue : t.queued < limits.queue = omega (arith, p.queue, counted.queued, takes-le-accepts es (AtEachPrefix-whole IsFifo es legal.fifo)) in
    and_from _ _ (and_from _ _ (and_from _ _ (and_from _ _ (and_from _ _ (and_from _ _ p.forwarded (and_from _ _ p.served.0 (ap not p.served.1))) (counted.up ∙ p.up)) (lt-ltb _ _ (omega (arith, p.rises)))) (ap not reached)) (lt-ltb _ _ queue)) (lt-ltb _ _ p.client)

accept_from : (limits : Limits) (es : List Entry) (e : Entry) → e.kind ≡ kind.Accept → Fits limits es e → MayAccept limits es e
accept_from limits es e k fits =
    let form : HasForm kind.Accept e = rw k at fits.form in
    let served : StandsWell kind.Accept es e = rw k at fits.standing in
    let rise : RiseAbove 0 (map (λ x. x.ordinal) (accepts_of e.client es) ++ e.ordinal ∷ []) = subst (λ (xs : List ℕ). RiseAbove 0 xs) (ordinals_accepted e.client es e k refl) (fits.once.ordinals e.client) in
    let above = RiseAbove-end 0 (map (λ x. x.ordinal) (accepts_of e.client es)) e.ordinal rise in
    let queue : length (accepts es ++ e ∷ []) ≤ length (takes es) + limits.queue = rw (accepted_push es e k, takes-other es e (ap is_take k)) at fits.bounds.queue in
    let client : length (accepts_of e.client es ++ e ∷ []) ≤ length (collects_of e.client es) + limits.client =
    rw (accepted_own e.client es e k refl, collects_of-other e.client es e (ap is_collect k)) at (fits.bounds.client e.client (is_retired-other e.client es e (ap is_retire k) ∙ served.0.1)) in
    record {
      forwarded = form;
      served = served.0;
      up = served.1;
      rises = above;
      queue = omega (arith, queue, length-append (accepts es) (e ∷ []));
      client = omega (arith, client, length-append (accepts_of e.client es) (e ∷ []));
    }

pub accept_iff : (limits : Limits) (t : Totals) (es : List Entry) (e : Entry) (b : Bool) → KeepsRules limits es → Counted es t → e.kind ≡ kind.Accept → b ≡ accept_fits limits.queue limits.client t es e → (b ≡ true) ↔ Fits limits es e
accept_iff limits t es e b legal counted k is =
    (λ h. accept_fit limits es e legal k (passes_from limits t es e legal counted (sym is ∙ h)), λ fits. is ∙ passes_to limits t es e legal counted (accept_from limits es e k fits))
