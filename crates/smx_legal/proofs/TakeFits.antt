-- The test of a take says whether it fits.
use Rattle.smx_history.proofs.FitsTake.{MayTake, take_fit, own_name, takes_push, numbers_push, unanswered_taken, untaken_unsettled}
use Rattle.std.proofs.Common.{◌≡◌, ◌≤◌, ◌↔◌, ℕ, Bool, true, false, not, ◌&&◌, List, [], ◌∷◌, ◌++◌, length, map, sym, ◌∙◌, ap, subst, arith, length-append, slice_get, nat_eq}
use Rattle.std.specs.List.{IsDistinct}
use Rattle.std.specs.Option.{option_map}
use Rattle.std.proofs.lemmas.List.{map-append, length-map}
use Rattle.std.proofs.lemmas.Option.{slice_get-map}
use Rattle.std.proofs.lemmas.Bool.{and_from, and_parts, eqb-true, eq-eqb, ltb-true, lt-ltb, leb-true, le-leb, not-true}
use Rattle.smx_history.specs.declared.entry.Entry.{Entry}
use Rattle.smx_history.specs.declared.entry.Kind.TheVariants as kind
use Rattle.smx_history.specs.declared.limits.Limits.{Limits}
use Rattle.smx_legal.specs.declared.totals.Totals.{Totals}
use Rattle.smx_history.specs.Prefixes.{StartsWith}
use Rattle.smx_history.specs.Entries.{is_accept, is_take, name_of, has_name, accepts, takes, unanswered_takes, numbers, is_taken}
use Rattle.smx_history.specs.Numbers.{AreSpaced}
use Rattle.smx_history.specs.Legal.{KeepsRules, HasForm, IsPaired, StandsWell}
use Rattle.smx_history.proofs.Fitting.{Fits}
use Rattle.smx_legal.specs.Checks.{Counted, take_fits, takes_as, settlings_as}
use Rattle.smx_history.proofs.Counts.{count_none_any}
use Rattle.smx_history.proofs.Frames.{accepts-other}
use Rattle.smx_history.proofs.Spacing.{spaced_next, spaced_free}
use Rattle.smx_history.proofs.Parts.{StartsWith-end, IsDistinct-end, count_numbered, count_one}
use Rattle.smx_legal.proofs.Passing.{named_some, some_named}

next_is : (t : Totals) (es : List Entry) (e : Entry) → Counted es t → option_map name_of (slice_get (accepts es) t.taken) ≡ slice_get (map name_of (accepts es)) (length (map name_of (takes es)))
next_is t es e counted =
    sym (slice_get-map name_of (accepts es) t.taken) ∙ ap (slice_get (map name_of (accepts es))) (counted.taken ∙ sym (length-map (takes es) name_of))

passes_from : (limits : Limits) (t : Totals) (es : List Entry) (e : Entry) → KeepsRules limits es → Counted es t → take_fits limits t es e ≡ true → MayTake limits es e
passes_from limits t es e legal counted test =
    let a = and_parts _ _ test in
    let r = and_parts _ _ a.0 in
    let b = and_parts _ _ r.0 in
    let c = and_parts _ _ b.0 in
    let d = and_parts _ _ c.0 in
    let f = and_parts _ _ d.0 in
    let g = and_parts _ _ f.0 in
    let u = and_parts _ _ g.0 in
    let same : settlings_as e.number es ≡ takes_as e.number es = eqb-true _ _ b.1 in
    record {
      up = sym counted.up ∙ u.0;
      command = eqb-true _ _ u.1;
      positive = ltb-true _ _ g.1;
      within = leb-true _ _ f.1;
      next = sym (next_is t es e counted) ∙ named_some (slice_get (accepts es) t.taken) e.client e.ordinal d.1;
      first = not-true _ c.1;
      free = omega (arith, same, counted.numbers e.number);
      window = omega (arith, ltb-true _ _ a.1, counted.unanswered);
      spaced = spaced_next (numbers es) e.number legal.spaced (not-true _ r.1);
    }

passes_to : (limits : Limits) (t : Totals) (es : List Entry) (e : Entry) → Counted es t → MayTake limits es e → take_fits limits t es e ≡ true
passes_to limits t es e counted p =
    let same : settlings_as e.number es ≡ takes_as e.number es = omega (arith, p.free, counted.numbers e.number) in
    and_from _ _ (and_from _ _ (and_from _ _ (and_from _ _ (and_from _ _ (and_from _ _ (and_from _ _ (and_from _ _ (counted.up ∙ p.up) (eq-eqb _ _ p.command)) (lt-ltb _ _ p.positive)) (le-leb _ _ p.within))
    (some_named (slice_get (accepts es) t.taken) e.client e.ordinal (next_is t es e counted ∙ p.next))) (ap not p.first)) (eq-eqb _ _ same)) (ap not (spaced_free (numbers es) e.number p.spaced))) (lt-ltb _ _ (omega (arith, p.window, counted.unanswered)))

-- the first take of that name
pub taken_first : (limits : Limits) (es : List Entry) (e : Entry) → Fits limits es e → e.kind ≡ kind.Take → is_taken e.client e.ordinal es ≡ false
taken_first limits es e fits k =
    let few = fits.once.takes e.client e.ordinal in
    count_none_any (λ x. is_take x.kind && has_name e.client e.ordinal x) es
    (omega (arith, few, count_one (λ x. is_take x.kind && has_name e.client e.ordinal x) es e (and_from _ _ (ap is_take k) (own_name e))))

take_from : (limits : Limits) (es : List Entry) (e : Entry) → KeepsRules limits es → e.kind ≡ kind.Take → Fits limits es e → MayTake limits es e
take_from limits es e legal k fits =
    let form : HasForm kind.Take e = rw k at fits.form in
    let paired : IsPaired kind.Take es e = rw k at fits.pairing in
    let standing : StandsWell kind.Take es e = rw k at fits.standing in
    let first = taken_first limits es e fits k in
    let push = unanswered_taken es e k (untaken_unsettled es e.client e.ordinal legal.pairing first) in
    let starts : StartsWith (map name_of (accepts es)) (map name_of (takes es) ++ name_of e ∷ []) =
    rw (takes_push es e k, accepts-other es e (ap is_accept k), map-append name_of (takes es) (e ∷ [])) at fits.fifo.taken in
    let distinct : IsDistinct nat_eq (map (λ x. x.number) (unanswered_takes es) ++ e.number ∷ []) =
    subst (λ (xs : List ℕ). IsDistinct nat_eq xs) (ap (map (λ (x : Entry). x.number)) push ∙ map-append (λ x. x.number) (unanswered_takes es) (e ∷ [])) fits.apart in
    let window : length (unanswered_takes es ++ e ∷ []) ≤ limits.window = rw push at fits.bounds.window in
    record {
      up = standing;
      command = form;
      positive = paired.0;
      within = paired.1;
      next = StartsWith-end (map name_of (accepts es)) (map name_of (takes es)) (name_of e) starts;
      first = first;
      free = count_numbered e.number (unanswered_takes es) (IsDistinct-end (map (λ x. x.number) (unanswered_takes es)) e.number distinct);
      window = omega (arith, window, length-append (unanswered_takes es) (e ∷ []));
      spaced = subst (λ (ns : List ℕ). AreSpaced ns) (numbers_push es e k) fits.spaced;
    }

pub take_iff : (limits : Limits) (t : Totals) (es : List Entry) (e : Entry) (b : Bool) → KeepsRules limits es → Counted es t → e.kind ≡ kind.Take → b ≡ take_fits limits t es e → (b ≡ true) ↔ Fits limits es e
take_iff limits t es e b legal counted k is =
    (λ h. take_fit limits es e legal k (passes_from limits t es e legal counted (sym is ∙ h)), λ fits. is ∙ passes_to limits t es e counted (take_from limits es e legal k fits))
