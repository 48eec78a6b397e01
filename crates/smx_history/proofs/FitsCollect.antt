-- A collect or a retire fits exactly where the check says so.
use Rattle.std.proofs.Common.{drop, zero, suc, ◌≡◌, ◌≤◌, ◌==◌, ℕ, false, ◌&&◌, List, [], ◌∷◌, ◌++◌, length, map, refl, sym, ◌∙◌, ap, subst, arith, length-append, inl, inr, count_by, Some, slice_get}
use Rattle.std.proofs.lemmas.List.{map-append, length-map}
use Rattle.std.proofs.lemmas.List.Elements.{filter-append}
use Rattle.std.proofs.lemmas.Bool.{and_from, eq-eqb, ne_eqb, cases_eq}
use Rattle.smx_history.specs.declared.entry.Entry.{Entry}
use Rattle.smx_history.specs.declared.entry.Kind.TheVariants as kind
use Rattle.smx_history.specs.declared.limits.Limits.{Limits}
use Rattle.smx_history.specs.Prefixes.{StartsWith}
use Rattle.smx_history.specs.Entries.{is_admit, is_accept, is_take, is_answer, is_collect, is_retire, is_settling, answers_of, collects_of, is_retired}
use Rattle.smx_history.specs.Legal.{KeepsRules, IsFifo, IsMembership, IsServed, AreApart, IsBounded, HasForm}
use Rattle.smx_history.proofs.Fitting.{Fits}
use Rattle.smx_history.proofs.ListPushes.{filter_push, filter_other, AtEachPrefix-whole}
use Rattle.smx_history.proofs.Counts.{none_count}
use Rattle.smx_history.proofs.Frames.{accepts-other, takes-other, admits-other, accepts_of-other, answers_of-other, collects_of-other, is_retired-other, unanswered-other, retired_before}
use Rattle.smx_history.proofs.Kept.{fifo_kept, once_kept, membership_kept, apart_kept, spaced_kept, HasForm-by, StandsWell-by, IsPaired-by}
use Rattle.smx_history.proofs.Parts.{StartsWith-next, count_one, count_other}

pub collected_own : (c : ℕ) (es : List Entry) (e : Entry) → e.kind ≡ kind.Collect → e.client ≡ c → collects_of c (es ++ e ∷ []) ≡ collects_of c es ++ e ∷ []
collected_own c es e k same = filter_push (λ x. is_collect x.kind && (x.client == c)) es e (and_from _ _ (ap is_collect k) (eq-eqb e.client c same))

pub collected_other : (c : ℕ) (es : List Entry) (e : Entry) → e.kind ≡ kind.Collect → (e.client ≡ c → ⊥) → collects_of c (es ++ e ∷ []) ≡ collects_of c es
collected_other c es e k apart = filter_other (λ x. is_collect x.kind && (x.client == c)) es e (ap (λ b. b && (e.client == c)) (ap is_collect k) ∙ ne_eqb e.client c apart)

-- what the client's next response is to
unfoldable pub IsOldest : List Entry → Entry → Type 0
IsOldest es e = slice_get (map (λ x. x.ordinal) (answers_of e.client es)) (length (map (λ x. x.ordinal) (collects_of e.client es))) ≡ Some e.ordinal

pub ordinals_collected : (es : List Entry) (e : Entry) → e.kind ≡ kind.Collect → map (λ x. x.ordinal) (collects_of e.client (es ++ e ∷ [])) ≡ map (λ x. x.ordinal) (collects_of e.client es) ++ e.ordinal ∷ []
ordinals_collected es e k = ap (map (λ (x : Entry). x.ordinal)) (collected_own e.client es e k refl) ∙ map-append (λ x. x.ordinal) (collects_of e.client es) (e ∷ [])

fifo_collected : (es : List Entry) (e : Entry) → e.kind ≡ kind.Collect → IsOldest es e → IsFifo es → IsFifo (es ++ e ∷ [])
unfolding IsOldest
fifo_collected es e k oldest h = record {
  taken = rw (accepts-other es e (ap is_accept k), takes-other es e (ap is_take k)) h.taken;
  collected = λ d. elim (cases_eq e.client d) [
    | inl same ↦ subst (λ (x : ℕ). StartsWith (map (λ y. y.ordinal) (answers_of x (es ++ e ∷ []))) (map (λ y. y.ordinal) (collects_of x (es ++ e ∷ [])))) same here
    | inr apart ↦ rw (answers_of-other d es e (ap is_answer k), collected_other d es e k apart) (h.collected d)
  ];
}
  where
    here : StartsWith (map (λ y. y.ordinal) (answers_of e.client (es ++ e ∷ []))) (map (λ y. y.ordinal) (collects_of e.client (es ++ e ∷ [])))
    here = rw (answers_of-other e.client es e (ap is_answer k), ordinals_collected es e k)
        (StartsWith-next (map (λ x. x.ordinal) (answers_of e.client es)) (map (λ x. x.ordinal) (collects_of e.client es)) e.ordinal (h.collected e.client) oldest)

-- where the ordinals left begin with that of the entry
pub oldest_next : (es : List Entry) (e : Entry) (rest : List ℕ) → drop (length (collects_of e.client es)) (map (λ x. x.ordinal) (answers_of e.client es)) ≡ e.ordinal ∷ rest → IsOldest es e
unfolding IsOldest
oldest_next es e rest next =
    ap (slice_get (map (λ (x : Entry). x.ordinal) (answers_of e.client es))) (length-map (collects_of e.client es) (λ (x : Entry). x.ordinal))
    ∙ front (length (collects_of e.client es)) (map (λ x. x.ordinal) (answers_of e.client es)) next
  where
    front : (n : ℕ) (xs : List ℕ) → drop n xs ≡ e.ordinal ∷ rest → slice_get xs n ≡ Some e.ordinal
    front zero [] h = cc
    front (suc n) [] h = cc
    front zero (x ∷ xs) h = cc
    front (suc n) (x ∷ xs) h = front n xs h

pub collect_fit : (limits : Limits) (es : List Entry) (e : Entry) → KeepsRules limits es → e.kind ≡ kind.Collect → HasForm kind.Collect e → IsServed es e → IsOldest es e → Fits limits es e
collect_fit limits es e legal k form served oldest =
    let was = AtEachPrefix-whole (IsBounded limits) es legal.bounds in
    record {
      form = HasForm-by e kind.Collect k form;
      fifo = fifo_collected es e k oldest (AtEachPrefix-whole IsFifo es legal.fifo);
      once = once_kept es e (ap is_accept k) (ap is_take k) (ap is_settling k) legal.once;
      membership = membership_kept es e (ap is_admit k) (ap is_retire k) legal.membership;
      standing = StandsWell-by es e kind.Collect k served;
      pairing = IsPaired-by es e kind.Collect k tt;
      apart = apart_kept es e (ap is_take k) (ap is_settling k) (AtEachPrefix-whole AreApart es legal.apart);
      spaced = spaced_kept es e (ap is_take k) legal.spaced;
      bounds = record {
        queue = rw (accepts-other es e (ap is_accept k), takes-other es e (ap is_take k)) was.queue;
        window = rw (unanswered-other es e (ap is_take k) (ap is_settling k)) was.window;
        client = λ d stays.
            let old = was.client d (sym (is_retired-other d es e (ap is_retire k)) ∙ stays) in
            let more : length (collects_of d es) ≤ length (collects_of d (es ++ e ∷ [])) =
            omega (arith, ap length (filter-append (λ x. is_collect x.kind && (x.client == d)) es (e ∷ [])), length-append (collects_of d es) (collects_of d (e ∷ []))) in
            rw (accepts_of-other d es e (ap is_accept k)) (omega (arith, old, more));
      };
    }

retires_more : (es : List Entry) (e : Entry) → e.kind ≡ kind.Retire → is_retired e.client es ≡ false → IsMembership es → (d : ℕ) → count_by (λ x. is_retire x.kind && (x.client == d)) (es ++ e ∷ []) ≤ 1
retires_more es e k none h d =
    elim (cases_eq e.client d) [
      | inl same ↦
          let before : count_by (λ x. is_retire x.kind && (x.client == d)) es ≡ 0 = none_count (λ x. is_retire x.kind && (x.client == d)) es (ap (λ i. is_retired i es) (sym same) ∙ none) in
          omega (arith, count_one (λ x. is_retire x.kind && (x.client == d)) es e (and_from _ _ (ap is_retire k) (eq-eqb e.client d same)), before)
      | inr apart ↦
          omega (arith, count_other (λ x. is_retire x.kind && (x.client == d)) es e (ap (λ b. b && (e.client == d)) (ap is_retire k) ∙ ne_eqb e.client d apart), h.retires d)
    ]

pub retire_fit : (limits : Limits) (es : List Entry) (e : Entry) → KeepsRules limits es → e.kind ≡ kind.Retire → HasForm kind.Retire e → IsServed es e → Fits limits es e
retire_fit limits es e legal k form served =
    let was = AtEachPrefix-whole (IsBounded limits) es legal.bounds in
    record {
      form = HasForm-by e kind.Retire k form;
      fifo = fifo_kept es e (ap is_accept k) (ap is_take k) (ap is_answer k) (ap is_collect k) (AtEachPrefix-whole IsFifo es legal.fifo);
      once = once_kept es e (ap is_accept k) (ap is_take k) (ap is_settling k) legal.once;
      membership = record {
        clients = rw (admits-other es e (ap is_admit k)) legal.membership.clients;
        retires = retires_more es e k served.1 legal.membership;
      };
      standing = StandsWell-by es e kind.Retire k served;
      pairing = IsPaired-by es e kind.Retire k tt;
      apart = apart_kept es e (ap is_take k) (ap is_settling k) (AtEachPrefix-whole AreApart es legal.apart);
      spaced = spaced_kept es e (ap is_take k) legal.spaced;
      bounds = record {
        queue = rw (accepts-other es e (ap is_accept k), takes-other es e (ap is_take k)) was.queue;
        window = rw (unanswered-other es e (ap is_take k) (ap is_settling k)) was.window;
        client = λ d stays. rw (accepts_of-other d es e (ap is_accept k), collects_of-other d es e (ap is_collect k)) (was.client d (retired_before d es e stays));
      };
    }
