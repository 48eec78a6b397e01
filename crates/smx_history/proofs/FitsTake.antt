-- A take fits exactly where the check says so.
use Rattle.std.proofs.Common.{◌≡◌, ◌<◌, ◌≤◌, ◌==◌, ℕ, Bool, true, false, not, ◌&&◌, ◌||◌, cond, List, [], ◌∷◌, ◌++◌, length, map, filter, refl, sym, subst, ◌∙◌, ap, arith, length-append, inl, inr, count_by, Some, slice_get}
use Rattle.std.specs.List.{list_any, AllByRecursion}
use Rattle.std.proofs.lemmas.List.{map-append}
use Rattle.std.proofs.lemmas.List.Elements.{filter_agree}
use Rattle.std.proofs.lemmas.Bool.{and_from, and_parts, and_right, or_parts, eqb-true, eq-eqb, cases_Bool}
use Rattle.smx_history.specs.declared.entry.Entry.{Entry}
use Rattle.smx_history.specs.declared.entry.Kind.TheVariants as kind
use Rattle.smx_history.specs.declared.limits.Limits.{Limits}
use Rattle.smx_history.specs.Prefixes.{AtEach}
use Rattle.smx_history.specs.Entries.{is_admit, is_accept, is_take, is_answer, is_collect, is_retire, is_settling, name_of, has_name, accepts, takes, is_settled, unanswered_takes, is_up, numbers, is_taken}
use Rattle.smx_history.specs.Numbers.{AreSpaced}
use Rattle.smx_history.specs.Legal.{KeepsRules, IsFifo, AreApart, IsBounded, IsPaired}
use Rattle.smx_history.proofs.Fitting.{Fits}
use Rattle.smx_history.proofs.ListPushes.{filter_push, AtEachPrefix-whole}
use Rattle.smx_history.proofs.Counts.{none_count}
use Rattle.smx_history.proofs.Frames.{accepts-other, accepts_of-other, answers_of-other, collects_of-other, is_retired-other, is_settled-other}
use Rattle.smx_history.proofs.Kept.{settlings_kept, membership_kept, HasForm-by, StandsWell-by, IsPaired-by}
use Rattle.smx_history.proofs.Taking.{not_settled}
use Rattle.smx_history.proofs.Parts.{IsDistinct-push, StartsWith-next, none_numbered, count_one, count_other}

none_filtered : {X : Type 0} (p q : X → Bool) (xs : List X) → list_any (λ x. p x && q x) xs ≡ false → AllByRecursion (λ x. q x ≡ false) (filter p xs)
none_filtered p q [] h = tt
none_filtered p q (x ∷ xs) h = none_filtered_at (p x) h (none_filtered p q xs)
  where
    none_filtered_at : (b : Bool) → ((b && q x) || list_any (λ y. p y && q y) xs) ≡ false → (list_any (λ y. p y && q y) xs ≡ false → AllByRecursion (λ y. q y ≡ false) (filter p xs)) → AllByRecursion (λ y. q y ≡ false) (cond b (x ∷ filter p xs) (filter p xs))
    none_filtered_at true none later = let w = or_parts (q x) (list_any (λ y. p y && q y) xs) none in (w.0, later w.1)
    none_filtered_at false none later = later none

-- a request that was not taken was not settled
pub untaken_unsettled : (es : List Entry) (c n : ℕ) → AtEach (λ before e. IsPaired e.kind before e) es → is_taken c n es ≡ false → is_settled c n es ≡ false
untaken_unsettled es c n paired none = not_settled c n es paired (none_filtered (λ x. is_take x.kind) (has_name c n) es none)

pub own_name : (e : Entry) → has_name e.client e.ordinal e ≡ true
own_name e = and_from _ _ (eq-eqb e.client e.client refl) (eq-eqb e.ordinal e.ordinal refl)

pub takes_push : (es : List Entry) (e : Entry) → e.kind ≡ kind.Take → takes (es ++ e ∷ []) ≡ takes es ++ e ∷ []
takes_push es e k = filter_push (λ x. is_take x.kind) es e (ap is_take k)

pub numbers_push : (es : List Entry) (e : Entry) → e.kind ≡ kind.Take → numbers (es ++ e ∷ []) ≡ numbers es ++ e.number ∷ []
numbers_push es e k = ap (map (λ (t : Entry). t.number)) (takes_push es e k) ∙ map-append (λ t. t.number) (takes es) (e ∷ [])

pub unanswered_taken : (es : List Entry) (e : Entry) → e.kind ≡ kind.Take → is_settled e.client e.ordinal es ≡ false → unanswered_takes (es ++ e ∷ []) ≡ unanswered_takes es ++ e ∷ []
unanswered_taken es e k none =
    ap (filter (λ x. not (is_settled x.client x.ordinal (es ++ e ∷ [])))) (takes_push es e k)
    ∙ filter_agree (λ x. not (is_settled x.client x.ordinal (es ++ e ∷ []))) (λ x. not (is_settled x.client x.ordinal es)) (λ x. ap not (is_settled-other x.client x.ordinal es e (ap is_settling k))) (takes es ++ e ∷ [])
    ∙ filter_push (λ x. not (is_settled x.client x.ordinal es)) (takes es) e (ap not none)

-- what a legal list allows a take by
pub record MayTake (limits : Limits) (es : List Entry) (e : Entry) : Type 0 where
  pub command : e.command ≡ 0
  pub positive : 0 < e.number
  pub within : e.number ≤ 2147483644
  pub next : slice_get (map name_of (accepts es)) (length (map name_of (takes es))) ≡ Some (name_of e)
  pub first : is_taken e.client e.ordinal es ≡ false
  pub free : count_by (λ x. x.number == e.number) (unanswered_takes es) ≡ 0
  pub window : length (unanswered_takes es) < limits.window
  pub up : is_up es ≡ true
  pub spaced : AreSpaced (numbers es ++ e.number ∷ [])

takes_once : (es : List Entry) (e : Entry) → e.kind ≡ kind.Take → is_taken e.client e.ordinal es ≡ false → ((c n : ℕ) → count_by (λ x. is_take x.kind && has_name c n x) es ≤ 1) → (c n : ℕ) → count_by (λ x. is_take x.kind && has_name c n x) (es ++ e ∷ []) ≤ 1
takes_once es e k none few c n =
    elim (cases_Bool (has_name c n e)) [
      | inl same ↦
          let w = and_parts (e.client == c) (e.ordinal == n) same in
          let before : count_by (λ x. is_take x.kind && has_name c n x) es ≡ 0 =
          none_count (λ x. is_take x.kind && has_name c n x) es
          (sym (ap (λ i. is_taken i e.ordinal es) (eqb-true e.client c w.0) ∙ ap (λ i. is_taken c i es) (eqb-true e.ordinal n w.1)) ∙ none) in
          omega (arith, count_one (λ x. is_take x.kind && has_name c n x) es e (and_from _ _ (ap is_take k) same), before)
      | inr apart ↦
          omega (arith, count_other (λ x. is_take x.kind && has_name c n x) es e (and_right (is_take e.kind) (has_name c n e) apart), few c n)
    ]

pub take_fit : (limits : Limits) (es : List Entry) (e : Entry) → KeepsRules limits es → e.kind ≡ kind.Take → MayTake limits es e → Fits limits es e
take_fit limits es e legal k p =
    let fifo = AtEachPrefix-whole IsFifo es legal.fifo in
    let was = AtEachPrefix-whole (IsBounded limits) es legal.bounds in
    let push = unanswered_taken es e k (untaken_unsettled es e.client e.ordinal legal.pairing p.first) in
    record {
      form = HasForm-by e kind.Take k p.command;
      fifo = record {
        taken = rw (takes_push es e k, accepts-other es e (ap is_accept k), map-append name_of (takes es) (e ∷ [])) (StartsWith-next (map name_of (accepts es)) (map name_of (takes es)) (name_of e) fifo.taken p.next);
        collected = λ c. rw (answers_of-other c es e (ap is_answer k), collects_of-other c es e (ap is_collect k)) (fifo.collected c);
      };
      once = record {
        ordinals = λ c. rw (accepts_of-other c es e (ap is_accept k)) (legal.once.ordinals c);
        takes = takes_once es e k p.first legal.once.takes;
        settlings = settlings_kept es e (ap is_settling k) legal.once;
      };
      membership = membership_kept es e (ap is_admit k) (ap is_retire k) legal.membership;
      standing = StandsWell-by es e kind.Take k p.up;
      pairing = IsPaired-by es e kind.Take k (p.positive, p.within);
      apart = rw (push, map-append (λ x. x.number) (unanswered_takes es) (e ∷ []))
          (IsDistinct-push (map (λ x. x.number) (unanswered_takes es)) e.number (AtEachPrefix-whole AreApart es legal.apart) (none_numbered e.number (unanswered_takes es) p.free));
      spaced = subst (λ ns. AreSpaced ns) (sym (numbers_push es e k)) p.spaced;
      bounds = record {
        queue = rw (accepts-other es e (ap is_accept k), takes_push es e k) (omega (arith, length-append (takes es) (e ∷ []), was.queue));
        window = rw push (omega (arith, length-append (unanswered_takes es) (e ∷ []), p.window));
        client = λ c gone. rw (accepts_of-other c es e (ap is_accept k), collects_of-other c es e (ap is_collect k)) (was.client c (sym (is_retired-other c es e (ap is_retire k)) ∙ gone));
      };
    }
