-- A list with one entry more is legal where the list is, the entry fits and the size keeps to the limit.
use Rattle.std.proofs.Common.{◌≡◌, ◌==◌, ℕ, Bool, ◌&&◌, List, [], ◌∷◌, ◌++◌, map, sym, ◌∙◌, ap, subst, arith, append_assoc}
use Rattle.std.proofs.lemmas.List.{append-nil, map-append}
use Rattle.std.proofs.lemmas.List.Elements.{filter-append}
use Rattle.smx_history.specs.declared.entry.Entry.{Entry}
use Rattle.smx_history.specs.declared.limits.Limits.{Limits}
use Rattle.smx_history.specs.Prefixes.{RiseAbove}
use Rattle.smx_history.specs.Entries.{is_admit, is_accept, is_take, is_retire, is_settling, has_name, admits, takes, accepts_of, numbers}
use Rattle.smx_history.specs.Numbers.{AreSpaced}
use Rattle.smx_history.proofs.Spacing.{spaced_start}
use Rattle.smx_history.specs.Legal.{KeepsRules, IsFifo, IsOnce, IsMembership, AreApart, IsBounded, HasForm, StandsWell, IsPaired}
use Rattle.smx_history.proofs.Fitting.{Fits}
use Rattle.smx_history.proofs.ListPushes.{AtEach-push, AtEach-init, AtEachPrefix-push, AtEachPrefix-init}
use Rattle.smx_history.proofs.Counts.{count_by-push}
use Rattle.smx_history.proofs.Parts.{RiseAbove-init}

IsOnce-init : (es : List Entry) (e : Entry) → IsOnce (es ++ e ∷ []) → IsOnce es
IsOnce-init es e h = record {
  ordinals = λ c.
      let p : Entry → Bool = λ x. is_accept x.kind && (x.client == c) in
      let split : map (λ x. x.ordinal) (accepts_of c (es ++ e ∷ [])) ≡ map (λ x. x.ordinal) (accepts_of c es) ++ map (λ x. x.ordinal) (accepts_of c (e ∷ [])) =
      ap (map (λ (x : Entry). x.ordinal)) (filter-append p es (e ∷ [])) ∙ map-append (λ x. x.ordinal) (accepts_of c es) (accepts_of c (e ∷ [])) in
      RiseAbove-init 0 (map (λ x. x.ordinal) (accepts_of c es)) (map (λ x. x.ordinal) (accepts_of c (e ∷ []))) (subst (λ (xs : List ℕ). RiseAbove 0 xs) split (h.ordinals c));
  takes = λ c n. let few = h.takes c n in omega (arith, few, count_by-push (λ x. is_take x.kind && has_name c n x) es e);
  settlings = λ c n. let few = h.settlings c n in omega (arith, few, count_by-push (λ x. is_settling x.kind && has_name c n x) es e);
}

IsMembership-init : (es : List Entry) (e : Entry) → IsMembership (es ++ e ∷ []) → IsMembership es
IsMembership-init es e h = record {
  clients =
      let split : map (λ x. x.client) (admits (es ++ e ∷ [])) ≡ map (λ x. x.client) (admits es) ++ map (λ x. x.client) (admits (e ∷ [])) =
      ap (map (λ (x : Entry). x.client)) (filter-append (λ x. is_admit x.kind) es (e ∷ [])) ∙ map-append (λ x. x.client) (admits es) (admits (e ∷ [])) in
      RiseAbove-init 0 (map (λ x. x.client) (admits es)) (map (λ x. x.client) (admits (e ∷ []))) (subst (λ (xs : List ℕ). RiseAbove 0 xs) split h.clients);
  retires = λ c. let few = h.retires c in omega (arith, few, count_by-push (λ x. is_retire x.kind && (x.client == c)) es e);
}

numbers-split : (es : List Entry) (e : Entry) → numbers (es ++ e ∷ []) ≡ numbers es ++ numbers (e ∷ [])
numbers-split es e = ap (map (λ (x : Entry). x.number)) (filter-append (λ x. is_take x.kind) es (e ∷ [])) ∙ map-append (λ x. x.number) (takes es) (takes (e ∷ []))

-- without its last entry a legal list is legal
pub KeepsRules-init : (limits : Limits) (es : List Entry) (e : Entry) → KeepsRules limits (es ++ e ∷ []) → KeepsRules limits es
KeepsRules-init limits es e h = record {
  form = AtEach-init (λ before x. HasForm x.kind x) es e h.form;
  fifo = AtEachPrefix-init IsFifo es e h.fifo;
  once = IsOnce-init es e h.once;
  membership = IsMembership-init es e h.membership;
  standing = AtEach-init (λ before x. StandsWell x.kind before x) es e h.standing;
  pairing = AtEach-init (λ before x. IsPaired x.kind before x) es e h.pairing;
  apart = AtEachPrefix-init AreApart es e h.apart;
  spaced = spaced_start (numbers es) (numbers (e ∷ [])) (subst (λ ns. AreSpaced ns) (numbers-split es e) h.spaced);
  bounds = AtEachPrefix-init (IsBounded limits) es e h.bounds;
}

-- what a legal list begins with is legal
pub KeepsRules-start : (limits : Limits) (xs ys : List Entry) → KeepsRules limits (xs ++ ys) → KeepsRules limits xs
KeepsRules-start limits xs [] h = subst (λ (zs : List Entry). KeepsRules limits zs) (append-nil xs) h
KeepsRules-start limits xs (y ∷ ys) h =
    KeepsRules-init limits xs y (KeepsRules-start limits (xs ++ y ∷ []) ys (subst (λ (zs : List Entry). KeepsRules limits zs) (sym (append_assoc xs (y ∷ []) ys)) h))

pub KeepsRules-next : (limits : Limits) (es : List Entry) (e : Entry) → KeepsRules limits es → Fits limits es e → KeepsRules limits (es ++ e ∷ [])
KeepsRules-next limits es e h fits = record {
  form = AtEach-push (λ before x. HasForm x.kind x) es e h.form fits.form;
  fifo = AtEachPrefix-push IsFifo es e h.fifo fits.fifo;
  once = fits.once;
  membership = fits.membership;
  standing = AtEach-push (λ before x. StandsWell x.kind before x) es e h.standing fits.standing;
  pairing = AtEach-push (λ before x. IsPaired x.kind before x) es e h.pairing fits.pairing;
  apart = AtEachPrefix-push AreApart es e h.apart fits.apart;
  spaced = fits.spaced;
  bounds = AtEachPrefix-push (IsBounded limits) es e h.bounds fits.bounds;
}
