-- What an entry of another kind keeps.
use Rattle.std.proofs.Common.{◌≡◌, ◌≤◌, ◌==◌, ℕ, false, ◌&&◌, List, [], ◌∷◌, ◌++◌, sym, subst, arith, count_by}
use Rattle.std.proofs.lemmas.Bool.{and_left}
use Rattle.smx_history.specs.declared.entry.Entry.{Entry}
use Rattle.smx_history.specs.declared.entry.Kind.{Kind}
use Rattle.smx_history.specs.Entries.{is_admit, is_accept, is_take, is_answer, is_collect, is_retire, is_settling, has_name, numbers}
use Rattle.smx_history.specs.Numbers.{AreSpaced}
use Rattle.smx_history.specs.Legal.{IsFifo, IsOnce, IsMembership, AreApart, HasForm, StandsWell, IsPaired}
use Rattle.smx_history.proofs.Frames.{accepts-other, takes-other, numbers-other, admits-other, accepts_of-other, answers_of-other, collects_of-other, unanswered-other}
use Rattle.smx_history.proofs.Parts.{count_other}

pub fifo_kept : (es : List Entry) (e : Entry) → is_accept e.kind ≡ false → is_take e.kind ≡ false → is_answer e.kind ≡ false → is_collect e.kind ≡ false → IsFifo es → IsFifo (es ++ e ∷ [])
fifo_kept es e a t n c h = record {
  taken = rw (accepts-other es e a, takes-other es e t) h.taken;
  collected = λ d. rw (answers_of-other d es e n, collects_of-other d es e c) (h.collected d);
}

pub takes_kept : (es : List Entry) (e : Entry) → is_take e.kind ≡ false → IsOnce es → (c n : ℕ) → count_by (λ x. is_take x.kind && has_name c n x) (es ++ e ∷ []) ≤ 1
takes_kept es e t h c n = omega (arith, count_other (λ x. is_take x.kind && has_name c n x) es e (and_left _ _ t), h.takes c n)

pub settlings_kept : (es : List Entry) (e : Entry) → is_settling e.kind ≡ false → IsOnce es → (c n : ℕ) → count_by (λ x. is_settling x.kind && has_name c n x) (es ++ e ∷ []) ≤ 1
settlings_kept es e s h c n = omega (arith, count_other (λ x. is_settling x.kind && has_name c n x) es e (and_left _ _ s), h.settlings c n)

pub once_kept : (es : List Entry) (e : Entry) → is_accept e.kind ≡ false → is_take e.kind ≡ false → is_settling e.kind ≡ false → IsOnce es → IsOnce (es ++ e ∷ [])
once_kept es e a t s h = record {
  ordinals = λ c. rw (accepts_of-other c es e a) (h.ordinals c);
  takes = takes_kept es e t h;
  settlings = settlings_kept es e s h;
}

pub retires_kept : (es : List Entry) (e : Entry) → is_retire e.kind ≡ false → IsMembership es → (c : ℕ) → count_by (λ x. is_retire x.kind && (x.client == c)) (es ++ e ∷ []) ≤ 1
retires_kept es e r h c = omega (arith, count_other (λ x. is_retire x.kind && (x.client == c)) es e (and_left _ _ r), h.retires c)

pub membership_kept : (es : List Entry) (e : Entry) → is_admit e.kind ≡ false → is_retire e.kind ≡ false → IsMembership es → IsMembership (es ++ e ∷ [])
membership_kept es e a r h = record {
  clients = rw (admits-other es e a) h.clients;
  retires = retires_kept es e r h;
}

pub apart_kept : (es : List Entry) (e : Entry) → is_take e.kind ≡ false → is_settling e.kind ≡ false → AreApart es → AreApart (es ++ e ∷ [])
apart_kept es e t s h = rw (unanswered-other es e t s) h

pub spaced_kept : (es : List Entry) (e : Entry) → is_take e.kind ≡ false → AreSpaced (numbers es) → AreSpaced (numbers (es ++ e ∷ []))
spaced_kept es e t h = subst (λ ns. AreSpaced ns) (sym (numbers-other es e t)) h

-- what is said of an entry by its kind
pub HasForm-by : (e : Entry) (k : Kind) → e.kind ≡ k → HasForm k e → HasForm e.kind e
HasForm-by e k is h = subst (λ (x : Kind). HasForm x e) (sym is) h

pub StandsWell-by : (es : List Entry) (e : Entry) (k : Kind) → e.kind ≡ k → StandsWell k es e → StandsWell e.kind es e
StandsWell-by es e k is h = subst (λ (x : Kind). StandsWell x es e) (sym is) h

pub IsPaired-by : (es : List Entry) (e : Entry) (k : Kind) → e.kind ≡ k → IsPaired k es e → IsPaired e.kind es e
IsPaired-by es e k is h = subst (λ (x : Kind). IsPaired x es e) (sym is) h
