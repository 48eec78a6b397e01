-- Each state that a run reaches is sound, and at most one caller holds in it.
use Rattle.std.proofs.Common.{◌≡◌, ℕ, ◌+◌, ◌<◌, ◌≤◌, ◌≢◌, List, [], ◌∷◌, sym, ap, ◌∙◌, subst, ⊎_elim, arith, Ok}
use mathlib.Core.Option.{some}
use lib.ListN.{get_elem?}
use Rattle.smx_ticket_core.specs.declared.callers.Caller.{Caller}
use Rattle.smx_ticket_core.specs.declared.callers.Caller.TheVariants.{Idle, Holding}
use Rattle.smx_ticket_core.specs.declared.callers.Event.{Event}
use Rattle.smx_ticket_core.specs.Machine.{Machine, most, who, Turn, after, start, Run, AtMostOne, FitsNumbers, ticket, Sound}
use Rattle.smx_ticket_core.proofs.Changes.{Change, row_changes, ticket_below}
use Rattle.smx_ticket_core.proofs.Lists.{at_set, at_copies}
use Rattle.smx_ticket_core.proofs.Rows.{changed, after_row}

pub changes_sound : (m : Machine) (i : ℕ) (c : Caller) (t : Turn) → Sound m → get_elem? m.callers i ≡ some c → Change m.next m.serving c t → Sound (changed m i t)
changes_sound m i c t s at ch = record {
  behind = ch.behind;
  bounded = ch.bounded;
  each = λ j d here. ⊎_elim (λ (z : (j ≡ i) × (t.1.1 ≡ d)). subst (FitsNumbers t.0 t.1.0) z.1 ch.fits)
      (λ (z : (j ≢ i) × (get_elem? m.callers j ≡ some d)). ch.others d (s.each j d z.1) (λ pos same. z.0 (sym (s.apart i j c d at z.1 pos same)))) (at_set m.callers i j t.1.1 d here);
  apart = λ j k d f a b pos same. ⊎_elim
      (λ (z : (j ≡ i) × (t.1.1 ≡ d)). ⊎_elim (λ (w : (k ≡ i) × (t.1.1 ≡ f)). z.0 ∙ sym w.0)
      (λ (w : (k ≢ i) × (get_elem? m.callers k ≡ some f)). absurd (mixed k f w.0 w.1 (subst (λ (x : Caller). 0 < ticket x) (sym z.1) pos) (ap ticket z.1 ∙ same))) (at_set m.callers i k t.1.1 f b))
      (λ (z : (j ≢ i) × (get_elem? m.callers j ≡ some d)). ⊎_elim (λ (w : (k ≡ i) × (t.1.1 ≡ f)). absurd (mixed j d z.0 z.1 (subst (λ (x : Caller). 0 < ticket x) (sym w.1) (subst (λ (x : ℕ). 0 < x) same pos)) (ap ticket w.1 ∙ sym same)))
      (λ (w : (k ≢ i) × (get_elem? m.callers k ≡ some f)). s.apart j k d f z.1 w.1 pos same) (at_set m.callers i k t.1.1 f b)) (at_set m.callers i j t.1.1 d a);
}
  where
    mixed : (k : ℕ) (f : Caller) → k ≢ i → get_elem? m.callers k ≡ some f → 0 < ticket t.1.1 → ticket t.1.1 ≡ ticket f → ⊥
    mixed k f other there pos same = ⊎_elim (λ (old : ticket t.1.1 ≡ ticket c). other (sym (s.apart i k c f at there (subst (λ (x : ℕ). 0 < x) old pos) (sym old ∙ same))))
        (λ (new : ticket t.1.1 ≡ m.next + 1). let low : ticket f ≤ m.next = ticket_below m.next m.serving f (s.each k f there) in omega arith) (ch.fresh pos)

pub start_sound : (callers first : ℕ) → first ≤ most → Sound (start callers first)
start_sound callers first le = record {
  behind = omega arith;
  bounded = le;
  each = λ i c e. subst (FitsNumbers first first) (at_copies callers i Idle c e) tt;
  apart = λ i j c d a b pos same. absurd (let z : ticket Idle ≡ ticket c = ap ticket (at_copies callers i Idle c a) in omega arith);
}

pub after_sound : (m : Machine) (e : Event) (n : Machine) → Sound m → after m e ≡ Ok n → Sound n
after_sound m e n s go = let r = after_row m e n go in subst Sound (sym r.4) (changes_sound m (who e) r.0 r.1 s r.2 (row_changes m.next m.serving e r.0 r.1 r.3 s.behind s.bounded (s.each (who e) r.0 r.2)))

pub run_sound : (callers first : ℕ) (es : List Event) (m : Machine) (holds : List ℕ) → first ≤ most → Run callers first es m holds → Sound m
run_sound callers first [] m holds le r = subst Sound (sym r.0) (start_sound callers first le)
run_sound callers first (e ∷ es) m holds le r = after_sound r.0 e m (run_sound callers first es r.0 r.1 le r.2) r.3

pub at_most_one : (m : Machine) → Sound m → AtMostOne m
at_most_one m s i j t u a b = let x = s.each i (Holding t) a in let y = s.each j (Holding u) b in s.apart i j (Holding t) (Holding u) a b (omega arith) (ap (λ (k : ℕ). k + 1) (x.0 ∙ sym y.0))
