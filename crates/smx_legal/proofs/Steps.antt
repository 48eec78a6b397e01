-- One step of the check: from the entries before one to those up to it.
use Rattle.std.specs.Prelude.{if◌then◌else◌}
use Rattle.std.proofs.Common.{◌≡◌, ℕ, List, [], ◌∷◌, ◌++◌, sym, ◌∙◌, ap, subst, arith, append_assoc, ◌<◌, ◌≤◌, ◌+◌, ◌*◌, length, take, drop, get_or, add-one, length-take, Option}
use Rattle.std.proofs.lemmas.List.{take-append-drop}
use Rattle.smx_history.specs.declared.entry.Entry.{Entry}
use Rattle.smx_history.specs.declared.limits.Limits.{Limits}
use Rattle.smx_history.specs.Legal.{KeepsRules, IsFifo, AreApart, IsBounded, HasForm, StandsWell, IsPaired, IsLegal, owed_count}
use Rattle.smx_history.proofs.Fitting.{Fits}
use Rattle.smx_history.proofs.ListPushes.{AtEach-last, AtEachPrefix-whole}
use Rattle.std.proofs.Math.Seq.{take-suc, take-length}
use Rattle.smx_history.specs.Shifts.{entries_among}
use Rattle.smx_legal.specs.declared.totals.Totals.{Totals}
use Rattle.smx_legal.specs.Checks.{Counted}
use Rattle.smx_legal.proofs.Marking.{so_far, so_far-next, so_far-start, so_far-rules, size_within}

-- the last entry of a list that keeps the rules fits
KeepsRules-fits : (limits : Limits) (es : List Entry) (e : Entry) → KeepsRules limits (es ++ e ∷ []) → Fits limits es e
KeepsRules-fits limits es e h = record {
  form = AtEach-last (λ before x. HasForm x.kind x) es e h.form;
  fifo = AtEachPrefix-whole IsFifo (es ++ e ∷ []) h.fifo;
  once = h.once;
  membership = h.membership;
  standing = AtEach-last (λ before x. StandsWell x.kind before x) es e h.standing;
  pairing = AtEach-last (λ before x. IsPaired x.kind before x) es e h.pairing;
  apart = AtEachPrefix-whole AreApart (es ++ e ∷ []) h.apart;
  spaced = h.spaced;
  bounds = AtEachPrefix-whole (IsBounded limits) (es ++ e ∷ []) h.bounds;
}

up_to : (es : List Entry) (i : ℕ) (d : Entry) → i < length es → take (i + 1) es ≡ take i es ++ get_or es i d ∷ []
up_to es i d within = rw add-one (take-suc es i d within)

long : (es : List Entry) (i : ℕ) → i < length es → length (take i es) ≡ i
long es i within = omega (arith, length-take i es)

-- the entry at an index fits and the size keeps to the limit
pub legal_step : (limits : Limits) (marks : List (Option Entry)) (before : List Entry) → entries_among marks ≡ before → (es : List Entry) (i n : ℕ) (d : Entry) (t : Totals) → i < length es → IsLegal limits (so_far marks (take i es)) → Fits limits (before ++ take i es) (get_or es i d) → Counted ((before ++ take i es) ++ get_or es i d ∷ []) t → n ≡ i + 1 + 3 * t.queued + 2 * t.unanswered + t.waiting + t.present + (if t.up then 1 else 0) → n ≤ limits.history → IsLegal limits (so_far marks (take (i + 1) es))
legal_step limits marks before noted_is es i n d t within legal fits counted is le =
    let size : length (take i es) + 1 + owed_count ((before ++ take i es) ++ get_or es i d ∷ []) ≤ limits.history =
    omega (arith, long es i within, counted.queued, counted.unanswered, counted.waiting, counted.present, ap {B = ℕ} (λ b. if b then 1 else 0) counted.up, is, le) in
    subst (λ (xs : List Entry). IsLegal limits (so_far marks xs)) (sym (up_to es i d within)) (so_far-next limits marks before noted_is (take i es) (get_or es i d) legal fits size)

pub counted_step : (before es : List Entry) (i : ℕ) (d : Entry) (t : Totals) → i < length es → Counted ((before ++ take i es) ++ get_or es i d ∷ []) t → Counted (before ++ take (i + 1) es) t
counted_step before es i d t within counted =
    subst (λ (xs : List Entry). Counted xs t) (append_assoc before (take i es) (get_or es i d ∷ []) ∙ ap (λ xs. before ++ xs) (sym (up_to es i d within))) counted

-- the prefix of a legal list up to an entry
pub legal_prefix : (limits : Limits) (marks : List (Option Entry)) (es : List Entry) (i : ℕ) (d : Entry) → i < length es → IsLegal limits (so_far marks es) → IsLegal limits (so_far marks (take i es ++ get_or es i d ∷ []))
legal_prefix limits marks es i d within legal =
    subst (λ (xs : List Entry). IsLegal limits (so_far marks xs)) (up_to es i d within)
    (so_far-start limits marks (take (i + 1) es) (drop (i + 1) es) (subst (λ (xs : List Entry). IsLegal limits (so_far marks xs)) (sym (take-append-drop (i + 1) es)) legal))

-- an entry of a legal list fits
pub entry_fits : (limits : Limits) (marks : List (Option Entry)) (before : List Entry) → entries_among marks ≡ before → (es : List Entry) (i : ℕ) (d : Entry) → i < length es → IsLegal limits (so_far marks es) → Fits limits (before ++ take i es) (get_or es i d)
entry_fits limits marks before noted_is es i d within legal =
    KeepsRules-fits limits (before ++ take i es) (get_or es i d)
    (subst (λ (xs : List Entry). KeepsRules limits xs) (sym (append_assoc before (take i es) (get_or es i d ∷ [])))
    (so_far-rules limits marks before noted_is (take i es ++ get_or es i d ∷ []) (legal_prefix limits marks es i d within legal)))

pub legal_end : (limits : Limits) (marks : List (Option Entry)) (es : List Entry) (i : ℕ) → length es ≤ i → i ≤ length es → IsLegal limits (so_far marks (take i es)) → IsLegal limits (so_far marks es)
legal_end limits marks es i past within legal =
    let all : i ≡ length es = omega arith in
    subst (λ (xs : List Entry). IsLegal limits (so_far marks xs)) (ap (λ k. take k es) all ∙ take-length es) legal

pub counted_end : (before es : List Entry) (i : ℕ) (t : Totals) → length es ≤ i → i ≤ length es → Counted (before ++ take i es) t → Counted (before ++ es) t
counted_end before es i t past within counted =
    let all : i ≡ length es = omega arith in
    subst (λ (xs : List Entry). Counted (before ++ xs) t) (ap (λ k. take k es) all ∙ take-length es) counted

-- the size with one entry more is that of a legal prefix
pub within_counted : (limits : Limits) (marks : List (Option Entry)) (before : List Entry) → entries_among marks ≡ before → (es : List Entry) (i n : ℕ) (d : Entry) (t : Totals) → i < length es → Counted ((before ++ take i es) ++ get_or es i d ∷ []) t → n ≡ i + 1 + 3 * t.queued + 2 * t.unanswered + t.waiting + t.present + (if t.up then 1 else 0) → IsLegal limits (so_far marks (take i es ++ get_or es i d ∷ [])) → n ≤ limits.history
within_counted limits marks before noted_is es i n d t within counted is legal =
    let up = up_to es i d within in
    let there : Counted (before ++ (take i es ++ get_or es i d ∷ [])) t = subst (λ (xs : List Entry). Counted xs t) (append_assoc before (take i es) (get_or es i d ∷ [])) counted in
    let le = size_within limits marks before noted_is (take i es ++ get_or es i d ∷ []) t legal there in
    omega (arith, le, is, ap length up, length-take (i + 1) es, within)

-- the totals so far are small
pub totals_small : (limits : Limits) (marks : List (Option Entry)) (before : List Entry) → entries_among marks ≡ before → (es : List Entry) (i : ℕ) (t : Totals) → i < length es → IsLegal limits (so_far marks (take i es)) → Counted (before ++ take i es) t → i + 3 * t.queued + 2 * t.unanswered + t.waiting + t.present + (if t.up then 1 else 0) ≤ limits.history
totals_small limits marks before noted_is es i t within legal counted =
    let small = size_within limits marks before noted_is (take i es) t legal counted in
    omega (arith, small, long es i within)
