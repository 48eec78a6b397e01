-- An answer, in time or late, fits exactly where the check says so.
use Rattle.std.proofs.Common.{◌≡◌, ◌≤◌, ◌==◌, ℕ, Bool, true, false, not, ◌&&◌, ◌||◌, List, [], ◌∷◌, ◌++◌, map, filter, refl, sym, ◌∙◌, ap, arith, inl, inr, count_by}
use Rattle.std.proofs.lemmas.List.{map-append}
use Rattle.std.proofs.lemmas.List.Elements.{filter_agree, filter-append}
use Rattle.std.proofs.lemmas.List.Folds.{list_any-append}
use Rattle.std.proofs.lemmas.Bool.{and_from, and_parts, and_right, eqb-true, cases_Bool}
use Rattle.smx_history.specs.declared.entry.Entry.{Entry}
use Rattle.smx_history.specs.declared.entry.Kind.{Kind}
use Rattle.smx_history.specs.declared.entry.Kind.TheVariants as kind
use Rattle.smx_history.specs.declared.limits.Limits.{Limits}
use Rattle.smx_history.specs.Entries.{is_admit, is_accept, is_take, is_answer, is_collect, is_retire, is_settling, has_name, takes, answers_of, collects_of, is_retired, is_settled, unanswered_takes, command_of, numbers}
use Rattle.smx_history.specs.Numbers.{AreSpaced}
use Rattle.smx_history.specs.Failures.{failure_command}
use Rattle.smx_history.specs.Legal.{KeepsRules, IsFifo, IsOnce, AreApart, IsBounded, Answers}
use Rattle.smx_history.proofs.Fitting.{Fits}
use Rattle.smx_history.proofs.ListPushes.{AtEachPrefix-whole, StartsWith-more}
use Rattle.smx_history.proofs.Counts.{none_count, eqb_sym, length_part}
use Rattle.smx_history.proofs.Frames.{accepts-other, takes-other, accepts_of-other, collects_of-other, is_retired-other}
use Rattle.smx_history.proofs.Kept.{takes_kept, membership_kept, HasForm-by, StandsWell-by, IsPaired-by, spaced_kept}
use Rattle.smx_history.proofs.Taking.{filter-and}
use Rattle.smx_history.proofs.Parts.{apart-filter, count_one, count_other}

-- an entry that settles is no admit, accept, take, collect or retire
pub record Settles (k : Kind) : Type 0 where
  pub settling : is_settling k ≡ true
  pub admit : is_admit k ≡ false
  pub accept : is_accept k ≡ false
  pub take : is_take k ≡ false
  pub collect : is_collect k ≡ false
  pub retire : is_retire k ≡ false

pub settles_answer : (k : Kind) → k ≡ kind.Answer → Settles k
settles_answer k is = record { settling = ap is_settling is; admit = ap is_admit is; accept = ap is_accept is; take = ap is_take is; collect = ap is_collect is; retire = ap is_retire is }

pub settles_late : (k : Kind) → k ≡ kind.Late → Settles k
settles_late k is = record { settling = ap is_settling is; admit = ap is_admit is; accept = ap is_accept is; take = ap is_take is; collect = ap is_collect is; retire = ap is_retire is }

pub settles_fail : (k : Kind) → k ≡ kind.Fail → Settles k
settles_fail k is = record { settling = ap is_settling is; admit = ap is_admit is; accept = ap is_accept is; take = ap is_take is; collect = ap is_collect is; retire = ap is_retire is }

-- the takes without an answer are those that were, without that of the name
pub unanswered_settled : (es : List Entry) (e : Entry) → Settles e.kind → unanswered_takes (es ++ e ∷ []) ≡ filter (λ t. not (has_name e.client e.ordinal t)) (unanswered_takes es)
unanswered_settled es e s =
    ap (filter (λ x. not (is_settled x.client x.ordinal (es ++ e ∷ [])))) (takes-other es e s.take)
    ∙ filter_agree (λ x. not (is_settled x.client x.ordinal (es ++ e ∷ []))) (λ x. not (is_settled x.client x.ordinal es) && not (has_name e.client e.ordinal x))
    (λ x. ap not (list_any-append (λ y. is_settling y.kind && has_name x.client x.ordinal y) es (e ∷ []) ∙ ap (λ b. is_settled x.client x.ordinal es || b) (one x)) ∙ de_morgan (is_settled x.client x.ordinal es) (has_name e.client e.ordinal x)) (takes es)
    ∙ filter-and (λ x. not (is_settled x.client x.ordinal es)) (λ x. not (has_name e.client e.ordinal x)) (takes es)
  where
    or_nothing : (b : Bool) → (b || false) ≡ b
    or_nothing true = refl
    or_nothing false = refl

    de_morgan : (a b : Bool) → not (a || b) ≡ (not a && not b)
    de_morgan true b = refl
    de_morgan false b = refl

    one : (x : Entry) → ((is_settling e.kind && has_name x.client x.ordinal e) || false) ≡ has_name e.client e.ordinal x
    one x =
        or_nothing (is_settling e.kind && has_name x.client x.ordinal e) ∙ ap (λ b. b && has_name x.client x.ordinal e) s.settling
        ∙ ap (λ b. b && (e.ordinal == x.ordinal)) (eqb_sym e.client x.client) ∙ ap (λ b. (x.client == e.client) && b) (eqb_sym e.ordinal x.ordinal)

settles_once : (es : List Entry) (e : Entry) → Settles e.kind → is_settled e.client e.ordinal es ≡ false → IsOnce es → (c n : ℕ) → count_by (λ x. is_settling x.kind && has_name c n x) (es ++ e ∷ []) ≤ 1
settles_once es e s none h c n =
    elim (cases_Bool (has_name c n e)) [
      | inl same ↦
          let w = and_parts (e.client == c) (e.ordinal == n) same in
          let before : count_by (λ x. is_settling x.kind && has_name c n x) es ≡ 0 =
          none_count (λ x. is_settling x.kind && has_name c n x) es
          (sym (ap (λ i. is_settled i e.ordinal es) (eqb-true e.client c w.0) ∙ ap (λ i. is_settled c i es) (eqb-true e.ordinal n w.1)) ∙ none) in
          omega (arith, count_one (λ x. is_settling x.kind && has_name c n x) es e (and_from _ _ s.settling same), before)
      | inr apart ↦
          omega (arith, count_other (λ x. is_settling x.kind && has_name c n x) es e (and_right (is_settling e.kind) (has_name c n e) apart), h.settlings c n)
    ]

-- what is the same for an answer in time, for one that is late and for a failure
record FitsBut (limits : Limits) (es : List Entry) (e : Entry) : Type 0 where
  fifo : IsFifo (es ++ e ∷ [])
  once : IsOnce (es ++ e ∷ [])
  apart : AreApart (es ++ e ∷ [])
  spaced : AreSpaced (numbers (es ++ e ∷ []))
  bounds : IsBounded limits (es ++ e ∷ [])

settle_but : (limits : Limits) (es : List Entry) (e : Entry) → KeepsRules limits es → Settles e.kind → Answers es e → FitsBut limits es e
settle_but limits es e legal s p =
    let fifo = AtEachPrefix-whole IsFifo es legal.fifo in
    let was = AtEachPrefix-whole (IsBounded limits) es legal.bounds in
    let gone = unanswered_settled es e s in
    record {
      fifo = record {
        taken = rw (accepts-other es e s.accept, takes-other es e s.take) fifo.taken;
        collected = λ c. rw (collects_of-other c es e s.collect, filter-append (λ x. is_answer x.kind && (x.client == c)) es (e ∷ []), map-append (λ x. x.ordinal) (answers_of c es) (answers_of c (e ∷ [])))
            (StartsWith-more (map (λ x. x.ordinal) (answers_of c es)) (map (λ x. x.ordinal) (collects_of c es)) (map (λ x. x.ordinal) (answers_of c (e ∷ []))) (fifo.collected c));
      };
      once = record {
        ordinals = λ c. rw (accepts_of-other c es e s.accept) (legal.once.ordinals c);
        takes = takes_kept es e s.take legal.once;
        settlings = settles_once es e s p.first legal.once;
      };
      apart = rw gone (apart-filter (λ t. not (has_name e.client e.ordinal t)) (unanswered_takes es) (AtEachPrefix-whole AreApart es legal.apart));
      spaced = spaced_kept es e s.take legal.spaced;
      bounds = record {
        queue = rw (accepts-other es e s.accept, takes-other es e s.take) was.queue;
        window = rw gone (let l = length_part (λ (t : Entry). not (has_name e.client e.ordinal t)) (unanswered_takes es) in omega (arith, l, was.window));
        client = λ c stays. rw (accepts_of-other c es e s.accept, collects_of-other c es e s.collect) (was.client c (sym (is_retired-other c es e s.retire) ∙ stays));
      };
    }

pub answer_fit : (limits : Limits) (es : List Entry) (e : Entry) → KeepsRules limits es → e.kind ≡ kind.Answer → Answers es e → is_retired e.client es ≡ false → Fits limits es e
answer_fit limits es e legal k p here =
    let s = settles_answer e.kind k in
    let but = settle_but limits es e legal s p in
    record {
      form = HasForm-by e kind.Answer k tt;
      fifo = but.fifo;
      once = but.once;
      membership = membership_kept es e s.admit s.retire legal.membership;
      standing = StandsWell-by es e kind.Answer k here;
      pairing = IsPaired-by es e kind.Answer k p;
      apart = but.apart;
      spaced = but.spaced;
      bounds = but.bounds;
    }

pub late_fit : (limits : Limits) (es : List Entry) (e : Entry) → KeepsRules limits es → e.kind ≡ kind.Late → Answers es e → is_retired e.client es ≡ true → Fits limits es e
late_fit limits es e legal k p gone =
    let s = settles_late e.kind k in
    let but = settle_but limits es e legal s p in
    record {
      form = HasForm-by e kind.Late k tt;
      fifo = but.fifo;
      once = but.once;
      membership = membership_kept es e s.admit s.retire legal.membership;
      standing = StandsWell-by es e kind.Late k gone;
      pairing = IsPaired-by es e kind.Late k p;
      apart = but.apart;
      spaced = but.spaced;
      bounds = but.bounds;
    }

pub fail_fit : (limits : Limits) (es : List Entry) (e : Entry) → KeepsRules limits es → e.kind ≡ kind.Fail → Answers es e → e.command ≡ failure_command (command_of e.client e.ordinal es) → Fits limits es e
fail_fit limits es e legal k p command =
    let s = settles_fail e.kind k in
    let but = settle_but limits es e legal s p in
    record {
      form = HasForm-by e kind.Fail k tt;
      fifo = but.fifo;
      once = but.once;
      membership = membership_kept es e s.admit s.retire legal.membership;
      standing = StandsWell-by es e kind.Fail k tt;
      pairing = IsPaired-by es e kind.Fail k (p, command);
      apart = but.apart;
      spaced = but.spaced;
      bounds = but.bounds;
    }
