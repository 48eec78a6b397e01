-- An accept fits exactly where the check says so.
use Rattle.std.proofs.Common.{◌≡◌, ◌<◌, ◌+◌, ◌==◌, ℕ, true, ◌&&◌, List, [], ◌∷◌, ◌++◌, length, map, sym, ◌∙◌, ap, arith, length-append, inl, inr}
use Rattle.std.proofs.lemmas.List.{map-append}
use Rattle.std.proofs.lemmas.Bool.{and_from, eq-eqb, ne_eqb, cases_eq}
use Rattle.smx_pdu.specs.Command.{is_forwarded}
use Rattle.smx_history.specs.declared.entry.Entry.{Entry}
use Rattle.smx_history.specs.declared.entry.Kind.TheVariants as kind
use Rattle.smx_history.specs.declared.limits.Limits.{Limits}
use Rattle.smx_history.specs.Prefixes.{last_or}
use Rattle.smx_history.specs.Entries.{is_admit, is_accept, is_take, is_answer, is_collect, is_retire, is_settling, name_of, accepts, takes, accepts_of, collects_of, is_up}
use Rattle.smx_history.specs.Legal.{KeepsRules, IsFifo, AreApart, IsBounded, IsServed}
use Rattle.smx_history.proofs.Fitting.{Fits}
use Rattle.smx_history.proofs.ListPushes.{filter_push, filter_other, AtEachPrefix-whole, RiseAbove-push, StartsWith-more}
use Rattle.smx_history.proofs.Frames.{takes-other, answers_of-other, collects_of-other, is_retired-other, unanswered-other}
use Rattle.smx_history.proofs.Kept.{takes_kept, settlings_kept, membership_kept, apart_kept, spaced_kept, HasForm-by, StandsWell-by, IsPaired-by}

pub accepted_push : (es : List Entry) (e : Entry) → e.kind ≡ kind.Accept → accepts (es ++ e ∷ []) ≡ accepts es ++ e ∷ []
accepted_push es e k = filter_push (λ x. is_accept x.kind) es e (ap is_accept k)

pub accepted_own : (c : ℕ) (es : List Entry) (e : Entry) → e.kind ≡ kind.Accept → e.client ≡ c → accepts_of c (es ++ e ∷ []) ≡ accepts_of c es ++ e ∷ []
accepted_own c es e k same = filter_push (λ x. is_accept x.kind && (x.client == c)) es e (and_from _ _ (ap is_accept k) (eq-eqb e.client c same))

pub accepted_other : (c : ℕ) (es : List Entry) (e : Entry) → e.kind ≡ kind.Accept → (e.client ≡ c → ⊥) → accepts_of c (es ++ e ∷ []) ≡ accepts_of c es
accepted_other c es e k apart = filter_other (λ x. is_accept x.kind && (x.client == c)) es e (ap (λ b. b && (e.client == c)) (ap is_accept k) ∙ ne_eqb e.client c apart)

pub ordinals_accepted : (c : ℕ) (es : List Entry) (e : Entry) → e.kind ≡ kind.Accept → e.client ≡ c → map (λ x. x.ordinal) (accepts_of c (es ++ e ∷ [])) ≡ map (λ x. x.ordinal) (accepts_of c es) ++ e.ordinal ∷ []
ordinals_accepted c es e k same = ap (map (λ (x : Entry). x.ordinal)) (accepted_own c es e k same) ∙ map-append (λ x. x.ordinal) (accepts_of c es) (e ∷ [])

-- what a legal list allows an accept by
pub record MayAccept (limits : Limits) (es : List Entry) (e : Entry) : Type 0 where
  pub forwarded : is_forwarded e.command ≡ true
  pub served : IsServed es e
  pub up : is_up es ≡ true
  pub rises : last_or 0 (map (λ x. x.ordinal) (accepts_of e.client es)) < e.ordinal
  pub queue : length (accepts es) < length (takes es) + limits.queue
  pub client : length (accepts_of e.client es) < length (collects_of e.client es) + limits.client

pub accept_fit : (limits : Limits) (es : List Entry) (e : Entry) → KeepsRules limits es → e.kind ≡ kind.Accept → MayAccept limits es e → Fits limits es e
accept_fit limits es e legal k p =
    let fifo = AtEachPrefix-whole IsFifo es legal.fifo in
    let was = AtEachPrefix-whole (IsBounded limits) es legal.bounds in
    record {
      form = HasForm-by e kind.Accept k p.forwarded;
      fifo = record {
        taken = rw (accepted_push es e k, takes-other es e (ap is_take k), map-append name_of (accepts es) (e ∷ [])) (StartsWith-more (map name_of (accepts es)) (map name_of (takes es)) (name_of e ∷ []) fifo.taken);
        collected = λ c. rw (answers_of-other c es e (ap is_answer k), collects_of-other c es e (ap is_collect k)) (fifo.collected c);
      };
      once = record {
        ordinals = λ c. elim (cases_eq e.client c) [
          | inl same ↦ rw (ordinals_accepted c es e k same) (RiseAbove-push 0 (map (λ x. x.ordinal) (accepts_of c es)) e.ordinal (legal.once.ordinals c) (rw (← same) p.rises))
          | inr apart ↦ rw (accepted_other c es e k apart) (legal.once.ordinals c)
        ];
        takes = takes_kept es e (ap is_take k) legal.once;
        settlings = settlings_kept es e (ap is_settling k) legal.once;
      };
      membership = membership_kept es e (ap is_admit k) (ap is_retire k) legal.membership;
      standing = StandsWell-by es e kind.Accept k (p.served, p.up);
      pairing = IsPaired-by es e kind.Accept k tt;
      apart = apart_kept es e (ap is_take k) (ap is_settling k) (AtEachPrefix-whole AreApart es legal.apart);
      spaced = spaced_kept es e (ap is_take k) legal.spaced;
      bounds = record {
        queue = rw (accepted_push es e k, takes-other es e (ap is_take k)) (omega (arith, length-append (accepts es) (e ∷ []), p.queue));
        window = rw (unanswered-other es e (ap is_take k) (ap is_settling k)) was.window;
        client = λ c gone. elim (cases_eq e.client c) [
          | inl same ↦ rw (accepted_own c es e k same, collects_of-other c es e (ap is_collect k)) (let m = p.client in let m' = rw same at m in omega (arith, length-append (accepts_of c es) (e ∷ []), m'))
          | inr apart ↦ rw (accepted_other c es e k apart, collects_of-other c es e (ap is_collect k)) (was.client c (sym (is_retired-other c es e (ap is_retire k)) ∙ gone))
        ];
      };
    }
