-- An admit fits exactly where the check says so.
use Rattle.std.proofs.Common.{◌≡◌, ◌<◌, false, List, [], ◌∷◌, ◌++◌, map, sym, ◌∙◌, ap}
use Rattle.std.proofs.lemmas.List.{map-append}
use Rattle.smx_history.specs.declared.entry.Entry.{Entry}
use Rattle.smx_history.specs.declared.entry.Kind.TheVariants as kind
use Rattle.smx_history.specs.declared.limits.Limits.{Limits}
use Rattle.smx_history.specs.Prefixes.{last_or}
use Rattle.smx_history.specs.Entries.{is_admit, is_accept, is_take, is_answer, is_collect, is_retire, is_settling, admits}
use Rattle.smx_history.specs.Legal.{KeepsRules, IsFifo, AreApart, IsBounded, HasForm}
use Rattle.smx_history.proofs.Fitting.{Fits}
use Rattle.smx_history.proofs.ListPushes.{filter_push, AtEachPrefix-whole, RiseAbove-push}
use Rattle.smx_history.proofs.Frames.{accepts-other, takes-other, accepts_of-other, collects_of-other, is_retired-other, unanswered-other}
use Rattle.smx_history.proofs.Kept.{fifo_kept, once_kept, retires_kept, apart_kept, spaced_kept, HasForm-by, StandsWell-by, IsPaired-by}

-- a list of entries keeps to its bounds where an entry is neither accept nor take, answers nothing and retires nobody
pub bounds_kept : (limits : Limits) (es : List Entry) (e : Entry) → is_accept e.kind ≡ false → is_take e.kind ≡ false → is_settling e.kind ≡ false → is_collect e.kind ≡ false → is_retire e.kind ≡ false → IsBounded limits es → IsBounded limits (es ++ e ∷ [])
bounds_kept limits es e a t s c r h = record {
  queue = rw (accepts-other es e a, takes-other es e t) h.queue;
  window = rw (unanswered-other es e t s) h.window;
  client = λ d gone. rw (accepts_of-other d es e a, collects_of-other d es e c) (h.client d (sym (is_retired-other d es e r) ∙ gone));
}

pub clients_admitted : (es : List Entry) (e : Entry) → e.kind ≡ kind.Admit → map (λ x. x.client) (admits (es ++ e ∷ [])) ≡ map (λ x. x.client) (admits es) ++ e.client ∷ []
clients_admitted es e k = ap (map (λ (x : Entry). x.client)) (filter_push (λ x. is_admit x.kind) es e (ap is_admit k)) ∙ map-append (λ x. x.client) (admits es) (e ∷ [])

pub admit_fit : (limits : Limits) (es : List Entry) (e : Entry) → KeepsRules limits es → e.kind ≡ kind.Admit → HasForm kind.Admit e → last_or 0 (map (λ x. x.client) (admits es)) < e.client → Fits limits es e
admit_fit limits es e legal k form above =
    record {
      form = HasForm-by e kind.Admit k form;
      fifo = fifo_kept es e (ap is_accept k) (ap is_take k) (ap is_answer k) (ap is_collect k) (AtEachPrefix-whole IsFifo es legal.fifo);
      once = once_kept es e (ap is_accept k) (ap is_take k) (ap is_settling k) legal.once;
      membership = record {
        clients = rw (clients_admitted es e k) (RiseAbove-push 0 (map (λ x. x.client) (admits es)) e.client legal.membership.clients above);
        retires = retires_kept es e (ap is_retire k) legal.membership;
      };
      standing = StandsWell-by es e kind.Admit k tt;
      pairing = IsPaired-by es e kind.Admit k tt;
      apart = apart_kept es e (ap is_take k) (ap is_settling k) (AtEachPrefix-whole AreApart es legal.apart);
      spaced = spaced_kept es e (ap is_take k) legal.spaced;
      bounds = bounds_kept limits es e (ap is_accept k) (ap is_take k) (ap is_settling k) (ap is_collect k) (ap is_retire k) (AtEachPrefix-whole (IsBounded limits) es legal.bounds);
    }
