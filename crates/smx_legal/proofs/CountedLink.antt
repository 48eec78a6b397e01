-- The totals after the link is lost, and after there is one again.
use Rattle.std.proofs.Common.{◌≡◌, ◌∷◌, ◌++◌, [], List, true, false, sym, ap}
use Rattle.smx_history.specs.declared.entry.Entry.{Entry}
use Rattle.smx_history.specs.declared.entry.Kind.TheVariants as kind
use Rattle.smx_legal.specs.declared.totals.Totals.{Totals}
use Rattle.smx_history.specs.Entries.{is_link, is_rise}
use Rattle.smx_history.proofs.Frames.{accepts-other, takes-other, admits-other, unanswered-other, present-other, waiting-other, is_up-push}
use Rattle.smx_history.proofs.LinkAgrees.{link_alone}
use Rattle.smx_legal.specs.Checks.{Counted}
use Rattle.smx_legal.proofs.Counting.{numbers_kept}

counted_link : (t : Totals) (es : List Entry) (e : Entry) → Counted es t → is_link e.kind ≡ true → Counted (es ++ e ∷ []) (record t { up = is_rise e.kind })
counted_link t es e counted link =
    let k = link_alone e.kind link in
    record {
      numbers = numbers_kept es e k.take k.settling counted.numbers;
      greatest = rw (admits-other es e k.admit) counted.greatest;
      taken = rw (takes-other es e k.take) counted.taken;
      queued = rw (accepts-other es e k.accept, takes-other es e k.take) counted.queued;
      unanswered = rw (unanswered-other es e k.take k.settling) counted.unanswered;
      waiting = rw (waiting-other es e k.admit k.retire k.answer k.collect) counted.waiting;
      present = rw (present-other es e k.admit k.retire) counted.present;
      up = sym (is_up-push es e link);
    }

pub counted_down : (t : Totals) (es : List Entry) (e : Entry) → Counted es t → e.kind ≡ kind.Down → Counted (es ++ e ∷ []) (record t { up = false })
counted_down t es e counted k = rw (ap is_rise k) at (counted_link t es e counted (ap is_link k))

pub counted_up : (t : Totals) (es : List Entry) (e : Entry) → Counted es t → e.kind ≡ kind.Up → Counted (es ++ e ∷ []) (record t { up = true })
counted_up t es e counted k = rw (ap is_rise k) at (counted_link t es e counted (ap is_link k))
