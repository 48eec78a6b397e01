-- For the layers above: a hold that is over served its call.
use Rattle.std.proofs.Common.{◌≡◌, ℕ, List, ◌++◌, refl, sym, ap, ◌∙◌, subst, arith}
use Rattle.smx_lock.specs.Notes.{notes_of}
use Rattle.smx_lock.specs.Fronts.{Front, Hold, Finds, Serves, after_hold, host_hold}

module _ {S N F : Type 0} (writer : N → ℕ) (fixed_of : S → F) (suits : S → List N → Type 0) where
  pub serves_hold : (f g : Front N F) (h : Hold S N F) (new : List N) → Finds writer fixed_of suits f h → g ≡ after_hold h new → Serves writer f g h.found new
  serves_hold f g h new found is = subst (λ (z : Front N F). Serves writer f z h.found new) (sym is) record {
    lock = found.lock;
    number = found.number;
    caller = refl;
    begins = found.begins;
    own = subst (λ (k : ℕ). notes_of writer k h.found ≡ f.mine) found.number (found.own ∙ found.mine);
    seen = refl;
    mine = ap (λ (l : List N). l ++ new) found.mine;
    rises = found.rises;
    counts = found.counts;
    one_seat = found.one_seat;
    no_others = found.no_others;
    alone = found.alone;
  }

  -- the same where the hold made a seat
  pub serves_split : (f g : Front N F) (h : Hold S N F) (new : List N) → Finds writer fixed_of suits f h → g ≡ after_hold (host_hold h) new → Serves writer f g h.found new
  serves_split f g h new found is = subst (λ (z : Front N F). Serves writer f z h.found new) (sym is) record {
    lock = found.lock;
    number = found.number;
    caller = refl;
    begins = found.begins;
    own = subst (λ (k : ℕ). notes_of writer k h.found ≡ f.mine) found.number (found.own ∙ found.mine);
    seen = refl;
    mine = ap (λ (l : List N). l ++ new) found.mine;
    rises = found.rises;
    counts = (let z = found.counts in omega arith);
    one_seat = (let z = found.one_seat in omega arith);
    no_others = λ k le. found.no_others k (omega arith);
    alone = found.alone;
  }
