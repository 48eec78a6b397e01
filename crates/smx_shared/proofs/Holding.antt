-- One hold serves a call.
use Rattle.std.proofs.Common.{◌≡◌, ℕ, ◌+◌, ◌<◌, List, [], ◌++◌, sym, refl, ap, ◌∙◌, subst, inl, inr, arith}
use Rattle.std.proofs.lemmas.List.{append-nil}
use Rattle.smx_lock.specs.Fronts.{Front, Hold, MayLeave, Finds, Serves, Runs, MakesSeat, MakesNoSeat, after_hold, host_hold, holding}
use Rattle.smx_lock.specs.Notes.{notes_of}
use Rattle.smx_lock.proofs.Serving.{serves_hold, serves_split}
use Rattle.smx_history.specs.declared.limits.Limits.{Limits}
use Rattle.smx_history.specs.declared.note.Note.{Note}
use Rattle.smx_history.specs.History.{marks_of}
use Rattle.smx_history.specs.Legal.{IsLegal}
use Rattle.smx_history.specs.Contents.{Content, AgreesWith}
use Rattle.smx_lane.specs.Kept.{writer, limits_of, suits}
use Rattle.smx_lane.specs.declared.call.Call.{Call}
use Rattle.smx_lane.specs.declared.call.Reply.{Reply}
use Rattle.smx_lane.specs.Calls.{IsReply}
use Rattle.smx_shared.specs.Serving.{OneHold, CallServes, LoadServes, SplitServes, SplitFails}
use Rattle.smx_lane.specs.declared.load.Load.{Load}
use Rattle.smx_lane.specs.Loads.{IsLoad}
use Rattle.smx_shared.specs.Steps.{IsMade, hold_notes, own_notes}
use Rattle.smx_shared.specs.Roomy.{lane_met, shifts_before}

one_hold : (f g : Front Note Limits) (h : Hold Content Note Limits) (w : Content) (new : List Note) → Finds writer limits_of suits f h
    → w.limits ≡ h.value.limits → AgreesWith (h.found ++ new) w → Serves writer f g h.found new → OneHold f g h.found new h.value
one_hold f g h w new found same agrees serves = record {
  serves = serves;
  agrees = found.agrees;
  limits = found.fixed ∙ ap (λ l. l.fixed) found.lock;
  legal = subst (λ l. IsLegal f.lock.fixed (marks_of l)) (sym serves.seen)
      (subst (λ l. IsLegal l (marks_of (h.found ++ new))) (same ∙ found.fixed ∙ ap (λ l. l.fixed) found.lock) agrees.legal);
}

pub served : (f g : Front Note Limits) (h : Hold Content Note Limits) (w : Content) (new : List Note) → Finds writer limits_of suits f h
    → w.limits ≡ h.value.limits → AgreesWith (h.found ++ new) w → g ≡ after_hold (holding h w) new → OneHold f g h.found new h.value
served f g h w new found same agrees is = one_hold f g h w new found same agrees (serves_hold writer limits_of suits f g h new found is)

-- a hold that made a seat and no note
pub served_split : (f g : Front Note Limits) (h : Hold Content Note Limits) → Finds writer limits_of suits f h → g ≡ after_hold (host_hold h) [] → OneHold f g h.found [] h.value
served_split f g h found is =
    one_hold f g h h.value [] found refl (subst (λ l. AgreesWith l h.value) (sym (append-nil h.found)) found.agrees) (serves_split writer limits_of suits f g h [] found is)

-- a lane on which the holder made a call may be put back
pub made_may : (h : Hold Content Note Limits) (w : Content) (c : Call) (r : Reply) → IsMade h.number h.value c r w → h.value.limits ≡ h.lock.fixed → AgreesWith h.found h.value
    → MayLeave writer limits_of suits (holding h w) (hold_notes h.number h.value c r)
made_may h w c r m limits agrees = record { own = m.writers; agrees = m.goes_on h.found agrees; fixed = m.limits ∙ limits }

-- and once it is back the call was served
pub made_serves : (f g : Front Note Limits) (h : Hold Content Note Limits) (w : Content) (call : ℕ → Call) (r : Reply) → Finds writer limits_of suits f h
    → IsMade h.number h.value (call h.number) r w → g ≡ after_hold (holding h w) (hold_notes h.number h.value (call h.number) r) → CallServes f g (call f.number) r
made_serves f g h w call r found m after =
    let own = own_notes h.value (call h.number) r in
    let agrees = m.goes_on h.found found.agrees in
    let hold = served f g h w (hold_notes h.number h.value (call h.number) r) found m.limits agrees after in
    record {
      found = h.found;
      own = own;
      old = h.value;
      new = w;
      hold = subst (λ k. OneHold f g h.found (shifts_before k h.value (call k) ++ own) h.value) found.number hold;
      told = subst (λ k. IsReply (lane_met h.value (call k)) (call k) r own w) found.number m.told;
      left = subst (λ l. AgreesWith l w) (sym hold.serves.seen) agrees;
    }

-- the same of a seat that ran the call
pub ran_serves : (f g : Front Note Limits) (call : ℕ → Call) {A : Type 0} (reply : A → Reply) (a : A)
    → Runs writer limits_of suits f g (λ by old a new. IsMade by old (call by) (reply a) new) (λ by old a. hold_notes by old (call by) (reply a)) a
    → CallServes f g (call f.number) (reply a)
ran_serves f g call reply a ran = made_serves f g ran.0 ran.1 call (reply a) ran.2 ran.3 ran.4

-- one hold made a seat
pub made_seat : (f g s : Front Note Limits) → MakesSeat writer limits_of suits f g s → SplitServes f g s
made_seat f g s made =
    let h = made.0 in
    let found = made.1 in
    let left = made.3 in
    let guest = made.4 in
    record {
      found = h.found;
      content = h.value;
      hold = served_split f g h found left;
      lock = ap (λ z. z.lock) guest ∙ found.lock;
      caller = ap (λ z. z.caller) guest;
      seen = ap (λ z. z.seen) guest;
      mine = ap (λ z. z.mine) guest;
      last = ap (λ z. z.last) guest;
      number = ap (λ z. z.number + 1) guest ∙ sym (ap (λ z. z.seats) left);
      seats = ap (λ z. z.seats) guest ∙ sym (ap (λ z. z.seats) left);
      above = subst (λ k. f.number < k) (sym (ap (λ z. z.number) guest)) (subst (λ k. k < h.seats) found.number found.one_seat);
      unused = ap (λ z. notes_of writer z.number h.found) guest ∙ found.no_others h.seats (omega arith);
      second = λ alone. ap (λ z. z.seats) left ∙ ap (λ n. n + 1) (found.stays_alone alone);
    }

-- or none
pub made_no_seat : (f g : Front Note Limits) → MakesNoSeat writer limits_of suits f g → SplitFails f g
made_no_seat f g (inl spent) = inl spent
made_no_seat f g (inr full) =
    let h = full.0 in
    let left : g ≡ after_hold (holding h h.value) [] = full.3 in
    inr (h.found, h.value, served f g h h.value [] full.1 refl (subst (λ l. AgreesWith l h.value) (sym (append-nil h.found)) full.1.agrees) left, ap (λ z. z.seats) full.3 ∙ full.2)

-- a lane that was only looked at may be put back
pub load_may : (h : Hold Content Note Limits) (w : Content) → w ≡ h.value → h.value.limits ≡ h.lock.fixed → AgreesWith h.found h.value
    → MayLeave writer limits_of suits (holding h w) []
load_may h w same limits agrees = record {
  own = λ k n below. absurd (omega (arith, below));
  agrees = subst (λ v. AgreesWith (h.found ++ []) v) (sym same) (subst (λ l. AgreesWith l h.value) (sym (append-nil h.found)) agrees);
  fixed = ap (λ v. v.limits) same ∙ limits;
}

-- and once it is back the load was told
pub load_serves : (f g : Front Note Limits) (load : Load)
    → Runs writer limits_of suits f g (λ by old a new. (new ≡ old) × IsLoad old a) (λ by old a. []) load → LoadServes f g load
load_serves f g load ran =
    let h = ran.0 in
    let w = ran.1 in
    let found = ran.2 in
    let same : w ≡ h.value = ran.3.0 in
    let agrees = subst (λ v. AgreesWith (h.found ++ []) v) (sym same) (subst (λ l. AgreesWith l h.value) (sym (append-nil h.found)) found.agrees) in
    (h.found, h.value, served f g h w [] found (ap (λ v. v.limits) same) agrees ran.4, ran.3.1)
