-- Clients that enter, and turn back.
use Rattle.std.proofs.Common.{◌≡◌, ◌<◌, ◌≤◌, ◌+◌, ◌==◌, ◌&&◌, ◌||◌, ◌^◌, ℕ, true, false, List, [], ◌∷◌, ◌++◌, length, slice_get, Option, Some, None, Ok, Err, refl, sym, ◌∙◌, ap, arith, append_assoc, inr}
use Rattle.std.proofs.lemmas.Bool.{eq-eqb}
use Rattle.std.proofs.lemmas.Option.{slice_get_within}
use Rattle.smx_lock.specs.Fronts.{Front}
use Rattle.smx_history.specs.declared.limits.Limits.{Limits}
use Rattle.smx_history.specs.declared.note.Note.{Note}
use Rattle.smx_history.specs.declared.note.Event.TheVariants as event
use Rattle.smx_history.specs.History.{note, entries_of, requests}
use Rattle.smx_history.specs.Entries.{is_admitted, is_retired}
use Rattle.smx_shared.specs.Views.{DoorView, DepartedView, locks_of}
use Rattle.smx_history.specs.declared.reply.AdmitFault.TheVariants as admit
use Rattle.smx_lane.specs.declared.call.Call.TheVariants as call
use Rattle.smx_shared.specs.Roomy.{IsCrowded, finds_full, lane_met, shifts_before, shifts_where}
use Rattle.smx_shared.specs.Steps.{HasAdmitted, HaveAdmitted}
use Rattle.smx_shared.specs.Serving.{SplitServes, AdmitServes}
use Rattle.smx_shared.specs.Ports.{IsMemberBy, IsPort, HasAccepted}
use Rattle.smx_shared.specs.Entering.{Enters, Entered, Barred, StopsAt, TurnsBack, RefusesEntry}
use Rattle.smx_shared.specs.declared.fault.EnterFault.{EnterFault}
use Rattle.smx_shared.specs.declared.fault.EnterFault.TheVariants.{Exhausted, Spent, HistoryFull, NoMemory, Known}
use Rattle.smx_shared.proofs.PortInvariants.{on_locks}
use Rattle.smx_shared.proofs.Passing.{has_at}
use Rattle.smx_shared.proofs.Roomy.{shifts_entries, shifts_requests, crowded, admit_full}

pub enters_of : (c : ℕ) (f g s p : Front Note Limits) → SplitServes f g s → AdmitServes s p c (Ok tt) → Enters c f g p
enters_of c f g s p h a = record {
  served = (s, h, a);
  begins =
      let t = h.hold.serves.begins in
      let u = a.hold.serves.begins in
      let new = shifts_before s.number a.old (call.Admit s.number c) ++ a.own in
      let first : s.seen ≡ f.seen ++ t.0 = h.seen ∙ sym t.1 in (
        t.0 ++ (u.0 ++ new),
        sym (append_assoc f.seen t.0 (u.0 ++ new)) ∙ ap (λ l. l ++ (u.0 ++ new)) (sym first) ∙ sym (append_assoc s.seen u.0 new) ∙ ap (λ l. l ++ new) u.1 ∙ sym a.hold.serves.seen,
      );
  mine =
      let full = finds_full a.old (call.Admit s.number c) in
      a.hold.serves.mine
      ∙ ap (λ own. s.mine ++ (shifts_where full s.number ++ own)) a.told.1
      ∙ ap (λ l. l ++ (shifts_where full s.number ++ note s.number (event.Admit c) ∷ [])) h.mine
      ∙ ap (λ k. shifts_where full k ++ note k (event.Admit c) ∷ []) (sym a.hold.serves.number);
  lock = a.hold.serves.lock ∙ h.lock;
}

-- who was admitted alone is a member
pub member_of : (c : ℕ) (f : Front Note Limits) → HasAdmitted c f → IsMemberBy c f
member_of c f has =
    let is : entries_of f.mine ≡ entries_of (note f.number (event.Admit c) ∷ []) = ap entries_of has.1 ∙ shifts_entries has.0 f.number (note f.number (event.Admit c) ∷ []) in
    let alone : is_admitted f.number c (entries_of (note f.number (event.Admit c) ∷ [])) ≡ true =
    ap (λ b. (b && (f.number == f.number)) || false) (eq-eqb c c refl) ∙ ap (λ b. b || false) (eq-eqb f.number f.number refl) in
    record {
      admitted = ap (is_admitted f.number c) is ∙ alone;
      stays = ap (is_retired c) is;
    }

-- the notes of each seat that was made
pub made_mine : (to c : ℕ) (old new made : List (Front Note Limits)) → Entered to c old new made → to ≤ length old
    → HaveAdmitted c made
made_mine to c old new made e room k p at =
    let within = slice_get_within made k p at in
    let was = has_at old k (omega (arith, within, e.made_count, room)) in
    let now = has_at new k (omega (arith, within, e.made_count, e.count, room)) in
    let enters = e.each k was.0 now.0 p was.1 now.1 at in
    (finds_full enters.served.2.old (call.Admit p.number c), enters.mine)

pub made_members : (to c : ℕ) (old new made : List (Front Note Limits)) → Entered to c old new made → to ≤ length old
    → (k : ℕ) (p : Front Note Limits) → slice_get made k ≡ Some p → IsMemberBy c p
made_members to c old new made e room k p at = member_of c p (made_mine to c old new made e room k p at)

-- what a port has at first
pub first_accepts : (c n : ℕ) (fs : List (Front Note Limits)) → HaveAdmitted c fs → HasAccepted (record { client = c; first = n; next = n; fronts = fs }) []
first_accepts c n fs admitted = record { count = omega arith; lanes = tt; each = λ k f at. let has = admitted k f at in ap requests has.1 ∙ shifts_requests has.0 f.number (note f.number (event.Admit c) ∷ []) }

pub first_port : (c n : ℕ) (fs : List (Front Note Limits)) → (0 < length fs) × (length fs ≤ 16) → (0 < n) × (n ≤ 2 ^ 62)
    → HaveAdmitted c fs → IsPort (record { client = c; first = n; next = n; fronts = fs })
first_port c n fs lanes first admitted = record {
  lanes = lanes;
  ordinals = (first.0, omega (arith, first.1));
  member = λ k f at. member_of c f (admitted k f at);
  accepts = ([], first_accepts c n fs admitted);
}

pub stops_locks : (lane c : ℕ) (fault : EnterFault) (old new made : List (Front Note Limits)) (barred : Option (Front Note Limits)) → StopsAt lane c fault old new made barred → locks_of new ≡ locks_of old
stops_locks lane c fault old new made barred s = let on = s.3 in on_locks lane s.0 new on.0 on.1 on.2 on.3 on.4 ∙ s.2.locks

never : (c : ℕ) (barred : Option (Front Note Limits)) (f g : Front Note Limits) → Barred c Exhausted barred f g → ⊥
never c None f g b = b
never c (Some p) f g b = b.2

pub refused_entry : (v w : DoorView) (fault : EnterFault) (d : DepartedView) → w ≡ record v { next = v.next + 1; fronts = w.fronts } → TurnsBack v.next fault v.fronts w.fronts d → RefusesEntry v w fault d
refused_entry v w Exhausted d is back = absurd (let on = back.2.3 in never v.next d.barred on.0 on.1 on.5)
refused_entry v w NoMemory d is back = (is, inr back)
refused_entry v w Spent d is back = (is, back)
refused_entry v w HistoryFull d is back = (is, back)
refused_entry v w Known d is back = (is, back)

-- a lane that refused a client for its history is crowded
pub admit_crowded : (s p : Front Note Limits) (c : ℕ) (h : AdmitServes s p c (Err admit.HistoryFull)) → IsCrowded h.old
admit_crowded s p c h = crowded h.old (admit_full (lane_met h.old (call.Admit s.number c)) c h.told.0)
