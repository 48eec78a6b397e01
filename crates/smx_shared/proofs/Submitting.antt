-- A submit, lane by lane of the ring.
use Rattle.std.proofs.Common.{◌≡◌, ◌<◌, ◌≤◌, ◌+◌, ◌%◌, ℕ, List, [], ◌∷◌, ◌++◌, length, drop, get_or, slice_get, Some, Err, refl, sym, ◌∙◌, ap, subst, arith, append_assoc, if◌then◌else◌}
use Rattle.std.specs.List.{AllByRecursion}
use Rattle.std.proofs.lemmas.List.{append-nil}
use Rattle.std.proofs.lemmas.List.Elements.{filter_map-append}
use Rattle.std.proofs.lemmas.Bool.{eq-eqb, ne_eqb}
use Rattle.std.proofs.lemmas.Nat.{mod_below}
use Rattle.std.proofs.lemmas.Option.{slice_get_read, slice_get_within}
use Rattle.smx_lock.specs.Fronts.{Front}
use Rattle.smx_history.specs.declared.limits.Limits.{Limits}
use Rattle.smx_history.specs.declared.note.Note.{Note}
use Rattle.smx_history.specs.declared.note.Event.TheVariants as event
use Rattle.smx_history.specs.declared.request.Request.{Request}
use Rattle.smx_history.specs.declared.reply.Refusal.{Refusal}
use Rattle.smx_history.specs.declared.reply.Refusal.TheVariants.{HistoryFull}
use Rattle.smx_history.specs.Entries.{is_retired}
use Rattle.smx_history.specs.History.{note, request_in, requests}
use Rattle.smx_lane.specs.declared.call.Call.TheVariants as call
use Rattle.smx_history.specs.Ring.{ring}
use Rattle.smx_history.proofs.Ring.{ring_step, ring_end}
use Rattle.smx_shared.specs.declared.offer.Offer.{Offer}
use Rattle.smx_shared.specs.declared.fault.SubmitFault.{SubmitFault}
use Rattle.smx_shared.specs.declared.fault.SubmitFault.TheVariants as fault
use Rattle.smx_shared.specs.Views.{PortView, locks_of}
use Rattle.smx_shared.specs.Offers.{request_for}
use Rattle.smx_shared.specs.Ports.{IsMemberBy}
use Rattle.smx_shared.specs.Roomy.{IsCrowded, finds_full, lane_met, shifts_before, shifts_where}
use Rattle.smx_shared.specs.Serving.{AcceptServes}
use Rattle.smx_shared.specs.Steps.{IsBelow, LeadUpTo}
use Rattle.smx_shared.specs.Submits.{AcceptsOn, FoundFull, FullServes, OnLane, Reaches, Refuses, StopsOn, request_of, start_of}
use Rattle.smx_shared.proofs.PortInvariants.{Grows, grows_then, lane_grows, lane_same, member_more, on_locks, same_grows, spent_same}
use Rattle.smx_shared.proofs.OwnNotes.{has_row}
use Rattle.smx_shared.proofs.Roomy.{accept_full, crowded, shifts_entries, shifts_requests, turned_members}

accept_crowded : (f g : Front Note Limits) (r : Request) (e : Request × Refusal) (h : AcceptServes f g r (Err e)) → e.1 ≡ HistoryFull → IsCrowded h.old
accept_crowded f g r e h is = crowded h.old (accept_full (lane_met h.old (call.Accept f.number r)) r.client (h.told.2 ∙ ap Some is))

-- a member's request that was refused found the lane full
pub full_of : (f g : Front Note Limits) (r : Request) (e : Request × Refusal) → IsMemberBy r.client f → AcceptServes f g r (Err e) → FullServes r f g
full_of f g r e member s =
    let made = call.Accept f.number r in
    let h : AcceptServes f g r (Err (r, e.1)) = subst (λ x. AcceptServes f g r (Err (x, e.1))) s.told.1 s in (
      e.1,
      h,
      λ is. has_row f g r.client s.found (shifts_before f.number s.old made ++ s.own) s.old (lane_met s.old made) (turned_members (finds_full s.old made) s.old) s.hold member (s.told.2 ∙ ap Some is),
      accept_crowded f g r (r, e.1) h,
    )

-- lanes that were found full have no more notes than shifts
pub full_grows : (c n : ℕ) (lanes : List ℕ) (r : Request) (old new : List (Front Note Limits)) → FoundFull lanes r old new → Grows c n [] old new
full_grows c n [] r old new same = subst (Grows c n [] old) (sym same) (same_grows c n old old (record { count = refl; each = λ k g at. (g, at, refl, refl) }))
full_grows c n (lane ∷ lanes) r old new full =
    let on = full.1 in
    let f = on.0 in
    let one = on.5.1 in
    let turned = finds_full one.old (call.Accept f.number r) in
    grows_then c n [] old full.0 new
    (lane_grows c n lane [] old full.0 f on.1 (shifts_where turned f.number ++ []) on.2 on.3 one.hold.serves.number
    (one.hold.serves.mine ∙ ap (λ own. f.mine ++ (shifts_where turned f.number ++ own)) one.told.3.0)
    (ap (is_retired c) (shifts_entries turned f.number [])) (shifts_requests turned f.number []) (λ k apart. refl) tt)
    (full_grows c n lanes r full.0 new full.2)

pub full_own : (c n : ℕ) (lanes : List ℕ) (r : Request) (old new : List (Front Note Limits)) → FoundFull lanes r old new
    → ((k : ℕ) (f : Front Note Limits) → slice_get old k ≡ Some f → IsMemberBy c f × IsBelow n f)
    → (k : ℕ) (g : Front Note Limits) → slice_get new k ≡ Some g → IsMemberBy c g × IsBelow n g
full_own c n lanes r old new full own k g at =
    let w = (full_grows c n lanes r old new full).each k g at in
    let o = own k w.0 w.2 in
    let same : requests g.mine ≡ requests w.0.mine = ap requests w.4 ∙ filter_map-append (λ m. request_in m.event) w.0.mine w.1 ∙ ap (λ rs. requests w.0.mine ++ rs) w.6 ∙ append-nil (requests w.0.mine) in
    (member_more c w.0 g w.1 o.0 w.3 w.4 w.5, subst (AllByRecursion (λ (q : Request). q.ordinal < n)) (sym same) o.1)

pub full_locks : (lanes : List ℕ) (r : Request) (old new : List (Front Note Limits)) → FoundFull lanes r old new → locks_of new ≡ locks_of old
full_locks [] r old new same = ap locks_of same
full_locks (lane ∷ lanes) r old new full =
    let on = full.1 in
    full_locks lanes r full.0 new full.2 ∙ on_locks lane old full.0 on.0 on.1 on.2 on.3 on.4

-- the first lanes of the ring were found full
pub record IsPassing (start count k : ℕ) (r : Request) (old cur : List (Front Note Limits)) : Type 0 where
  pub before : List ℕ
  pub split : ring start count ≡ before ++ drop k (ring start count)
  pub full : FoundFull before r old cur

pub passing_none : (start count : ℕ) (r : Request) (old : List (Front Note Limits)) → IsPassing start count 0 r old old
passing_none start count r old = record { before = []; split = refl; full = refl }

split_next : (start count k : ℕ) (before : List ℕ) → k < count → ring start count ≡ before ++ drop k (ring start count) → ring start count ≡ before ++ ((start + k) % count) ∷ drop (k + 1) (ring start count)
split_next start count k before lt split = split ∙ ap (λ lanes. before ++ lanes) (ring_step start count k lt)

full_push : (lanes : List ℕ) (lane : ℕ) (r : Request) (old cur new : List (Front Note Limits)) → FoundFull lanes r old cur → OnLane lane cur new (FullServes r) → FoundFull (lanes ++ lane ∷ []) r old new
full_push [] lane r old cur new same on = (new, subst (λ fs. OnLane lane fs new (FullServes r)) same on, refl)
full_push (l ∷ lanes) lane r old cur new full on = (full.0, full.1, full_push lanes lane r full.0 cur new full.2 on)

pub passing_on : (start count k : ℕ) (r : Request) (old cur new : List (Front Note Limits)) → k < count → IsPassing start count k r old cur → OnLane ((start + k) % count) cur new (FullServes r) → IsPassing start count (k + 1) r old new
passing_on start count k r old cur new lt p on = record {
  before = p.before ++ ((start + k) % count) ∷ [];
  split = split_next start count k p.before lt p.split ∙ sym (append_assoc p.before (((start + k) % count) ∷ []) (drop (k + 1) (ring start count)));
  full = full_push p.before ((start + k) % count) r old cur new p.full on;
}

pub passing_at : (start count k : ℕ) (r : Request) (old cur new : List (Front Note Limits)) (P : Front Note Limits → Front Note Limits → Type 0) → count ≡ length old → k < count → IsPassing start count k r old cur → OnLane ((start + k) % count) cur new P
    → Reaches start r old new ((start + k) % count) P
passing_at start count k r old cur new P size lt p on =
    (p.before, drop (k + 1) (ring start count), cur, ap (ring start) (sym size) ∙ split_next start count k p.before lt p.split, p.full, on)

pub passing_end : (start count k : ℕ) (r : Request) (old cur : List (Front Note Limits)) → count ≡ length old → count ≤ k → IsPassing start count k r old cur → FoundFull (ring start (length old)) r old cur
passing_end start count k r old cur size le p =
    let whole : p.before ≡ ring start (length old) = sym (append-nil p.before) ∙ ap (λ lanes. p.before ++ lanes) (sym (ring_end start count k le)) ∙ sym p.split ∙ ap (ring start) size in
    subst (λ lanes. FoundFull lanes r old cur) whole p.full

-- the lane that comes next is there, and the seat on it may accept
pub next_within : (start count k : ℕ) (r : Request) (old cur : List (Front Note Limits)) → count ≡ length old → k < count → IsPassing start count k r old cur → (start + k) % count < length cur
next_within start count k r old cur size lt p = omega (arith, (full_grows 0 0 p.before r old cur p.full).count, size, mod_below (start + k) count (omega (arith, lt)))

pub next_here : (start count k : ℕ) (r : Request) (old cur : List (Front Note Limits)) (f : Front Note Limits) → count ≡ length old → k < count → IsPassing start count k r old cur → f ≡ get_or cur ((start + k) % count) f → slice_get cur ((start + k) % count) ≡ Some f
next_here start count k r old cur f size lt p at = slice_get_read cur (length cur) ((start + k) % count) f refl (next_within start count k r old cur size lt p) at

pub next_own : (start count k : ℕ) (r : Request) (old cur : List (Front Note Limits)) (f : Front Note Limits) → count ≡ length old → k < count → IsPassing start count k r old cur → f ≡ get_or cur ((start + k) % count) f → LeadUpTo r old → IsMemberBy r.client f × IsBelow r.ordinal f
next_own start count k r old cur f size lt p at own = full_own r.client r.ordinal p.before r old cur p.full own ((start + k) % count) f (next_here start count k r old cur f size lt p at)

pub accepts_grows : (start c n : ℕ) (o : Offer) (old new : List (Front Note Limits)) (lane : ℕ) → AcceptsOn start (request_for c n o) old new lane → Grows c n (record { lane = lane; offer = o } ∷ []) old new
accepts_grows start c n o old new lane a =
    let on = a.5 in
    let f = on.0 in
    let one = on.5 in
    let r = request_for c n o in
    let own = note f.number (event.Accept r) ∷ [] in
    let turned = finds_full one.old (call.Accept f.number r) in
    grows_then c n (record { lane = lane; offer = o } ∷ []) old a.2 new (full_grows c n a.0 r old a.2 a.4)
    (lane_grows c n lane (record { lane = lane; offer = o } ∷ []) a.2 new f on.1 (shifts_where turned f.number ++ own) on.2 on.3 one.hold.serves.number
    (one.hold.serves.mine ∙ ap (λ ns. f.mine ++ (shifts_where turned f.number ++ ns)) one.told.2)
    (ap (is_retired c) (shifts_entries turned f.number own))
    (shifts_requests turned f.number own ∙ ap (λ b. if b then r ∷ [] else []) (sym (eq-eqb lane lane refl)))
    (λ k apart. ap (λ b. if b then r ∷ [] else []) (ne_eqb lane k (λ e. apart (sym e))))
    (slice_get_within a.2 lane f on.2, tt))

pub stops_grows : (c n start : ℕ) (r : Request) (old new : List (Front Note Limits)) (s : SubmitFault) → StopsOn start r old new s → Grows c n [] old new
stops_grows c n start r old new fault.AllFull full = full_grows c n (ring start (length old)) r old new full
stops_grows c n start r old new fault.Spent w =
    let a = w.1 in
    let on = a.5 in
    let same = spent_same on.0 on.1 on.5 in
    grows_then c n [] old a.2 new (full_grows c n a.0 r old a.2 a.4) (same_grows c n a.2 new (lane_same w.0 a.2 new on.0 on.1 on.2 on.3 same.0 same.1))
stops_grows c n start r old new fault.Exhausted w = absurd w

pub refuses : (v : PortView) (o : Offer) (new : List (Front Note Limits)) (s : SubmitFault) → StopsOn (start_of v) (request_of v o) v.fronts new s
    → Refuses v o (record { client = v.client; first = v.first; next = v.next; fronts = new }) s
refuses v o new fault.AllFull w = (w, refl)
refuses v o new fault.Spent w = (w, refl)
refuses v o new fault.Exhausted w = absurd w

pub accepts_locks : (start : ℕ) (r : Request) (old new : List (Front Note Limits)) (lane : ℕ) → AcceptsOn start r old new lane → locks_of new ≡ locks_of old
accepts_locks start r old new lane a =
    let on = a.5 in
    on_locks lane a.2 new on.0 on.1 on.2 on.3 on.4 ∙ full_locks a.0 r old a.2 a.4

pub stops_locks : (start : ℕ) (r : Request) (old new : List (Front Note Limits)) (s : SubmitFault) → StopsOn start r old new s → locks_of new ≡ locks_of old
stops_locks start r old new fault.AllFull full = full_locks (ring start (length old)) r old new full
stops_locks start r old new fault.Spent w =
    let a = w.1 in
    let on = a.5 in
    on_locks w.0 a.2 new on.0 on.1 on.2 on.3 on.4 ∙ full_locks a.0 r old a.2 a.4
stops_locks start r old new fault.Exhausted w = absurd w
