-- What a port keeps, when notes are added to its fronts.
use Rattle.std.proofs.Common.{◌≡◌, ◌≢◌, ◌<◌, ◌≤◌, ◌+◌, ◌==◌, ◌^◌, ◌||◌, ◌&&◌, ℕ, Bool, true, false, List, [], ◌∷◌, ◌++◌, length, set, slice_get, Option, Some, None, Ok, Err, Result, refl, sym, ◌∙◌, ap, subst, arith, inl, inr, length-append, append_assoc, if◌then◌else◌}
use Rattle.std.specs.List.{AllByRecursion}
use Rattle.std.proofs.lemmas.List.{append-nil, length-set}
use Rattle.std.proofs.lemmas.List.Elements.{filter_map-append}
use Rattle.std.proofs.lemmas.List.Folds.{list_any-append}
use Rattle.std.proofs.lemmas.Bool.{cases_eq}
use Rattle.std.proofs.lemmas.Option.{slice_get_within, get_or_from_slice_get}
use Rattle.std.proofs.Math.Seq.{map-set_same}
use Rattle.smx_lock.specs.Fronts.{Front, IsSpent, Refused}
use Rattle.smx_lock.specs.declared.faults.TryFault as tries
use Rattle.smx_lock.specs.declared.faults.TryFault.TheVariants as try
use Rattle.smx_history.specs.declared.limits.Limits.{Limits}
use Rattle.smx_history.specs.declared.note.Note.{Note}
use Rattle.smx_history.specs.declared.request.Request.{Request}
use Rattle.smx_history.specs.declared.note.Event.TheVariants as event
use Rattle.smx_history.specs.Entries.{is_admit, is_retire, is_admitted, is_retired}
use Rattle.smx_history.proofs.Reading.{entries_of-append}
use Rattle.smx_history.specs.History.{entries_of, note, request_in, requests}
use Rattle.smx_history.proofs.ListPushes.{any_kept}
use Rattle.smx_shared.specs.Views.{PortView, locks_of}
use Rattle.smx_shared.specs.Offers.{Accepted, requests_on, request_for}
use Rattle.smx_shared.specs.Ports.{IsMemberBy, IsPort, HasAccepted}
use Rattle.smx_shared.specs.Steps.{IsBelow}
use Rattle.smx_lane.specs.declared.call.Call.{Call}
use Rattle.smx_lane.specs.declared.call.Reply.{Reply}
use Rattle.smx_shared.specs.Roomy.{shifts_before}
use Rattle.smx_shared.specs.Serving.{CallServes, CollectServes, Waited, Tried}
use Rattle.smx_pdu.specs.declared.pdu.Pdu.{Pdu}
use Rattle.smx_lock.specs.declared.faults.Spent as spent
use Rattle.smx_shared.specs.declared.batch.Collected.{Collected}
use Rattle.smx_shared.specs.Batches.{CollectsServe}
use Rattle.smx_shared.proofs.ListServing.{collects_quiet}
use Rattle.smx_shared.proofs.Lists.{All-both}
use Rattle.smx_shared.proofs.Passing.{got_same, got_other, some_same}

-- each front has more notes, which retire no one and accept what stands here for its lane, numbered from n on
pub record Grows (c n : ℕ) (named : List Accepted) (old new : List (Front Note Limits)) : Type 0 where
  pub count : length new ≡ length old
  pub each : (k : ℕ) (g : Front Note Limits) → slice_get new k ≡ Some g → (f : Front Note Limits) × (ns : List Note) × (slice_get old k ≡ Some f)
      × (g.number ≡ f.number) × (g.mine ≡ f.mine ++ ns) × (is_retired c (entries_of ns) ≡ false)
      × (requests ns ≡ requests_on k c n named)
  pub within : AllByRecursion (λ a. a.lane < length old) named

pub entries_more : (a b : List Note) → entries_of (a ++ b) ≡ entries_of a ++ entries_of b
entries_more a b = entries_of-append a b

pub none_both : (a b : Bool) → a ≡ false → b ≡ false → (a || b) ≡ false
none_both true b h g = cc
none_both false b h g = g

-- first no accept, and then those that stand here
pub grows_then : (c n : ℕ) (named : List Accepted) (a b d : List (Front Note Limits)) → Grows c n [] a b → Grows c n named b d → Grows c n named a d
grows_then c n named a b d s w = record {
  count = w.count ∙ s.count;
  each = λ k g at.
      let u = w.each k g at in
      let t = s.each k u.0 u.2 in (
        t.0,
        t.1 ++ u.1,
        t.2,
        u.3 ∙ t.3,
        u.4 ∙ ap (λ m. m ++ u.1) t.4 ∙ append_assoc t.0.mine t.1 u.1,
        ap (is_retired c) (entries_more t.1 u.1) ∙ list_any-append (λ e. is_retire e.kind && (e.client == c)) (entries_of t.1) (entries_of u.1) ∙ none_both _ _ t.5 u.5,
        filter_map-append (λ m. request_in m.event) t.1 u.1 ∙ ap (λ rs. rs ++ requests u.1) t.6 ∙ u.6,
      );
  within = subst (λ z. AllByRecursion (λ (x : Accepted). x.lane < z) named) s.count w.within;
}

-- the fronts have the same notes
pub record SameNotes (old new : List (Front Note Limits)) : Type 0 where
  pub count : length new ≡ length old
  pub each : (k : ℕ) (g : Front Note Limits) → slice_get new k ≡ Some g → (f : Front Note Limits) × (slice_get old k ≡ Some f) × (g.number ≡ f.number) × (g.mine ≡ f.mine)

pub same_grows : (c n : ℕ) (old new : List (Front Note Limits)) → SameNotes old new → Grows c n [] old new
same_grows c n old new s = record {
  count = s.count;
  each = λ k g at. let w = s.each k g at in (w.0, [], w.1, w.2, w.3 ∙ sym (append-nil w.0.mine), refl, refl);
  within = tt;
}

-- a hold with no note leaves the seat's own as they were
pub stays_mine : (f g : Front Note Limits) (c : Call) (r : Reply) → (h : CallServes f g c r) → shifts_before f.number h.old c ++ h.own ≡ [] → g.mine ≡ f.mine
stays_mine f g c r h none = h.hold.serves.mine ∙ ap (λ own. f.mine ++ own) none ∙ append-nil f.mine

-- one front has more notes
pub lane_grows : (c n lane : ℕ) (named : List Accepted) (old new : List (Front Note Limits)) (f g : Front Note Limits) (ns : List Note) → slice_get old lane ≡ Some f → new ≡ set old lane g
    → g.number ≡ f.number → g.mine ≡ f.mine ++ ns → is_retired c (entries_of ns) ≡ false → requests ns ≡ requests_on lane c n named
    → ((k : ℕ) → k ≢ lane → requests_on k c n named ≡ []) → AllByRecursion (λ a. a.lane < length old) named → Grows c n named old new
lane_grows c n lane named old new f g ns at is number mine stays own others within = subst (Grows c n named old) (sym is) record {
  count = length-set old lane g;
  each = λ k x now. elim (cases_eq k lane) [
    | inl here ↦
        let new : x ≡ g = some_same x g (sym now ∙ ap (slice_get (set old lane g)) here ∙ got_same old lane g (slice_get_within old lane f at)) in
        (f, ns, ap (slice_get old) here ∙ at, ap (λ z. z.number) new ∙ number, ap (λ z. z.mine) new ∙ mine, stays, own ∙ ap (λ i. requests_on i c n named) (sym here))
    | inr apart ↦ (x, [], sym (got_other old lane k g apart) ∙ now, refl, sym (append-nil x.mine), refl, sym (others k apart))
  ];
  within = within;
}

pub member_more : (c : ℕ) (f g : Front Note Limits) (ns : List Note) → IsMemberBy c f → g.number ≡ f.number → g.mine ≡ f.mine ++ ns → is_retired c (entries_of ns) ≡ false → IsMemberBy c g
member_more c f g ns m number mine stays =
    let is : entries_of g.mine ≡ entries_of f.mine ++ entries_of ns = ap entries_of mine ∙ entries_more f.mine ns in
    record {
      admitted = ap (λ es. is_admitted g.number c es) is ∙ ap (λ k. is_admitted k c (entries_of f.mine ++ entries_of ns)) number
          ∙ any_kept (λ e. is_admit e.kind && ((e.client == c) && (e.by == f.number))) (entries_of f.mine) (entries_of ns) m.admitted;
      stays = ap (is_retired c) is ∙ list_any-append (λ e. is_retire e.kind && (e.client == c)) (entries_of f.mine) (entries_of ns) ∙ none_both _ _ m.stays stays;
    }

pub requests_more : (k c n : ℕ) (xs ys : List Accepted) → requests_on k c n (xs ++ ys) ≡ requests_on k c n xs ++ requests_on k c (n + length xs) ys
requests_more k c n [] ys = ap (λ i. requests_on k c i ys) (omega arith)
requests_more k c n (a ∷ xs) ys = requests_more_at (a.lane == k) (requests_more k c (n + 1) xs ys ∙ ap (λ i. requests_on k c (n + 1) xs ++ requests_on k c i ys) (omega arith))
  where
    requests_more_at : (b : Bool) → requests_on k c (n + 1) (xs ++ ys) ≡ requests_on k c (n + 1) xs ++ requests_on k c (n + length (a ∷ xs)) ys
        → (if b then request_for c n a.offer ∷ requests_on k c (n + 1) (xs ++ ys) else requests_on k c (n + 1) (xs ++ ys)) ≡ (if b then request_for c n a.offer ∷ requests_on k c (n + 1) xs else requests_on k c (n + 1) xs) ++ requests_on k c (n + length (a ∷ xs)) ys
    requests_more_at true h = ap (λ zs. request_for c n a.offer ∷ zs) h
    requests_more_at false h = h

-- the accepts of a port after its fronts grew
pub accepted_more : (v : PortView) (named all : List Accepted) (new : List (Front Note Limits)) → HasAccepted v all → Grows v.client v.next named v.fronts new
    → HasAccepted (record { client = v.client; first = v.first; next = v.next + length named; fronts = new }) (all ++ named)
accepted_more v named all new has grows = record {
  count = omega (arith, length-append all named, has.count);
  lanes = subst (λ z. AllByRecursion (λ (a : Accepted). a.lane < z) (all ++ named)) (sym grows.count) (All-both (λ a. a.lane < length v.fronts) all named has.lanes grows.within);
  each = λ k g at.
      let w = grows.each k g at in
      ap requests w.4
      ∙ filter_map-append (λ m. request_in m.event) w.0.mine w.1
      ∙ ap (λ xs. xs ++ requests w.1) (has.each k w.0 w.2)
      ∙ ap (λ xs. requests_on k v.client v.first all ++ xs) (w.6 ∙ ap (λ i. requests_on k v.client i named) (sym has.count))
      ∙ sym (requests_more k v.client v.first all named);
}

-- a port after its fronts grew
pub port_grows : (v : PortView) (named : List Accepted) (new : List (Front Note Limits)) → IsPort v → Grows v.client v.next named v.fronts new → v.next + length named ≤ 2 ^ 62 + 1
    → IsPort (record { client = v.client; first = v.first; next = v.next + length named; fronts = new })
port_grows v named new port grows top = record {
  lanes = (omega (arith, port.lanes.0, grows.count), omega (arith, port.lanes.1, grows.count));
  ordinals = (port.ordinals.0, top);
  member = λ k g at. let w = grows.each k g at in member_more v.client w.0 g w.1 (port.member k w.0 w.2) w.3 w.4 w.5;
  accepts = (port.accepts.0 ++ named, accepted_more v named port.accepts.0 new port.accepts.1 grows);
}

requests_below : (k c n : ℕ) (xs : List Accepted) → AllByRecursion (λ r. r.ordinal < n + length xs) (requests_on k c n xs)
requests_below k c n [] = tt
requests_below k c n (a ∷ xs) = requests_below_at (a.lane == k) (subst (λ t. AllByRecursion (λ (r : Request). r.ordinal < t) (requests_on k c (n + 1) xs)) (omega arith) (requests_below k c (n + 1) xs))
  where
    requests_below_at : (b : Bool) → AllByRecursion (λ (r : Request). r.ordinal < n + length (a ∷ xs)) (requests_on k c (n + 1) xs)
        → AllByRecursion (λ (r : Request). r.ordinal < n + length (a ∷ xs)) (if b then request_for c n a.offer ∷ requests_on k c (n + 1) xs else requests_on k c (n + 1) xs)
    requests_below_at true h = (omega arith, h)
    requests_below_at false h = h

pub port_below : (v : PortView) (k : ℕ) (f : Front Note Limits) → IsPort v → slice_get v.fronts k ≡ Some f → IsBelow v.next f
port_below v k f port at =
    subst (AllByRecursion (λ (r : Request). r.ordinal < v.next)) (sym (port.accepts.1.each k f at))
    (subst (λ t. AllByRecursion (λ (r : Request). r.ordinal < t) (requests_on k v.client v.first port.accepts.0)) port.accepts.1.count (requests_below k v.client v.first port.accepts.0))

-- a port whose fronts have no more accepts
pub accepted_quiet : (v : PortView) (all : List Accepted) (new : List (Front Note Limits)) → HasAccepted v all → Grows v.client v.next [] v.fronts new
    → HasAccepted (record { client = v.client; first = v.first; next = v.next; fronts = new }) all
accepted_quiet v all new has grows =
    let zero : v.next + length {A = Accepted} [] ≡ v.next = omega arith in
    subst (HasAccepted (record { client = v.client; first = v.first; next = v.next; fronts = new })) (append-nil all)
    (subst (λ n. HasAccepted (record { client = v.client; first = v.first; next = n; fronts = new }) (all ++ [])) zero (accepted_more v [] all new has grows))

-- where nothing was accepted nothing joins the list
pub accepted_none : (v : PortView) (all : List Accepted) → HasAccepted v all → HasAccepted v (all ++ [])
accepted_none v all has = subst (HasAccepted v) (sym (append-nil all)) has

pub spent_same : (f g : Front Note Limits) → IsSpent f g → (g.number ≡ f.number) × (g.mine ≡ f.mine)
spent_same f g s = elim s [
  | inl e ↦ (ap (λ z. z.number) e, ap (λ z. z.mine) e)
  | inr e ↦ (ap (λ z. z.number) e, ap (λ z. z.mine) e)
]

pub lane_same : (lane : ℕ) (old new : List (Front Note Limits)) (f g : Front Note Limits) → slice_get old lane ≡ Some f → new ≡ set old lane g
    → g.number ≡ f.number → g.mine ≡ f.mine → SameNotes old new
lane_same lane old new f g at is number mine = subst (SameNotes old) (sym is) record {
  count = length-set old lane g;
  each = λ k x now. elim (cases_eq k lane) [
    | inl here ↦
        let new : x ≡ g = some_same x g (sym now ∙ ap (slice_get (set old lane g)) here ∙ got_same old lane g (slice_get_within old lane f at)) in
        (f, ap (slice_get old) here ∙ at, ap (λ z. z.number) new ∙ number, ap (λ z. z.mine) new ∙ mine)
    | inr apart ↦ (x, sym (got_other old lane k g apart) ∙ now, refl, refl)
  ];
}

pub collect_grows : (c n lane : ℕ) (old new : List (Front Note Limits)) (f g : Front Note Limits) (res : Result (Option Pdu) spent.Spent) → slice_get old lane ≡ Some f → new ≡ set old lane g
    → Waited (CollectServes f g c) f g res → Grows c n [] old new
collect_grows c n lane old new f g (Ok None) at is w = same_grows c n old new (lane_same lane old new f g at is w.hold.serves.number (stays_mine f g _ _ w w.told.2.0))
collect_grows c n lane old new f g (Ok (Some p)) at is w =
    lane_grows c n lane [] old new f g (note f.number (event.Collect c w.told.1.ordinal) ∷ []) at is w.hold.serves.number (w.hold.serves.mine ∙ ap (λ own. f.mine ++ own) w.told.4) refl refl (λ k apart. refl) tt
collect_grows c n lane old new f g (Err s) at is w =
    let same = spent_same f g w in same_grows c n old new (lane_same lane old new f g at is same.0 same.1)

-- so it is with a list of collects
pub collects_grow : (c n lane : ℕ) (old new : List (Front Note Limits)) (f g : Front Note Limits) (res : Result Collected spent.Spent) → slice_get old lane ≡ Some f → new ≡ set old lane g
    → Waited (CollectsServe f g c) f g res → Grows c n [] old new
collects_grow c n lane old new f g (Ok b) at is w =
    let s = w.serves in
    let quiet = collects_quiet f.number c b.responses.items b.more s.own s.old s.new s.told in
    lane_grows c n lane [] old new f g s.own at is s.hold.serves.number s.hold.serves.mine quiet.0 quiet.1 (λ k apart. refl) tt
collects_grow c n lane old new f g (Err s) at is w =
    let same = spent_same f g w in same_grows c n old new (lane_same lane old new f g at is same.0 same.1)

pub port_quiet : (v : PortView) (new : List (Front Note Limits)) → IsPort v → Grows v.client v.next [] v.fronts new → IsPort (record { client = v.client; first = v.first; next = v.next; fronts = new })
port_quiet v new port grows =
    let zero : v.next + length {A = Accepted} [] ≡ v.next = omega arith in
    subst (λ n. IsPort (record { client = v.client; first = v.first; next = n; fronts = new })) zero (port_grows v [] new port grows (omega (arith, port.ordinals.1)))

refused_same : (f g : Front Note Limits) (e : tries.TryFault) → Refused f g e → (g.number ≡ f.number) × (g.mine ≡ f.mine)
refused_same f g try.Spent s = spent_same f g s
refused_same f g try.Busy s = (ap (λ z. z.number) s.0, ap (λ z. z.mine) s.0)

pub try_collect_grows : (c n lane : ℕ) (old new : List (Front Note Limits)) (f g : Front Note Limits) (res : Result (Option Pdu) tries.TryFault) → slice_get old lane ≡ Some f → new ≡ set old lane g
    → Tried (CollectServes f g c) f g res → Grows c n [] old new
try_collect_grows c n lane old new f g (Ok x) at is w = collect_grows c n lane old new f g (Ok x) at is w
try_collect_grows c n lane old new f g (Err e) at is w =
    let same = refused_same f g e w in same_grows c n old new (lane_same lane old new f g at is same.0 same.1)

pub on_locks : (lane : ℕ) (old new : List (Front Note Limits)) (f g : Front Note Limits) → slice_get old lane ≡ Some f → new ≡ set old lane g → g.lock ≡ f.lock → locks_of new ≡ locks_of old
on_locks lane old new f g at is lock = ap locks_of is ∙ map-set_same (λ x. x.lock) old lane g f (lock ∙ ap (λ x. x.lock) (sym (get_or_from_slice_get old lane f f at)))
