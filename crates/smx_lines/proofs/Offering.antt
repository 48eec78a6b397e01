-- A request that is offered to the lanes.
use Rattle.std.proofs.Common.{◌≡◌, ◌<◌, ◌+◌, ◌%◌, ℕ, zero, suc, List, [], ◌∷◌, ◌++◌, length, get_or, set, refl, sym, ◌∙◌, ap, subst, arith, Option, Some, None, slice_get, codes}
use Rattle.std.specs.Prelude.{is_none, unwrap_or}
use Rattle.std.specs.List.{AllByRecursion, AllZip, find}
use Rattle.std.specs.Fmt.{decimal}
use Rattle.std.proofs.lemmas.List.{map-set}
use Rattle.smx_pdu.specs.declared.pdu.Pdu.{Pdu}
use Rattle.smx_history.specs.declared.request.Request.{Request}
use Rattle.smx_history.specs.declared.note.Note.{Note}
use Rattle.smx_history.specs.declared.telling.Unaccepted.TheVariants.{AllFull}
use Rattle.smx_history.specs.declared.note.Event.TheVariants.{Accept}
use Rattle.smx_history.specs.History.{entry_by, note}
use Rattle.smx_history.specs.Contents.{AgreesWith, Content, content_after}
use Rattle.smx_history.specs.Failures.{refusal_of}
use Rattle.smx_history.specs.Replies.{accept_refusal}
use Rattle.smx_history.proofs.Refusals.{accept_refusal_same}
use Rattle.smx_lines.specs.declared.state.State.{State}
use Rattle.smx_lines.specs.Texts.{text_line, pdu_line, to_client}
use Rattle.smx_lines.specs.declared.state.LinkedLane.{LinkedLane}
use Rattle.smx_lines.specs.declared.state.LinkedClient.{LinkedClient}
use Rattle.smx_lines.specs.Relay.{Relay, client_at, client_of, going_on, history_of, lane_after, lane_at, lane_for, in_turn_at, new_lane, request_of, with_client, with_request}
use Rattle.smx_lines.specs.ClientTurn.{forward, offer_at}
use Rattle.smx_lines.proofs.Offers.{request_named}
use Rattle.smx_lines.specs.Lanes.{IsContentAfter, IsLane, last_in, last_of, lasts}
use Rattle.smx_lines.specs.States.{StandsFor, TurnLeaves}
use Rattle.smx_lines.specs.Private.Lanes.{MayAcceptNext, accepts_in}
use Rattle.smx_lines.proofs.Lanes.{zip-length, zip-set, zip-weaker, find-agree, reordered_on}
use Rattle.smx_history.specs.Ring.{ring}
use Rattle.smx_history.proofs.Ring.{ring_within}
use Rattle.smx_lines.proofs.StateTurns.{lane_is}
use Rattle.smx_lines.proofs.Rows.{rows_below}
use Rattle.smx_lines.proofs.Keeping.{KeepsSettings, kept_routes}
use Rattle.smx_lines.proofs.KnownClients.{client_there, last_at, routes_set}
use Rattle.smx_lines.proofs.OwnNotes.{Grows, own_push, own_grows, grows_set, last_set}

zip-all : {X Y : Type 0} (R : X → Y → Type 0) (Q : Y → Type 0) → ((x : X) (y : Y) → R x y → Q y) → (xs : List X) (ys : List Y) → AllZip R xs ys → AllByRecursion Q ys
zip-all R Q f [] [] z = tt
zip-all R Q f [] (y ∷ ys) z = absurd z
zip-all R Q f (x ∷ xs) [] z = absurd z
zip-all R Q f (x ∷ xs) (y ∷ ys) z = (f x y z.0, zip-all R Q f xs ys z.1)

-- what stands at an index of the first list has its fellow in the second
zip-other : {X Y : Type 0} (R : X → Y → Type 0) (xs : List X) (ys : List Y) (i : ℕ) (d : X) → AllZip R xs ys → i < length xs → (y : Y) × (slice_get ys i ≡ Some y) × R (get_or xs i d) y
zip-other R [] [] i d z lt = absurd (omega arith)
zip-other R [] (y ∷ ys) i d z lt = absurd z
zip-other R (x ∷ xs) [] i d z lt = absurd z
zip-other R (x ∷ xs) (y ∷ ys) zero d z lt = (y, refl, z.0)
zip-other R (x ∷ xs) (y ∷ ys) (suc i) d z lt = zip-other R xs ys i d z.1 (omega arith)

-- what is found in a list stands there
found_at : {X : Type 0} (xs : List X) (i : ℕ) (x : X) → slice_get xs i ≡ Some x → (i < length xs) × (x ≡ get_or xs i x)
found_at [] i x e = absurd (let z : None ≡ Some x = e in cc)
found_at (y ∷ ys) zero x e = (omega arith, let same : y ≡ x = cc in sym same)
found_at (y ∷ ys) (suc i) x e = let w = found_at ys i x e in (omega (arith, w.0), w.1)

-- the last ordinal of a client that there is
known_last : (state : State) (s : Relay) (c n : ℕ) (k : LinkedClient) → StandsFor state s → client_of state.clients.list.items c ≡ Some k → k.last ≡ n → last_of (lasts s.clients) c ≡ Some n
known_last state s c n k a known is_last = last_at s.clients c k (ap (λ (cs : List (Option LinkedClient)). client_of cs c) (sym a.clients) ∙ known) ∙ ap (λ x. Some x) is_last

pub lanes_may_accept : (state : State) (s : Relay) (c n m : ℕ) (k : LinkedClient) → StandsFor state s → client_of state.clients.list.items c ≡ Some k → k.last ≡ n → m ≡ n + 1 → AllByRecursion (MayAcceptNext c m) state.lanes.items
lanes_may_accept state s c n m k a known is_last e =
    let last = known_last state s c n k a known is_last in
    subst (λ x. AllByRecursion (MayAcceptNext c x) state.lanes.items) (sym e)
    (zip-all (IsLane s.limits (lasts s.clients)) (MayAcceptNext c (n + 1)) (λ l v is. rows_below (lasts s.clients) l.history v.lane c n is.on.agrees is.on.own last) s.lanes state.lanes.items a.lanes)

-- the lane that the engine finds is the one that the histories say
lane_same : (state : State) (s : Relay) (c last : ℕ) → StandsFor state s → lane_for s c last ≡ find (λ i. accepts_in c (slice_get state.lanes.items i)) (ring (last % length state.lanes.items) (length state.lanes.items))
unfolding lane_for
lane_same state s c last a =
    let n = length s.lanes in
    let size : n ≡ length state.lanes.items = zip-length (IsLane s.limits (lasts s.clients)) s.lanes state.lanes.items a.lanes in
    find-agree (λ i. i < n) (λ i. is_none (accept_refusal (content_after s.limits (history_of s i)) c)) (λ i. accepts_in c (slice_get state.lanes.items i)) test (ring (last % n) n) (ring_within (last % n) n)
    ∙ ap (λ m. find (λ i. accepts_in c (slice_get state.lanes.items i)) (ring (last % m) m)) size
  where
    test : (i : ℕ) → i < length s.lanes → is_none (accept_refusal (content_after s.limits (history_of s i)) c) ≡ accepts_in c (slice_get state.lanes.items i)
    test i lt =
        let w = zip-other (IsLane s.limits (lasts s.clients)) s.lanes state.lanes.items i new_lane a.lanes lt in
        let same = accept_refusal_same (content_after s.limits (history_of s i)) w.0.lane c (reordered_on s.limits (lasts s.clients) (history_of s i) w.0.lane w.2.on) in
        ap is_none (sym same) ∙ sym (ap (accepts_in c) w.1)

-- what an accept on the lane at an index leaves
pub record IsAccepted (old new : State) (last at : ℕ) (r : Request) (x : LinkedClient) (k : LinkedLane) (after : Content) : Type 0 where
  pub known : client_of old.clients.list.items r.client ≡ Some x
  pub last_is : x.last ≡ last
  pub found : find (λ i. accepts_in r.client (slice_get old.lanes.items i)) (ring (last % length old.lanes.items) (length old.lanes.items)) ≡ Some at
  pub here : slice_get old.lanes.items at ≡ Some k
  pub lanes : new.lanes.items ≡ set old.lanes.items at (record k { lane = after })
  pub limits_kept : after.limits ≡ k.lane.limits
  pub goes : (h : List Note) → AgreesWith h k.lane → AgreesWith (with_request r h) after
  pub clients : new.clients.list.items ≡ set old.clients.list.items r.client (Some (record x { last = r.ordinal }))
  pub keeps : KeepsSettings old new

pub offered_some : (old new : State) (s : Relay) (last at : ℕ) (r : Request) (x : LinkedClient) (k : LinkedLane) (after : Content) (text : List ℕ) → StandsFor old s → r.ordinal ≡ last + 1 → IsAccepted old new last at r x k after
    → text ≡ text_line (codes "accepted " ++ (decimal r.client ++ (codes " " ++ decimal at))) → TurnLeaves (in_turn_at s r (lane_for s r.client last)) new text
offered_some old new s last at r x k after text a next is e =
    let c = r.client in
    let found : lane_for s c last ≡ Some at = lane_same old s c last a ∙ is.found in
    let there = found_at old.lanes.items at k is.here in
    let l = lane_at s at in
    let was = lane_is old s at k a there.0 there.1 in
    let before = lasts s.clients in
    let was_last = known_last old s c last x a is.known is.last_is in
    let clients = set before c (Some r.ordinal) in
    let grows : Grows before clients = subst (λ n. Grows before (set before c (Some n))) (sym next) (grows_set before c last was_last) in
    let own = own_push clients l.history (note 0 (Accept r)) (entry_by 0 (Accept r)) refl (own_grows before clients l.history grows was.on.own)
    (record { by = refl; known = λ accept. omega (arith, ap (λ o. unwrap_or o 0) (last_set before c last r.ordinal was_last)) }) in
    let longer : IsContentAfter s.limits clients (with_request r l.history) after = record { agrees = is.goes l.history was.on.agrees; limits_are = is.limits_kept ∙ was.on.limits_are; own = own } in
    let R = IsLane s.limits clients in
    let on : R (lane_after (with_request r) l) (record k { lane = after }) = record { on = longer; link_is = was.link_is } in
    let weaker = zip-weaker (IsLane s.limits before) R (λ g v y. record { on = record { agrees = y.on.agrees; limits_are = y.on.limits_are; own = own_grows before clients g.history grows y.on.own }; link_is = y.link_is }) s.lanes old.lanes.items a.lanes in
    let lanes : AllZip R (set s.lanes at (lane_after (with_request r) l)) new.lanes.items =
    subst (λ ls. AllZip R (set s.lanes at (lane_after (with_request r) l)) ls) (sym is.lanes) (zip-set R s.lanes old.lanes.items at (lane_after (with_request r) l) (record k { lane = after }) weaker on) in
    let known : client_of s.clients c ≡ Some x = ap (λ (cs : List (Option LinkedClient)). client_of cs c) (sym a.clients) ∙ is.known in
    let after_it : LinkedClient = record x { last = r.ordinal } in
    let now = set s.clients c (Some after_it) in
    let there : AllZip (IsLane s.limits (lasts now)) (set s.lanes at (lane_after (with_request r) l)) new.lanes.items =
    subst (λ cs. AllZip (IsLane s.limits cs) (set s.lanes at (lane_after (with_request r) l)) new.lanes.items) (sym (map-set last_in s.clients c (Some after_it))) lanes in
    let left : StandsFor new (with_client (going_on s at (with_request r)) c after_it) = record {
      limits = is.keeps.limits ∙ a.limits;
      count = is.keeps.count ∙ a.count;
      started = is.keeps.started ∙ a.started;
      moment = is.keeps.moment ∙ a.moment;
      clients = is.clients ∙ ap (λ (cs : List (Option LinkedClient)). set cs c (Some after_it)) a.clients;
      lanes = there;
      none_yet = λ off. ap (λ ls. set ls at (lane_after (with_request r) l)) (a.none_yet off);
      routes = kept_routes old new now s.accounts s.places s.routes is.keeps (routes_set old s.clients c after_it s.accounts s.places s.routes a.routes);
    } in
    rw found (record {
      text = e;
      left = subst (λ (y : LinkedClient). StandsFor new (with_client (going_on s at (with_request r)) c (record y { last = r.ordinal }))) (sym (client_there s c x known)) left;
    })

pub offered_none : (old new : State) (s : Relay) (last : ℕ) (r : Request) (p : Pdu) (text : List ℕ) → StandsFor old s → find (λ i. accepts_in r.client (slice_get old.lanes.items i)) (ring (last % length old.lanes.items) (length old.lanes.items)) ≡ None
    → new.lanes.items ≡ old.lanes.items → new.clients.list.items ≡ old.clients.list.items → KeepsSettings old new
    → p ≡ refusal_of AllFull r.command r.own → text ≡ pdu_line (to_client r.client) p → TurnLeaves (in_turn_at s r (lane_for s r.client last)) new text
offered_none old new s last r p text a none lanes clients keeps is e =
    let found : lane_for s r.client last ≡ None = lane_same old s r.client last a ∙ none in
    rw found (record {
      text = e ∙ ap (pdu_line (to_client r.client)) is;
      left = record {
        limits = keeps.limits ∙ a.limits;
        count = keeps.count ∙ a.count;
        started = keeps.started ∙ a.started;
        moment = keeps.moment ∙ a.moment;
        clients = clients ∙ a.clients;
        lanes = rw lanes a.lanes;
        none_yet = a.none_yet;
        routes = kept_routes old new s.clients s.accounts s.places s.routes keeps a.routes;
      };
    })

-- a PDU that is passed on
pub forwarded : (s : Relay) (c last : ℕ) (p : Pdu) (r : Request) (state : State) (text : List ℕ) → (client_at s c).last ≡ last → request_of c (last + 1) p ≡ Some r → TurnLeaves (in_turn_at s r (lane_for s r.client last)) state text → TurnLeaves (forward c p s) state text
unfolding forward
forwarded s c last p r state text is_last is turned =
    let named = request_named c (last + 1) p r is in
    let here : TurnLeaves (offer_at s c last (request_of c (last + 1) p)) state text = rw is (subst (λ d. TurnLeaves (in_turn_at s r (lane_for s d last)) state text) named.0 turned) in
    subst (λ n. TurnLeaves (offer_at s c n (request_of c (n + 1) p)) state text) (sym is_last) here

-- one that isn't
pub dropped : (s : Relay) (c last : ℕ) (p : Pdu) (state : State) (text : List ℕ) → (client_at s c).last ≡ last → request_of c (last + 1) p ≡ None → StandsFor state s → text ≡ [] → TurnLeaves (forward c p s) state text
unfolding forward
dropped s c last p state text is_last none a e =
    let here : TurnLeaves (offer_at s c last (request_of c (last + 1) p)) state text = rw none (record { text = e; left = a }) in
    subst (λ n. TurnLeaves (offer_at s c n (request_of c (n + 1) p)) state text) (sym is_last) here
