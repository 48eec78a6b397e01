-- Turns of one lane, as turns of the whole state.
use Rattle.std.proofs.Common.{◌≡◌, ◌<◌, ◌≤◌, ℕ, true, false, List, length, set, get_or, refl, sym, ◌∙◌, ap, subst, arith, Option, Some, None, Result, Ok, Err, IfOk}
use Rattle.std.specs.Global.{Vec}
use Rattle.std.specs.List.{AllZip}
use Rattle.std.proofs.lemmas.Bool.{lt-ltb, le-ltb}
use Rattle.smx_pdu.specs.declared.pdu.Pdu.{Pdu}
use Rattle.smx_history.specs.declared.note.Note.{Note}
use Rattle.smx_history.specs.declared.place.Place.{Place}
use Rattle.smx_history.specs.Prefixes.{SameCounts}
use Rattle.smx_history.specs.Contents.{AgreesWith, Content}
use Rattle.smx_lines.specs.declared.state.State.{State}
use Rattle.smx_lines.specs.declared.state.LinkedLane.{LinkedLane}
use Rattle.smx_lines.specs.Relay.{Relay, going_on, has_lane, history_of, lane_after, lane_at, lane_turn, new_lane, known_lane_turn, take_on, back_on, history_on, turn_on}
use Rattle.smx_lines.specs.Turns.{AreExpiredOn, ExpireTurn, IsFreeNumber, TakeTurn}
use Rattle.smx_lines.specs.Expiring.{expire_on, expired_after}
use Rattle.smx_lines.specs.Lanes.{IsLane, AreOwnEntries, lasts}
use Rattle.smx_lines.specs.States.{StandsFor, MayPrint, Prints, TurnLeaves}
use Rattle.smx_lines.specs.Private.Lanes.{TurnsLane}
use Rattle.smx_lines.proofs.Lanes.{zip-length, zip-at, zip-set, lane_goes}
use Rattle.smx_lines.proofs.OwnNotes.{own_take, own_back, own_expired, own_turn}
use Rattle.smx_lines.proofs.Expiring.{ExpiresLane}
use Rattle.smx_lines.proofs.FreeNumbers.{some_free}
use Rattle.smx_lines.proofs.Placing.{placed_at, stands_placed}
use Rattle.smx_lines.proofs.Keeping.{KeepsSettings, kept_routes}

-- there is no such lane
pub no_lane_at : (old : State) (s : Relay) (i : ℕ) → StandsFor old s → length old.lanes.items ≤ i → has_lane s i ≡ false
no_lane_at old s i a past = le-ltb i (length s.lanes) (omega (arith, zip-length (IsLane s.limits (lasts s.clients)) s.lanes old.lanes.items a.lanes))

pub a_lane_at : (old : State) (s : Relay) (i : ℕ) → StandsFor old s → i < length old.lanes.items → has_lane s i ≡ true
a_lane_at old s i a within = lt-ltb i (length s.lanes) (omega (arith, zip-length (IsLane s.limits (lasts s.clients)) s.lanes old.lanes.items a.lanes))

pub no_lane : (old new : State) (s : Relay) (i : ℕ) (f : List Note → List ℕ × List Note) → StandsFor old s → length old.lanes.items ≤ i → Prints (known_lane_turn s i f) new None
no_lane old new s i f a past = rw (no_lane_at old s i a past) tt

-- the lane at the index went on
pub record GoesOnAt (old new : State) (i : ℕ) (k : LinkedLane) (after : Content) : Type 0 where
  pub within : i < length old.lanes.items
  pub here : k ≡ get_or old.lanes.items i k
  pub lanes : new.lanes.items ≡ set old.lanes.items i (record k { lane = after })
  pub clients : new.clients.list.items ≡ old.clients.list.items
  pub keeps : KeepsSettings old new

-- the lane at the index has its history and its link
pub lane_is : (old : State) (s : Relay) (i : ℕ) (k : LinkedLane) → StandsFor old s → i < length old.lanes.items → k ≡ get_or old.lanes.items i k → IsLane s.limits (lasts s.clients) (lane_at s i) k
lane_is old s i k a within here =
    subst (IsLane s.limits (lasts s.clients) (lane_at s i)) (sym here) (zip-at (IsLane s.limits (lasts s.clients)) s.lanes old.lanes.items i new_lane k a.lanes within)

-- its history went on
pub goes_on : (old new : State) (s : Relay) (i : ℕ) (f : List Note → List Note) (k : LinkedLane) (after : Content) → StandsFor old s → GoesOnAt old new i k after → AgreesWith (f (history_of s i)) after → after.limits ≡ k.lane.limits → AreOwnEntries (lasts s.clients) (f (history_of s i)) → StandsFor new (going_on s i f)
goes_on old new s i f k after a is agrees limits own =
    let R = IsLane s.limits (lasts s.clients) in
    let l = lane_at s i in
    let was = lane_is old s i k a is.within is.here in
    let on : R (lane_after f l) (record k { lane = after }) = lane_goes s.limits (lasts s.clients) f l k after was (record { agrees = agrees; limits_are = limits ∙ was.on.limits_are; own = own }) in
    let lanes : AllZip R (set s.lanes i (lane_after f l)) new.lanes.items =
    subst (λ ls. AllZip R (set s.lanes i (lane_after f l)) ls) (sym is.lanes) (zip-set R s.lanes old.lanes.items i (lane_after f l) (record k { lane = after }) a.lanes on) in
    record {
      limits = is.keeps.limits ∙ a.limits;
      count = is.keeps.count ∙ a.count;
      started = is.keeps.started ∙ a.started;
      moment = is.keeps.moment ∙ a.moment;
      clients = is.clients ∙ a.clients;
      lanes = lanes;
      none_yet = λ off. ap (λ ls. set ls i (lane_after f l)) (a.none_yet off);
      routes = kept_routes old new s.clients s.accounts s.places s.routes is.keeps a.routes;
    }

turn_goes : (old new : State) (s : Relay) (i : ℕ) (f : List Note → List ℕ × List Note) (k : LinkedLane) (after : Content) (text : List ℕ) → StandsFor old s → GoesOnAt old new i k after → TurnsLane (f (history_of s i)) k.lane after text → AreOwnEntries (lasts s.clients) (f (history_of s i)).1 → TurnLeaves (lane_turn s i f) new text
turn_goes old new s i f k after text a is turns own =
    record { text = turns.text; left = goes_on old new s i (λ h. (f h).1) k after a is turns.agrees turns.limits_are own }

pub lane_turned : (old new : State) (s : Relay) (i : ℕ) (f : List Note → List ℕ × List Note) (k : LinkedLane) (after : Content) (text : Vec ℕ) → StandsFor old s → GoesOnAt old new i k after → TurnsLane (f (history_of s i)) k.lane after text.items → AreOwnEntries (lasts s.clients) (f (history_of s i)).1 → Prints (known_lane_turn s i f) new (Some text)
lane_turned old new s i f k after text a is turns own = rw (a_lane_at old s i a is.within) (turn_goes old new s i f k after text.items a is turns own)

-- a request is taken
abbrev pub Takes : Relay → ℕ → State → Option (Vec ℕ) → Type 0
Takes s i new text = (u : ℕ) × IsFreeNumber (history_of s i) u × Prints (known_lane_turn s i (take_on s.limits s.moment u i)) new text

pub take_turns : (s : Relay) (i : ℕ) (new : State) (text : Option (Vec ℕ)) → Takes s i new text → MayPrint (TakeTurn s i) new text
take_turns s i new text takes = (known_lane_turn s i (take_on s.limits s.moment takes.0 i), (takes.0, takes.1, refl), takes.2)

pub takes_none : (old new : State) (s : Relay) (i : ℕ) → StandsFor old s → length old.lanes.items ≤ i → Takes s i new None
takes_none old new s i a past =
    let u = some_free (history_of s i) (placed_at s.lanes i (stands_placed old s a)) in
    (u.0, u.1, no_lane old new s i (take_on s.limits s.moment u.0 i) a past)

-- the lane gave some free number
pub takes_some : (old new : State) (s : Relay) (i : ℕ) (k : LinkedLane) (after : Content) (text : Vec ℕ) → StandsFor old s → GoesOnAt old new i k after
    → ((h : List Note) → AgreesWith h k.lane → (n : ℕ) × IsFreeNumber h n × TurnsLane (take_on k.lane.limits old.moment n i h) k.lane after text.items) → Takes s i new (Some text)
takes_some old new s i k after text a is goes =
    let h = history_of s i in
    let on = (lane_is old s i k a is.within is.here).on in
    let t = goes h on.agrees in
    let here : TurnsLane (take_on s.limits old.moment t.0 i h) k.lane after text.items = subst (λ l. TurnsLane (take_on l old.moment t.0 i h) k.lane after text.items) on.limits_are t.2 in
    let turns : TurnsLane (take_on s.limits s.moment t.0 i h) k.lane after text.items = subst (λ m. TurnsLane (take_on s.limits m t.0 i h) k.lane after text.items) a.moment here in
    (t.0, t.1, lane_turned old new s i (take_on s.limits s.moment t.0 i) k after text a is turns (own_take (lasts s.clients) s.limits s.moment t.0 i h on.own))

-- what was taken so long ago has failed
abbrev pub ExpiresOn : Relay → ℕ → ℕ → State → Option (Vec ℕ) → Type 0
ExpiresOn s i age new text = (qs : List Place) × AreExpiredOn s i age qs × Prints (known_lane_turn s i (expire_on i qs)) new text

pub expire_turns : (s : Relay) (i age : ℕ) (new : State) (text : Option (Vec ℕ)) → ExpiresOn s i age new text → MayPrint (ExpireTurn s i age) new text
expire_turns s i age new text expires = (known_lane_turn s i (expire_on i expires.0), (expires.0, expires.1, refl), expires.2)

-- some requests are all those that fail
pub some_expired_on : (s : Relay) (i age : ℕ) → (qs : List Place) × AreExpiredOn s i age qs
some_expired_on s i age = (expired_after s.moment age (history_of s i), λ test. refl)

pub expires_nowhere : (old new : State) (s : Relay) (i age : ℕ) → StandsFor old s → length old.lanes.items ≤ i → ExpiresOn s i age new None
expires_nowhere old new s i age a past =
    let qs = some_expired_on s i age in
    (qs.0, qs.1, no_lane old new s i (expire_on i qs.0) a past)

pub expires_on : (old new : State) (s : Relay) (i age : ℕ) (k : LinkedLane) (after : Content) (text : Vec ℕ) → StandsFor old s → GoesOnAt old new i k after → ExpiresLane i old.moment age k.lane after text.items → ExpiresOn s i age new (Some text)
expires_on old new s i age k after text a is goes =
    let h = history_of s i in
    let on = (lane_is old s i k a is.within is.here).on in
    let t = goes h on.agrees in
    let counts : SameCounts (expired_after s.moment age h) t.0 = subst (λ m. SameCounts (expired_after m age h) t.0) a.moment t.1 in
    (t.0, counts, lane_turned old new s i (expire_on i t.0) k after text a is t.2 (own_expired (lasts s.clients) i t.0 h on.own))

-- a response's turn
pub backs : {E : Type 0} (old new : State) (s : Relay) (i : ℕ) (p : Pdu) (k : LinkedLane) (after : Content) (result : Result (Vec ℕ) E) → StandsFor old s → GoesOnAt old new i k after
    → ((h : List Note) → AgreesWith h k.lane → IfOk result (λ text. TurnsLane (back_on p h) k.lane after text.items)) → IfOk result (λ text. TurnLeaves (lane_turn s i (back_on p)) new text.items)
backs old new s i p k after (Ok text) a is goes =
    let on = (lane_is old s i k a is.within is.here).on in
    turn_goes old new s i (back_on p) k after text.items a is (goes (history_of s i) on.agrees) (own_back (lasts s.clients) p (history_of s i) on.own)
backs old new s i p k after (Err e) a is goes = tt

history_own : (clients : List (Option ℕ)) (h : List Note) → AreOwnEntries clients h → AreOwnEntries clients (history_on h).1
unfolding history_on
history_own clients h own = own

pub history_some : (old new : State) (s : Relay) (i : ℕ) (k : LinkedLane) (after : Content) (text : Vec ℕ) → StandsFor old s → GoesOnAt old new i k after
    → ((h : List Note) → AgreesWith h k.lane → TurnsLane (history_on h) k.lane after text.items) → Prints (known_lane_turn s i history_on) new (Some text)
history_some old new s i k after text a is goes =
    let on = (lane_is old s i k a is.within is.here).on in
    lane_turned old new s i history_on k after text a is (goes (history_of s i) on.agrees) (history_own (lasts s.clients) (history_of s i) on.own)

pub turn_some : (old new : State) (s : Relay) (i : ℕ) (k : LinkedLane) (after : Content) (text : Vec ℕ) → StandsFor old s → GoesOnAt old new i k after
    → ((h : List Note) → AgreesWith h k.lane → TurnsLane (turn_on i h) k.lane after text.items) → Prints (known_lane_turn s i (turn_on i)) new (Some text)
turn_some old new s i k after text a is goes =
    let on = (lane_is old s i k a is.within is.here).on in
    lane_turned old new s i (turn_on i) k after text a is (goes (history_of s i) on.agrees) (own_turn (lasts s.clients) i (history_of s i) on.own)
