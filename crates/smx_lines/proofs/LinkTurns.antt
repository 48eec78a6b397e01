-- The link of a lane is lost, and there is one again: turns of the whole state.
use Rattle.std.proofs.Common.{◌≡◌, ◌<◌, ◌≤◌, ◌++◌, ◌∷◌, ℕ, Bool, true, false, List, [], length, get_or, refl, sym, ◌∙◌, ap, subst, Option, Some, None}
use Rattle.std.specs.Global.{Vec}
use Rattle.smx_history.specs.declared.note.Note.{Note}
use Rattle.smx_history.specs.declared.note.Event.TheVariants as event
use Rattle.smx_history.specs.declared.place.Place.{Place}
use Rattle.smx_history.specs.declared.reply.UpRefusal.{UpRefusal}
use Rattle.smx_history.specs.declared.reply.UpRefusal.TheVariants.{AlreadyUp, WindowNotEmpty, HistoryFull}
use Rattle.smx_history.specs.History.{note}
use Rattle.smx_history.specs.Contents.{AgreesWith, Content, content_after}
use Rattle.smx_history.specs.Replies.{up_refusal}
use Rattle.smx_history.proofs.Refusals.{up_refusal_same}
use Rattle.smx_lines.specs.declared.state.State.{State}
use Rattle.smx_lines.specs.Texts.{bound_line, down_line, unbound_line}
use Rattle.smx_lines.specs.Links.{CentreLink, bound_centre}
use Rattle.smx_lines.specs.declared.state.LinkedLane.{LinkedLane}
use Rattle.smx_lines.specs.Relay.{Relay, going_on, has_lane, history_of}
use Rattle.smx_lines.specs.LaneLinks.{AreTakenOn, LosesLink, LosesWhere, LoseTurn, bind_turn, bind_by, give_up_lane, is_up_at, lower_lane, raise_lane, with_centre}
use Rattle.smx_lines.specs.Lanes.{lasts}
use Rattle.smx_lines.specs.States.{StandsFor, MayPrint, Prints}
use Rattle.smx_lines.proofs.GivingUp.{GivenUp}
use Rattle.smx_lines.proofs.Keeping.{kept_routes}
use Rattle.smx_lines.proofs.Lanes.{lane_back, reordered_on}
use Rattle.smx_lines.proofs.Links.{IsCentre, centred}
use Rattle.smx_lines.proofs.OwnNotes.{own_given_up, own_lowered, own_raised}
use Rattle.smx_lines.proofs.StateTurns.{GoesOnAt, a_lane_at, goes_on, lane_is, no_lane_at}

-- a lane that stayed as it was
pub lane_untouched : (old new : State) (s : Relay) (i : ℕ) (k : LinkedLane) (after : Content) → StandsFor old s → GoesOnAt old new i k after → after ≡ k.lane → StandsFor new s
lane_untouched old new s i k after a is same =
    let lanes : new.lanes.items ≡ old.lanes.items = is.lanes ∙ lane_back old.lanes.items i k after is.here same in
    record {
      limits = is.keeps.limits ∙ a.limits;
      count = is.keeps.count ∙ a.count;
      started = is.keeps.started ∙ a.started;
      moment = is.keeps.moment ∙ a.moment;
      clients = is.clients ∙ a.clients;
      lanes = rw lanes a.lanes;
      none_yet = a.none_yet;
      routes = kept_routes old new s.clients s.accounts s.places s.routes is.keeps a.routes;
    }

pub lowered_at : (old new : State) (s : Relay) (i : ℕ) (k : LinkedLane) (after : Content) → StandsFor old s → GoesOnAt old new i k after → ((h : List Note) → AgreesWith h k.lane → AgreesWith (lower_lane h) after) → after.limits ≡ k.lane.limits → StandsFor new (going_on s i lower_lane)
lowered_at old new s i k after a is goes limits =
    let on = (lane_is old s i k a is.within is.here).on in
    goes_on old new s i lower_lane k after a is (goes (history_of s i) on.agrees) limits (own_lowered (lasts s.clients) (history_of s i) on.own)

-- what was taken has failed
abbrev pub GaveUp : State → Relay → ℕ → Type 0
GaveUp new s i = (qs : List Place) × AreTakenOn s i qs × StandsFor new (going_on s i (give_up_lane qs))

pub gave_up_at : (old new : State) (s : Relay) (i : ℕ) (k : LinkedLane) (after : Content) → StandsFor old s → GoesOnAt old new i k after → GivenUp k.lane after → after.limits ≡ k.lane.limits → GaveUp new s i
gave_up_at old new s i k after a is goes limits =
    let on = (lane_is old s i k a is.within is.here).on in
    let y = goes (history_of s i) on.agrees in
    (y.0, y.1, goes_on old new s i (give_up_lane y.0) k after a is y.2 limits (own_given_up (lasts s.clients) y.0 (history_of s i) on.own))

-- ---- the line lose

pub lost_nowhere : (old new : State) (s : Relay) (i : ℕ) → StandsFor old s → length old.lanes.items ≤ i → MayPrint (LoseTurn s i) new None
unfolding LoseTurn
lost_nowhere old new s i a past = (None, rw (no_lane_at old s i a past) refl, tt)

-- by whether the lane is up
lost_where : (s : Relay) (i : ℕ) (up : Bool) (x : Option (List ℕ × Relay)) → has_lane s i ≡ true → is_up_at s i ≡ up → LosesLink s i up x → LoseTurn s i x
unfolding LoseTurn
lost_where s i up x at is loses = subst (λ b. LosesWhere s i b x) (sym at) (subst (λ b. LosesLink s i b x) (sym is) loses)

pub lost_before : (old new : State) (s : Relay) (i : ℕ) (text : Vec ℕ) → StandsFor old s → i < length old.lanes.items → is_up_at s i ≡ false → StandsFor new s → text.items ≡ down_line i → MayPrint (LoseTurn s i) new (Some text)
lost_before old new s i text a within down b e = (Some (down_line i, s), lost_where s i false (Some (down_line i, s)) (a_lane_at old s i a within) down refl, record { text = e; left = b })

pub lost : (old new : State) (s : Relay) (i : ℕ) (text : Vec ℕ) → StandsFor old s → i < length old.lanes.items → is_up_at s i ≡ true → GaveUp new (going_on s i lower_lane) i → text.items ≡ down_line i → MayPrint (LoseTurn s i) new (Some text)
lost old new s i text a within up gave e =
    let x : Option (List ℕ × Relay) = Some (down_line i, going_on (going_on s i lower_lane) i (give_up_lane gave.0)) in
    (x, lost_where s i true x (a_lane_at old s i a within) up (gave.0, gave.1, refl), record { text = e; left = gave.2 })

-- ---- the line bind

pub bound_nowhere : (old new : State) (s : Relay) (i : ℕ) → StandsFor old s → length old.lanes.items ≤ i → Prints (bind_turn s i) new None
unfolding bind_turn
bound_nowhere old new s i a past = rw (no_lane_at old s i a past) tt

-- by what the lane answers
bind_says : (old : State) (s : Relay) (i : ℕ) (k : LinkedLane) (o : Option UpRefusal) → StandsFor old s → i < length old.lanes.items → k ≡ get_or old.lanes.items i k → up_refusal k.lane ≡ o → bind_turn s i ≡ Some (bind_by s i o)
unfolding bind_turn
bind_says old s i k o a within here is =
    let h = history_of s i in
    let same = up_refusal_same (content_after s.limits h) k.lane (reordered_on s.limits (lasts s.clients) h k.lane (lane_is old s i k a within here).on) in
    rw (a_lane_at old s i a within) (ap (λ r. Some (bind_by s i r)) (sym same ∙ is))

-- the lane stayed as it was
pub bind_up : (old new : State) (s : Relay) (i : ℕ) (k : LinkedLane) (text : Vec ℕ) → StandsFor old s → StandsFor new s → i < length old.lanes.items → k ≡ get_or old.lanes.items i k → up_refusal k.lane ≡ Some AlreadyUp → text.items ≡ bound_line i → Prints (bind_turn s i) new (Some text)
bind_up old new s i k text a b within here refused e = rw (bind_says old s i k (Some AlreadyUp) a within here refused) (record { text = e; left = b })

pub bind_taken : (old new : State) (s : Relay) (i : ℕ) (k : LinkedLane) (text : Vec ℕ) → StandsFor old s → StandsFor new s → i < length old.lanes.items → k ≡ get_or old.lanes.items i k → up_refusal k.lane ≡ Some WindowNotEmpty → text.items ≡ unbound_line i → Prints (bind_turn s i) new (Some text)
bind_taken old new s i k text a b within here refused e = rw (bind_says old s i k (Some WindowNotEmpty) a within here refused) (record { text = e; left = b })

pub bind_full : (old new : State) (s : Relay) (i : ℕ) (k : LinkedLane) (text : Vec ℕ) → StandsFor old s → StandsFor new s → i < length old.lanes.items → k ≡ get_or old.lanes.items i k → up_refusal k.lane ≡ Some HistoryFull → text.items ≡ unbound_line i → Prints (bind_turn s i) new (Some text)
bind_full old new s i k text a b within here refused e = rw (bind_says old s i k (Some HistoryFull) a within here refused) (record { text = e; left = b })

-- a lane that came up
raised_at : (old new : State) (s : Relay) (i : ℕ) (k : LinkedLane) (after : Content) → StandsFor old s → GoesOnAt old new i k after → ((h : List Note) → AgreesWith h k.lane → AgreesWith (h ++ note 0 event.Up ∷ []) after) → after.limits ≡ k.lane.limits → StandsFor new (going_on s i raise_lane)
unfolding raise_lane
raised_at old new s i k after a is goes limits =
    let on = (lane_is old s i k a is.within is.here).on in
    goes_on old new s i raise_lane k after a is (goes (history_of s i) on.agrees) limits (own_raised (lasts s.clients) (history_of s i) on.own)

pub bind_anew : (old mid new : State) (s : Relay) (i : ℕ) (k m : LinkedLane) (after : Content) (link : CentreLink) (text : Vec ℕ) → StandsFor old s → GoesOnAt old mid i k after → up_refusal k.lane ≡ None → ((h : List Note) → AgreesWith h k.lane → AgreesWith (h ++ note 0 event.Up ∷ []) after)
    → after.limits ≡ k.lane.limits → IsCentre mid new i m link → link ≡ bound_centre → text.items ≡ bound_line i → Prints (bind_turn s i) new (Some text)
bind_anew old mid new s i k m after link text a is rises goes limits centre bound e =
    let there = raised_at old mid s i k after a is goes limits in
    let whole : StandsFor new (with_centre (going_on s i raise_lane) i bound_centre) = subst (λ (l : CentreLink). StandsFor new (with_centre (going_on s i raise_lane) i l)) bound (centred mid new (going_on s i raise_lane) i m link there centre) in
    rw (bind_says old s i k None a is.within is.here rises) (record { text = e; left = whole })
