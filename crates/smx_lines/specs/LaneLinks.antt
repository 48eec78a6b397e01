-- A lane's link to the centre is lost, what was taken fails, and there is a link again.
use Rattle.std.specs.Prelude.{◌≡◌, ◌++◌, ◌∷◌, [], ℕ, Bool, true, false, List, map, set, Option, Some, None, if◌then◌else◌}
use Rattle.smx_history.specs.declared.note.Note.{Note}
use Rattle.smx_history.specs.declared.note.Event.TheVariants as event
use Rattle.smx_history.specs.declared.place.Place.{Place}
use Rattle.smx_history.specs.declared.reply.UpRefusal.{UpRefusal}
use Rattle.smx_history.specs.declared.reply.UpRefusal.TheVariants.{AlreadyUp}
use Rattle.smx_history.specs.Prefixes.{SameCounts}
use Rattle.smx_history.specs.Entries.{is_up}
use Rattle.smx_history.specs.History.{note, entries_of}
use Rattle.smx_history.specs.Answering.{failing}
use Rattle.smx_history.specs.Contents.{content_after, window_after}
use Rattle.smx_history.specs.Replies.{up_refusal}
use Rattle.smx_lines.specs.Texts.{down_line, bound_line, unbound_line}
use Rattle.smx_lines.specs.Links.{CentreLink, bound_centre}
use Rattle.smx_lines.specs.Relay.{Relay, going_on, has_lane, history_of, lane_at}

-- the link of a lane is this from now on
abbrev pub with_centre : Relay → ℕ → CentreLink → Relay
with_centre s i k = record s { lanes = set s.lanes i (record (lane_at s i) { link = k }) }

abbrev pub is_up_at : Relay → ℕ → Bool
is_up_at s i = is_up (entries_of (history_of s i))

-- the link of a lane is lost, where it is up
unfoldable pub lower_lane : List Note → List Note
lower_lane h = if is_up (entries_of h) then h ++ note 0 event.Down ∷ [] else h

-- these requests fail, where the lane is down
unfoldable pub give_up_lane : List Place → List Note → List Note
give_up_lane qs h = if is_up (entries_of h) then h else h ++ map (failing 0) qs

-- there is a link again
unfoldable pub raise_lane : List Note → List Note
raise_lane h = h ++ note 0 event.Up ∷ []

-- these are all the requests of a lane that were taken and not answered, in any order
abbrev pub AreTakenOn : Relay → ℕ → List Place → Type 0
AreTakenOn s i qs = SameCounts (window_after (history_of s i)) qs

-- at the end of a turn on a lane that is down then, each such request fails, without a print; which of them first, isn't said
abbrev pub GivesUpLane : ℕ → List ℕ × Relay → Option (List ℕ × Relay) → Type 0
GivesUpLane i y x = (qs : List Place) × AreTakenOn y.1 i qs × (x ≡ Some (y.0, going_on y.1 i (give_up_lane qs)))

-- a lane that is down stays as it is
abbrev pub LosesLink : Relay → ℕ → Bool → Option (List ℕ × Relay) → Type 0
LosesLink s i true x = GivesUpLane i (down_line i, going_on s i lower_lane) x
LosesLink s i false x = x ≡ Some (down_line i, s)

-- whether there is such a lane
abbrev pub LosesWhere : Relay → ℕ → Bool → Option (List ℕ × Relay) → Type 0
LosesWhere s i false x = x ≡ None
LosesWhere s i true x = LosesLink s i (is_up_at s i) x

-- the link of a lane is lost
unfoldable pub LoseTurn : Relay → ℕ → Option (List ℕ × Relay) → Type 0
LoseTurn s i x = LosesWhere s i (has_lane s i) x

-- by what the lane answers
abbrev pub bind_by : Relay → ℕ → Option UpRefusal → List ℕ × Relay
bind_by s i None = (bound_line i, with_centre (going_on s i raise_lane) i bound_centre)
bind_by s i (Some AlreadyUp) = (bound_line i, s)
bind_by s i (Some _) = (unbound_line i, s)

-- a lane that is down gets a new link, which is bound, where nothing that was taken is unanswered and there is room
unfoldable pub bind_turn : Relay → ℕ → Option (List ℕ × Relay)
bind_turn s i = if has_lane s i then Some (bind_by s i (up_refusal (content_after s.limits (history_of s i)))) else None
