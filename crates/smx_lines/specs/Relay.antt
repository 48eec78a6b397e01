-- What each line of a script does and prints, over the histories of the lanes.
use Rattle.std.specs.Prelude.{◌≡◌, refl, ℕ, ◌+◌, ◌%◌, Bool, true, false, List, [], ◌∷◌, ◌++◌, length, map, filter, not, ◌==◌, take, drop, set, replicate, position, codes, Option, Some, None, get_or, unwrap_or, is_none, is_some, ◌||◌, max, nat_lt, nat_le, slice_get, if◌then◌else◌}
use Rattle.std.specs.List.{flat_map, find}
use Rattle.std.specs.Fmt.{decimal}
use Rattle.smx_pdu.specs.declared.pdu.Pdu.{Pdu}
use Rattle.smx_pdu.specs.Command.{is_forwarded}
use Rattle.smx_session.specs.Login.{Login}
use Rattle.smx_session.specs.declared.kind.Kind.{Kind}
use Rattle.smx_history.specs.declared.limits.Limits.{Limits}
use Rattle.smx_history.specs.declared.request.Request.{Request}
use Rattle.smx_history.specs.declared.place.Place.{Place}
use Rattle.smx_history.specs.declared.note.Note.{Note}
use Rattle.smx_history.specs.declared.telling.Unaccepted.TheVariants.{AllFull}
use Rattle.smx_history.specs.declared.note.Event.TheVariants as event
use Rattle.smx_history.specs.History.{note, shift, stored_of, entries_of, latest_after}
use Rattle.smx_history.specs.Entries.{is_up}
use Rattle.smx_history.specs.Contents.{content_after, queue_after, window_after}
use Rattle.smx_history.specs.Failures.{refusal_of}
use Rattle.smx_history.specs.Ring.{ring}
use Rattle.smx_history.specs.Replies.{accept_refusal, admit_refusal, answers_place, is_present, waiting_after}
use Rattle.smx_routes.specs.Routing.{Route}
use Rattle.smx_script.specs.declared.command.Setting.{Setting}
use Rattle.smx_script.specs.declared.command.Setting.TheVariants.{Sizes, Lanes, Places, Account}
use Rattle.smx_lines.specs.declared.state.LinkedClient.{LinkedClient}
use Rattle.smx_lines.specs.Links.{ClientLink, CentreLink, new_link, bound_centre}
use Rattle.smx_lines.specs.Texts.{text_line, pdu_line, to_client, up_lane, upstream_of, entry_line, turned_line, down_line}

-- a lane: what happened on it since it was made, and its link to the centre
pub record RelayLane : Type 0 where
  pub history : List Note
  pub link : CentreLink

-- nothing has happened, and the link is bound
abbrev pub new_lane : RelayLane
new_lane = record { history = []; link = bound_centre }

-- a client that has sent nothing
abbrev pub new_client : ℕ → Option Kind → LinkedClient
new_client places kind = record { last = 0; link = new_link places kind }

pub record Relay : Type 0 where
  -- the sizes of each lane, and how many lanes there are to be
  pub limits : Limits
  pub count : ℕ
  -- the places of each client's mailbox
  pub places : ℕ
  -- who may bind
  pub accounts : List Login
  -- a line other than a setting was run
  pub started : Bool
  -- the moment, in milliseconds
  pub moment : ℕ
  -- what happened on each lane since, and its link
  pub lanes : List RelayLane
  -- the clients, by their numbers; none has the number 0, or one that was refused
  pub clients : List (Option LinkedClient)
  -- the prefixes of the clients that messages go to
  pub routes : List Route

abbrev pub new_relay : Relay
new_relay = record {
  limits = record { queue = 100; window = 10; client = 20; history = 10000 };
  count = 1;
  places = 16;
  accounts = [];
  started = false;
  moment = 0;
  lanes = [];
  clients = None ∷ [];
  routes = [];
}

-- settings count up to the first other line
abbrev pub set_turn : Relay → Setting → Option (List ℕ × Relay)
set_turn s (Sizes limits) = if s.started then None else Some ([], record s { limits = limits })
set_turn s (Lanes count) = if s.started then None else Some ([], record s { count = count })
set_turn s (Places places) = if s.started then None else Some ([], record s { places = places })
set_turn s (Account login) = if s.started || nat_le 256 (length s.accounts) then None else Some ([], record s { accounts = s.accounts ++ login ∷ [] })

-- the lanes begin with the first line that is no setting
abbrev pub begin_lanes : Relay → Relay
begin_lanes s = if s.started then s else record s { started = true; lanes = replicate s.count new_lane }

-- the client with this number
abbrev pub client_of : List (Option LinkedClient) → ℕ → Option LinkedClient
client_of clients c = get_or clients c None

-- so is it, where there is one
abbrev pub client_at : Relay → ℕ → LinkedClient
client_at s c = unwrap_or (client_of s.clients c) (new_client s.places None)

abbrev pub has_lane : Relay → ℕ → Bool
has_lane s i = nat_lt i (length s.lanes)

-- the lane with this index, which there is
abbrev pub lane_at : Relay → ℕ → RelayLane
lane_at s i = get_or s.lanes i new_lane

abbrev pub history_of : Relay → ℕ → List Note
history_of s i = (lane_at s i).history

-- the history of a lane goes on
abbrev pub lane_after : (List Note → List Note) → RelayLane → RelayLane
lane_after f l = record l { history = f l.history }

-- a lane goes on, without a print
abbrev pub going_on : Relay → ℕ → (List Note → List Note) → Relay
going_on s i f = record s { lanes = set s.lanes i (lane_after f (lane_at s i)) }

-- f prints, and the lane goes on
abbrev pub lane_turn : Relay → ℕ → (List Note → List ℕ × List Note) → List ℕ × Relay
lane_turn s i f = ((f (history_of s i)).0, going_on s i (λ h. (f h).1))

-- so it is on a lane that there is
abbrev pub known_lane_turn : Relay → ℕ → (List Note → List ℕ × List Note) → Option (List ℕ × Relay)
known_lane_turn s i f = if has_lane s i then Some (lane_turn s i f) else None

-- a client enters on each lane
abbrev pub enter_lane : ℕ → List Note → List Note
enter_lane c h = h ++ note 0 (event.Admit c) ∷ []

-- or on none: where a lane refuses it, it leaves those before again
abbrev pub enter_and_leave_lane : ℕ → List Note → List Note
enter_and_leave_lane c h = (h ++ note 0 (event.Admit c) ∷ []) ++ note 0 (event.Retire c) ∷ []

abbrev pub client_turn_at : Relay → Option Kind → ℕ → Option ℕ → List ℕ × Relay
client_turn_at s kind c None =
    (text_line (codes "client " ++ decimal c), record s { lanes = map (lane_after (enter_lane c)) s.lanes; clients = s.clients ++ Some (new_client s.places kind) ∷ [] })
client_turn_at s kind c (Some i) = (
  text_line (codes "refused"),
  record s { lanes = map (lane_after (enter_and_leave_lane c)) (take i s.lanes) ++ drop i s.lanes; clients = s.clients ++ None ∷ [] },
)

-- the next number is used up either way
abbrev pub client_turn : Relay → Option Kind → List ℕ × Relay
client_turn s kind = client_turn_at s kind (length s.clients) (position (λ l. is_some (admit_refusal (content_after s.limits l.history) (length s.clients))) s.lanes)

-- a client leaves a lane, where it is present
abbrev pub leave_lane : ℕ → List Note → List Note
leave_lane c h = if is_present c h then h ++ note 0 (event.Retire c) ∷ [] else h

-- a client leaves each lane, and its prefixes go
abbrev pub leave_lanes : ℕ → Relay → Relay
leave_lanes c s = record s { lanes = map (lane_after (leave_lane c)) s.lanes; routes = filter (λ r. not (r.client == c)) s.routes }

-- the client with this number is this from now on
abbrev pub with_client : Relay → ℕ → LinkedClient → Relay
with_client s c k = record s { clients = set s.clients c (Some k) }

-- its link is this
abbrev pub with_link : Relay → ℕ → ClientLink → Relay
with_link s c link = with_client s c (record (client_at s c) { link = link })

abbrev pub request_if : (c n : ℕ) (p : Pdu) (b : Bool) → is_forwarded p.command ≡ b → Option Request
request_if c n p true e = Some (record { client = c; ordinal = n; own = p.number; command = p.command; body = p.body; forwarded = e })
request_if c n p false e = None

-- a client's request with this ordinal, of a PDU that is passed on
unfoldable pub request_of : ℕ → ℕ → Pdu → Option Request
request_of c n p = request_if c n p (is_forwarded p.command) refl

-- the first lane that accepts a client's next request, from the one that its ordinal names on
unfoldable pub lane_for : Relay → ℕ → ℕ → Option ℕ
lane_for s c last =
    find (λ i. is_none (accept_refusal (content_after s.limits (history_of s i)) c)) (ring (last % length s.lanes) (length s.lanes))

-- a lane has one request more
abbrev pub with_request : Request → List Note → List Note
with_request r h = h ++ note 0 (event.Accept r) ∷ []

-- the ordinal is used where a lane accepts
abbrev pub in_turn_at : Relay → Request → Option ℕ → List ℕ × Relay
in_turn_at s r None = (pdu_line (to_client r.client) (refusal_of AllFull r.command r.own), s)
in_turn_at s r (Some i) = (
  text_line (codes "accepted " ++ (decimal r.client ++ (codes " " ++ decimal i))),
  with_client (going_on s i (with_request r)) r.client (record (client_at s r.client) { last = r.ordinal }),
)

-- the moment on a lane: since a script's moments never fall, no take there was later and it is the script's
abbrev pub moment_on : ℕ → List Note → ℕ
moment_on moment h = max moment (latest_after h)

abbrev pub take_with : ℕ → ℕ → ℕ → List Note → List Request → Bool → List ℕ × List Note
take_with moment u i h [] room = (text_line (codes "take " ++ (decimal i ++ codes " empty")), h)
take_with moment u i h (r ∷ rs) false = (text_line (codes "take " ++ (decimal i ++ codes " full")), h)
take_with moment u i h (r ∷ rs) true =
    (pdu_line (up_lane i) (upstream_of r u), h ++ note 0 (event.Take r.client r.ordinal u (moment_on moment h)) ∷ [])

-- at this moment the oldest request goes upstream as u, on a lane that is up
unfoldable pub take_on : Limits → ℕ → ℕ → ℕ → List Note → List ℕ × List Note
take_on limits moment u i h =
    if is_up (entries_of h)
    then take_with moment u i h (queue_after h) (nat_lt (length (window_after h)) limits.window)
    else (down_line i, h)

abbrev pub back_to : Pdu → List Note → Option Place → List ℕ × List Note
back_to p h None = (text_line (codes "unknown"), h)
back_to p h (Some q) =
    if is_present q.client h
    then (text_line (codes "queued " ++ decimal q.client), h ++ note 0 (event.Answer q.client q.ordinal p) ∷ [])
    else (text_line (codes "late"), h ++ note 0 (event.Late q.client q.ordinal p.number p.command) ∷ [])

-- a response comes back
unfoldable pub back_on : Pdu → List Note → List ℕ × List Note
back_on p h = back_to p h (find (answers_place p) (window_after h))

abbrev pub collect_text : ℕ → List Note → List ℕ
collect_text c h = flat_map (λ r. pdu_line (to_client c) r.pdu) (waiting_after h c)

-- the client collects each response that waits
abbrev pub collect_lane : ℕ → List Note → List Note
collect_lane c h = h ++ map (λ r. note 0 (event.Collect c r.ordinal)) (waiting_after h c)

-- it does so on lane after lane
abbrev pub collect_lanes : ℕ → Relay → List ℕ × Relay
collect_lanes c s = (flat_map (λ l. collect_text c l.history) s.lanes, record s { lanes = map (lane_after (collect_lane c)) s.lanes })

-- the entries after the last shift are listed
unfoldable pub history_on : List Note → List ℕ × List Note
history_on h = (flat_map entry_line (stored_of h), h)

-- so they are, and a shift follows
unfoldable pub turn_on : ℕ → List Note → List ℕ × List Note
turn_on i h = (flat_map entry_line (stored_of h) ++ turned_line i (length (stored_of h)), h ++ shift 0 ∷ [])
