-- What a line may print and leave; none at a bad line.
use Rattle.std.specs.Prelude.{◌≡◌, ◌++◌, ◌||◌, ◌==◌, ◌<◌, ◌≤◌, ℕ, Bool, true, false, not, nat_lt, List, [], ◌∷◌, length, IsPermutation, codes, Option, Some, None, if◌then◌else◌}
use Rattle.std.specs.List.{list_any}
use Rattle.std.specs.Fmt.{decimal}
use Rattle.smx_routes.specs.Routing.{Route, route, has_route}
use Rattle.smx_history.specs.declared.place.Place.{Place}
use Rattle.smx_history.specs.Prefixes.{SameCounts}
use Rattle.smx_history.specs.declared.entry.Entry.{Entry}
use Rattle.smx_history.specs.declared.note.Note.{Note}
use Rattle.smx_history.specs.Entries.{numbers, unanswered_takes}
use Rattle.smx_history.specs.Numbers.{place_in, generation_in, generation_after, recent}
use Rattle.smx_history.specs.History.{entries_of}
use Rattle.smx_history.specs.Contents.{window_after}
use Rattle.smx_script.specs.declared.command.Command.{Command}
use Rattle.smx_script.specs.declared.command.Command.TheVariants.{Skip, Set, Run}
use Rattle.smx_script.specs.declared.command.Action.{Action}
use Rattle.smx_script.specs.declared.command.Action.TheVariants.{Client, Prefix, In, Take, Back, Collect, History, Turn, Lose, Bind, Moment, Expire}
use Rattle.smx_script.specs.Script.{command_of}
use Rattle.smx_lines.specs.Texts.{text_line}
use Rattle.smx_lines.specs.Links.{ClientLink, may_receive}
use Rattle.smx_lines.specs.declared.state.LinkedClient.{LinkedClient}
use Rattle.smx_lines.specs.Relay.{Relay, set_turn, begin_lanes, client_of, history_of, known_lane_turn, take_on, client_turn, collect_lanes, history_on, turn_on}
use Rattle.smx_lines.specs.Messages.{send_turn}
use Rattle.smx_lines.specs.ClientTurn.{InTurn, followed_by}
use Rattle.smx_lines.specs.CentreTurn.{BackTurn}
use Rattle.smx_lines.specs.LaneLinks.{LoseTurn, bind_turn}
use Rattle.smx_lines.specs.Expiring.{expired_after, expire_on}

-- the next request may bear the number upstream: it is in range, and that of none that is unanswered and of none of the last 999,999 takes
pub record MayBear (es : List Entry) (u : ℕ) : Type 0 where
  pub range : (0 < u) × (u ≤ 2147483644)
  pub unused : list_any (λ t. t.number == u) (unanswered_takes es) ≡ false
  pub spaced : list_any (λ n. n == u) (recent (numbers es)) ≡ false

-- the number is its place's next, the k-th take of a place bearing its k-th number, and it is free where the window has room:
-- that has at most 1,024 places, so with room in it there is such a number
pub record IsFreeNumber (h : List Note) (u : ℕ) : Type 0 where
  pub placed : generation_in u ≡ generation_after (place_in u) (numbers (entries_of h))
  pub free : length (window_after h) < 1024 → MayBear (entries_of h) u

-- a request that is taken gets the next number of some place that is free
abbrev pub TakeTurn : Relay → ℕ → Option (List ℕ × Relay) → Type 0
TakeTurn s i x = (u : ℕ) × IsFreeNumber (history_of s i) u × (x ≡ known_lane_turn s i (take_on s.limits s.moment u i))

-- these are all the requests that fail on the lane, in any order
abbrev pub AreExpiredOn : Relay → ℕ → ℕ → List Place → Type 0
AreExpiredOn s i age qs = SameCounts (expired_after s.moment age (history_of s i)) qs

-- each request fails that was taken so long ago; which of them first, isn't said
abbrev pub ExpireTurn : Relay → ℕ → ℕ → Option (List ℕ × Relay) → Type 0
ExpireTurn s i age x = (qs : List Place) × AreExpiredOn s i age qs × (x ≡ known_lane_turn s i (expire_on i qs))

-- the moment never falls
abbrev pub moment_turn : Relay → ℕ → Option (List ℕ × Relay)
moment_turn s moment = if nat_lt moment s.moment then None else Some ([], record s { moment = moment })

abbrev pub AddRoute : Relay → Route → Bool → Option (List ℕ × Relay) → Type 0
AddRoute s r true x = x ≡ None
AddRoute s r false x = (rs : List Route) × IsPermutation (r ∷ s.routes) rs × (x ≡ Some ([], record s { routes = rs }))

-- the client isn't bound to receive, the prefix is too long, or the pair is there
abbrev pub is_bad_route : Relay → ℕ → List ℕ → ClientLink → Bool
is_bad_route s c prefix k = not (may_receive k.session.state) || (nat_lt 64 (length prefix) || has_route s.routes (route prefix c))

abbrev pub RouteOf : Relay → ℕ → List ℕ → Option LinkedClient → Option (List ℕ × Relay) → Type 0
RouteOf s c prefix None x = x ≡ None
RouteOf s c prefix (Some k) x = AddRoute s (route prefix c) (is_bad_route s c prefix k.link) x

-- a client that is bound to receive has one prefix more
unfoldable pub RouteTurn : Relay → ℕ → List ℕ → Option (List ℕ × Relay) → Type 0
RouteTurn s c prefix x = RouteOf s c prefix (client_of s.clients c) x

abbrev pub or_none : ℕ → List ℕ → List ℕ
or_none c [] = text_line (codes "none " ++ decimal c)
or_none c (octet ∷ octets) = octet ∷ octets

abbrev pub said_or_none : ℕ → List ℕ × Relay → List ℕ × Relay
said_or_none c x = (or_none c x.0, x.1)

-- a client collects its responses, and then its messages
abbrev pub collect_turn : Relay → ℕ → Option LinkedClient → Option (List ℕ × Relay)
collect_turn s c None = None
collect_turn s c (Some k) = Some (said_or_none c (followed_by (collect_lanes c s) (send_turn c)))

unfoldable pub Acts : Relay → Action → Option (List ℕ × Relay) → Type 0
Acts s (Client kind) x = x ≡ Some (client_turn s kind)
Acts s (Prefix c prefix) x = RouteTurn s c prefix x
Acts s (In c octets) x = InTurn s c octets x
Acts s (Take i) x = TakeTurn s i x
Acts s (Back i octets) x = BackTurn s i octets x
Acts s (Collect c) x = x ≡ collect_turn s c (client_of s.clients c)
Acts s (History i) x = x ≡ known_lane_turn s i history_on
Acts s (Turn i) x = x ≡ known_lane_turn s i (turn_on i)
Acts s (Lose i) x = LoseTurn s i x
Acts s (Bind i) x = x ≡ bind_turn s i
Acts s (Moment moment) x = x ≡ moment_turn s moment
Acts s (Expire i age) x = ExpireTurn s i age x

unfoldable pub Does : Relay → Command → Option (List ℕ × Relay) → Type 0
Does s Skip x = x ≡ Some ([], s)
Does s (Set setting) x = x ≡ set_turn s setting
Does s (Run action) x = Acts (begin_lanes s) action x

abbrev pub OnCommand : Relay → Option Command → Option (List ℕ × Relay) → Type 0
OnCommand s None x = x ≡ None
OnCommand s (Some command) x = Does s command x

unfoldable pub Lines : Relay → List ℕ → Option (List ℕ × Relay) → Type 0
Lines s line x = OnCommand s (command_of line) x
