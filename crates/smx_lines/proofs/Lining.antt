-- From each state whose takes are placed a line may print something.
use Rattle.std.proofs.Common.{ℕ, Bool, true, false, List, ◌∷◌, Option, Some, None, refl}
use Rattle.smx_script.specs.declared.command.Action.{Action}
use Rattle.smx_script.specs.declared.command.Action.TheVariants.{Client, Prefix, In, Take, Back, Collect, History, Turn, Lose, Bind, Moment, Expire}
use Rattle.smx_script.specs.declared.command.Command.{Command}
use Rattle.smx_script.specs.declared.command.Command.TheVariants.{Skip, Set, Run}
use Rattle.smx_script.specs.Script.{command_of}
use Rattle.smx_lines.specs.declared.state.LinkedClient.{LinkedClient}
use Rattle.smx_lines.specs.Links.{ClientLink, CentreLink, has_failed}
use Rattle.smx_lines.specs.LaneLinks.{GivesUpLane, LosesWhere, LosesLink, LoseTurn, is_up_at, lower_lane, with_centre}
use Rattle.smx_lines.specs.Texts.{down_line}
use Rattle.smx_history.specs.Contents.{window_after}
use Rattle.smx_lines.specs.Relay.{Relay, begin_lanes, going_on, has_lane, history_of, lane_at, client_of}
use Rattle.smx_lines.specs.ClientTurn.{OnOpen, OnStream, OnClient, InTurn, followed_by, each_pdu}
use Rattle.smx_lines.specs.CentreTurn.{OnUp, OnCentre, OnIndex, BackTurn, centre_pdu, centre_end}
use Rattle.std.proofs.lemmas.List.Sorted.{IsPermutation-refl}
use Rattle.smx_routes.specs.Routing.{Route, route}
use Rattle.smx_lines.specs.Turns.{AddRoute, is_bad_route, RouteOf, RouteTurn, TakeTurn, ExpireTurn, Acts, Does, OnCommand, Lines}
use Rattle.smx_lines.proofs.Receiving.{some_received}
use Rattle.smx_lines.proofs.FreeNumbers.{some_free}
use Rattle.smx_lines.proofs.PlacedTurns.{placed_begun}
use Rattle.smx_lines.proofs.Placing.{ArePlacedOn, placed_at}
use Rattle.smx_lines.proofs.StateTurns.{some_expired_on}

abbrev Some_of : (Option (List ℕ × Relay) → Type 0) → Type 0
Some_of May = (x : Option (List ℕ × Relay)) × May x

some_open : (s : Relay) (c : ℕ) (octets : List ℕ) (k : ClientLink) → Some_of (OnOpen s c octets k)
some_open s c octets k =
    let r = some_received k.stream octets in
    (_, (r.0, r.1, r.2, refl))

some_stream : (s : Relay) (c : ℕ) (octets : List ℕ) (k : ClientLink) (b : Bool) → Some_of (OnStream s c octets k b)
some_stream s c octets k true = (_, refl)
some_stream s c octets k false = some_open s c octets k

some_client : (s : Relay) (c : ℕ) (octets : List ℕ) (o : Option LinkedClient) → Some_of (OnClient s c octets o)
some_client s c octets None = (None, refl)
some_client s c octets (Some k) = some_stream s c octets k.link (has_failed k.link.stream)

some_in : (s : Relay) (c : ℕ) (octets : List ℕ) → Some_of (InTurn s c octets)
unfolding InTurn
some_in s c octets = some_client s c octets (client_of s.clients c)

some_given_up : (i : ℕ) (y : List ℕ × Relay) → Some_of (GivesUpLane i y)
some_given_up i y = (_, (window_after (history_of y.1 i), λ test. refl, refl))

some_up : (s : Relay) (i : ℕ) (octets : List ℕ) (k : CentreLink) → Some_of (OnUp s i octets k)
some_up s i octets k =
    let r = some_received k.stream octets in
    let x = some_given_up i (followed_by (each_pdu (centre_pdu i) (with_centre s i (record k { stream = r.1 })) r.0) (centre_end i (has_failed r.1))) in
    (x.0, (r.0, r.1, r.2, x.1))

some_centre : (s : Relay) (i : ℕ) (octets : List ℕ) (b : Bool) → Some_of (OnCentre s i octets b)
some_centre s i octets false = (_, refl)
some_centre s i octets true = some_up s i octets (lane_at s i).link

some_index : (s : Relay) (i : ℕ) (octets : List ℕ) (b : Bool) → Some_of (OnIndex s i octets b)
some_index s i octets false = (None, refl)
some_index s i octets true = some_centre s i octets (is_up_at s i)

some_lost_where : (s : Relay) (i : ℕ) (b : Bool) → Some_of (LosesLink s i b)
some_lost_where s i false = (_, refl)
some_lost_where s i true = some_given_up i (down_line i, going_on s i lower_lane)

some_lost_at : (s : Relay) (i : ℕ) (b : Bool) → Some_of (LosesWhere s i b)
some_lost_at s i false = (None, refl)
some_lost_at s i true = some_lost_where s i (is_up_at s i)

some_lost : (s : Relay) (i : ℕ) → Some_of (LoseTurn s i)
unfolding LoseTurn
some_lost s i = some_lost_at s i (has_lane s i)

some_back : (s : Relay) (i : ℕ) (octets : List ℕ) → Some_of (BackTurn s i octets)
unfolding BackTurn
some_back s i octets = some_index s i octets (has_lane s i)

some_take : (s : Relay) (i : ℕ) → ArePlacedOn s.lanes → Some_of (TakeTurn s i)
some_take s i placed =
    let u = some_free (history_of s i) (placed_at s.lanes i placed) in
    (_, (u.0, u.1, refl))

some_expired : (s : Relay) (i age : ℕ) → Some_of (ExpireTurn s i age)
some_expired s i age =
    let qs = some_expired_on s i age in
    (_, (qs.0, qs.1, refl))

some_added : (s : Relay) (r : Route) (b : Bool) → Some_of (AddRoute s r b)
some_added s r true = (None, refl)
some_added s r false = (_, (r ∷ s.routes, IsPermutation-refl (r ∷ s.routes), refl))

some_route_of : (s : Relay) (c : ℕ) (prefix : List ℕ) (o : Option LinkedClient) → Some_of (RouteOf s c prefix o)
some_route_of s c prefix None = (None, refl)
some_route_of s c prefix (Some k) = some_added s (route prefix c) (is_bad_route s c prefix k.link)

some_route : (s : Relay) (c : ℕ) (prefix : List ℕ) → Some_of (RouteTurn s c prefix)
unfolding RouteTurn
some_route s c prefix = some_route_of s c prefix (client_of s.clients c)

some_act : (s : Relay) (action : Action) → ArePlacedOn s.lanes → Some_of (Acts s action)
unfolding Acts
some_act s (Client kind) placed = (_, refl)
some_act s (Prefix c prefix) placed = some_route s c prefix
some_act s (In c octets) placed = some_in s c octets
some_act s (Take i) placed = some_take s i placed
some_act s (Back i octets) placed = some_back s i octets
some_act s (Collect c) placed = (_, refl)
some_act s (History i) placed = (_, refl)
some_act s (Turn i) placed = (_, refl)
some_act s (Lose i) placed = some_lost s i
some_act s (Bind i) placed = (_, refl)
some_act s (Moment moment) placed = (_, refl)
some_act s (Expire i age) placed = some_expired s i age

some_does : (s : Relay) (command : Command) → ArePlacedOn s.lanes → Some_of (Does s command)
unfolding Does
some_does s Skip placed = (_, refl)
some_does s (Set setting) placed = (_, refl)
some_does s (Run action) placed = some_act (begin_lanes s) action (placed_begun s placed)

some_command : (s : Relay) (o : Option Command) → ArePlacedOn s.lanes → Some_of (OnCommand s o)
some_command s None placed = (None, refl)
some_command s (Some command) placed = some_does s command placed

pub some_line : (s : Relay) (line : List ℕ) → ArePlacedOn s.lanes → Some_of (Lines s line)
unfolding Lines
some_line s line placed = some_command s (command_of line) placed
