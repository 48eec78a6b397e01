-- Each line leaves the numbers of the takes placed, so they are so in each run.
use Rattle.std.proofs.Common.{◌≡◌, ◌+◌, ℕ, Bool, true, false, List, [], ◌∷◌, ◌++◌, refl, sym, ◌∙◌, ap, subst, length, position, replicate, Option, Some, None, nat_le, nat_lt, ◌||◌, if◌then◌else◌, is_some}
use Rattle.std.specs.Prelude.{IfSome, Result, Ok, Err}
use Rattle.smx_pdu.specs.declared.pdu.Pdu.{Pdu}
use Rattle.smx_pdu.specs.Answers.{nack_of_undecoded}
use Rattle.smx_pdu.specs.declared.body_fault.BodyFault.{BodyFault}
use Rattle.smx_pdu.specs.Reading.{destination_at}
use Rattle.smx_session.specs.declared.kind.Kind.{Kind}
use Rattle.smx_session.specs.declared.act.Act.{Act}
use Rattle.smx_session.specs.declared.act.Act.TheVariants as act
use Rattle.smx_session.specs.declared.up_act.UpAct.{UpAct}
use Rattle.smx_session.specs.declared.up_act.UpAct.TheVariants as up
use Rattle.smx_history.specs.declared.limits.Limits.{Limits}
use Rattle.smx_history.specs.declared.note.Note.{Note}
use Rattle.smx_history.specs.declared.note.Event.TheVariants as event
use Rattle.smx_history.specs.declared.request.Request.{Request}
use Rattle.smx_history.specs.declared.reply.UpRefusal.{UpRefusal}
use Rattle.smx_history.specs.declared.reply.UpRefusal.TheVariants.{AlreadyUp, WindowNotEmpty, HistoryFull}
use Rattle.smx_history.specs.Entries.{is_up, numbers}
use Rattle.smx_history.specs.Numbers.{ArePlaced}
use Rattle.smx_history.specs.History.{entry_by, entries_of, note}
use Rattle.smx_history.specs.Contents.{content_after, queue_after, window_after}
use Rattle.smx_history.specs.Replies.{admit_refusal, up_refusal}
use Rattle.smx_history.proofs.FitsTake.{numbers_push}
use Rattle.smx_history.proofs.Reading.{entries_of-push}
use Rattle.smx_routes.specs.declared.mo_window.Waiting.{Waiting}
use Rattle.smx_routes.specs.Routing.{Route, client_for, route}
use Rattle.smx_routes.specs.Window.{message_for}
use Rattle.smx_mailbox.specs.Mailbox.{is_full}
use Rattle.smx_script.specs.declared.command.Action.{Action}
use Rattle.smx_script.specs.declared.command.Action.TheVariants.{Client, Prefix, In, Take, Back, Collect, History, Turn, Lose, Bind, Moment, Expire}
use Rattle.smx_script.specs.declared.command.Command.{Command}
use Rattle.smx_script.specs.declared.command.Command.TheVariants.{Skip, Set, Run}
use Rattle.smx_script.specs.declared.command.Setting.{Setting}
use Rattle.smx_script.specs.declared.command.Setting.TheVariants.{Sizes, Lanes, Places, Account}
use Rattle.smx_script.specs.Script.{command_of}
use Rattle.smx_lines.specs.declared.state.LinkedClient.{LinkedClient}
use Rattle.smx_lines.specs.Texts.{down_line}
use Rattle.smx_lines.specs.Links.{ClientLink, CentreLink, at_end, bound_centre, has_failed, has_left}
use Rattle.smx_lines.specs.Relay.{Relay, back_on, begin_lanes, client_at, client_of, client_turn, client_turn_at, collect_lane, collect_lanes, enter_and_leave_lane, enter_lane, going_on, has_lane, history_of, history_on, in_turn_at, known_lane_turn, lane_after, lane_at, lane_for, lane_turn, leave_lane, moment_on, new_lane, request_of, set_turn, take_on, take_with, turn_on, with_link, with_request}
use Rattle.smx_lines.specs.Messages.{answer_turn, answer_with, leave_turn, message_to, message_turn, put_to, put_with, send_turn}
use Rattle.smx_lines.specs.ClientTurn.{client_act, client_end, client_pdu, decides, each_pdu, followed_by, forward, offer_at, OnClient, OnOpen, OnStream, InTurn}
use Rattle.smx_lines.specs.CentreTurn.{act_of, answer_centre, centre_act, centre_end, centre_pdu, link_pdu, lose_lane, session_after, OnCentre, OnIndex, OnUp, BackTurn}
use Rattle.smx_lines.specs.LaneLinks.{bind_by, bind_turn, give_up_lane, GivesUpLane, is_up_at, LosesLink, LosesWhere, LoseTurn, lower_lane, raise_lane, with_centre}
use Rattle.smx_lines.specs.Expiring.{expire_on}
use Rattle.smx_lines.specs.Turns.{Acts, AddRoute, collect_turn, Does, ExpireTurn, IsFreeNumber, is_bad_route, Lines, moment_turn, OnCommand, RouteOf, RouteTurn, TakeTurn}
use Rattle.smx_lines.proofs.FreeNumbers.{placed_push, TakesArePlaced}
use Rattle.smx_lines.proofs.Placing.{ArePlacedOn, placed_at, placed_front, placed_map, placed_new, placed_set, same_accepted, same_back, same_collected, same_entered, same_expired, same_given_up, same_left, same_listed, same_lowered, same_raised, same_refused, same_turned, SameNumbers, still_placed}

-- what a line leaves, if it is no bad line
abbrev pub LeavesPlaced : Option (List ℕ × Relay) → Type 0
LeavesPlaced x = IfSome x (λ y. ArePlacedOn y.1.lanes)

by_equal : (x y : Option (List ℕ × Relay)) → x ≡ y → LeavesPlaced y → LeavesPlaced x
by_equal x y same placed = subst (λ o. LeavesPlaced o) (sym same) placed

-- ---- one lane

goes : (s : Relay) (i : ℕ) (f : List Note → List Note) → TakesArePlaced (f (history_of s i)) → ArePlacedOn s.lanes → ArePlacedOn (going_on s i f).lanes
goes s i f after placed = placed_set s.lanes i (lane_after f (lane_at s i)) placed after

goes_same : (s : Relay) (i : ℕ) (f : List Note → List Note) → SameNumbers (f (history_of s i)) (history_of s i) → ArePlacedOn s.lanes → ArePlacedOn (going_on s i f).lanes
goes_same s i f same placed = goes s i f (still_placed (f (history_of s i)) (history_of s i) same (placed_at s.lanes i placed)) placed

linked : (s : Relay) (i : ℕ) (k : CentreLink) → ArePlacedOn s.lanes → ArePlacedOn (with_centre s i k).lanes
linked s i k placed = placed_set s.lanes i (record (lane_at s i) { link = k }) placed (placed_at s.lanes i placed)

known_turn : (s : Relay) (i : ℕ) (f : List Note → List ℕ × List Note) → TakesArePlaced (f (history_of s i)).1 → ArePlacedOn s.lanes → LeavesPlaced (known_lane_turn s i f)
known_turn s i f after placed = at (has_lane s i)
  where
    at : (b : Bool) → LeavesPlaced (if b then Some (lane_turn s i f) else None)
    at true = goes s i (λ h. (f h).1) after placed
    at false = tt

known_same : (s : Relay) (i : ℕ) (f : List Note → List ℕ × List Note) → SameNumbers (f (history_of s i)).1 (history_of s i) → ArePlacedOn s.lanes → LeavesPlaced (known_lane_turn s i f)
known_same s i f same placed = known_turn s i f (still_placed (f (history_of s i)).1 (history_of s i) same (placed_at s.lanes i placed)) placed

placed_take_with : (moment u i : ℕ) (h : List Note) (queue : List Request) (room : Bool) → IsFreeNumber h u → TakesArePlaced h → TakesArePlaced (take_with moment u i h queue room).1
placed_take_with moment u i h [] room free placed = placed
placed_take_with moment u i h (r ∷ rs) false free placed = placed
placed_take_with moment u i h (r ∷ rs) true free placed =
    let n = note 0 (event.Take r.client r.ordinal u (moment_on moment h)) in
    let e = entry_by 0 (event.Take r.client r.ordinal u (moment_on moment h)) in
    let grown : numbers (entries_of (h ++ n ∷ [])) ≡ numbers (entries_of h) ++ u ∷ [] = ap numbers (entries_of-push h n e refl) ∙ numbers_push (entries_of h) e refl in
    subst (λ ns. ArePlaced ns) (sym grown) (placed_push (numbers (entries_of h)) u placed free.placed)

placed_take_on : (limits : Limits) (moment u i : ℕ) (h : List Note) → IsFreeNumber h u → TakesArePlaced h → TakesArePlaced (take_on limits moment u i h).1
unfolding take_on
placed_take_on limits moment u i h free placed = at (is_up (entries_of h))
  where
    at : (b : Bool) → TakesArePlaced (if b then take_with moment u i h (queue_after h) (nat_lt (length (window_after h)) limits.window) else (down_line i, h)).1
    at true = placed_take_with moment u i h (queue_after h) (nat_lt (length (window_after h)) limits.window) free placed
    at false = placed

placed_take : (s : Relay) (i : ℕ) (x : Option (List ℕ × Relay)) → ArePlacedOn s.lanes → TakeTurn s i x → LeavesPlaced x
placed_take s i x placed (u, free, is) =
    by_equal x _ is (known_turn s i (take_on s.limits s.moment u i) (placed_take_on s.limits s.moment u i (history_of s i) free (placed_at s.lanes i placed)) placed)

placed_expire : (s : Relay) (i age : ℕ) (x : Option (List ℕ × Relay)) → ArePlacedOn s.lanes → ExpireTurn s i age x → LeavesPlaced x
placed_expire s i age x placed (qs, all, is) = by_equal x _ is (known_same s i (expire_on i qs) (same_expired i qs (history_of s i)) placed)

-- ---- clients

placed_client_at : (s : Relay) (kind : Option Kind) (c : ℕ) (o : Option ℕ) → ArePlacedOn s.lanes → ArePlacedOn (client_turn_at s kind c o).1.lanes
placed_client_at s kind c None placed = placed_map (enter_lane c) (same_entered c) s.lanes placed
placed_client_at s kind c (Some i) placed = placed_front (enter_and_leave_lane c) (same_refused c) i s.lanes placed

placed_client : (s : Relay) (kind : Option Kind) → ArePlacedOn s.lanes → ArePlacedOn (client_turn s kind).1.lanes
placed_client s kind placed = placed_client_at s kind (length s.clients) (position (λ l. is_some (admit_refusal (content_after s.limits l.history) (length s.clients))) s.lanes) placed

placed_in_turn : (s : Relay) (r : Request) (o : Option ℕ) → ArePlacedOn s.lanes → ArePlacedOn (in_turn_at s r o).1.lanes
placed_in_turn s r None placed = placed
placed_in_turn s r (Some i) placed = goes_same s i (with_request r) (same_accepted r (history_of s i)) placed

placed_offer : (s : Relay) (c last : ℕ) (o : Option Request) → ArePlacedOn s.lanes → ArePlacedOn (offer_at s c last o).1.lanes
placed_offer s c last None placed = placed
placed_offer s c last (Some r) placed = placed_in_turn s r (lane_for s c last) placed

placed_forward : (s : Relay) (c : ℕ) (p : Pdu) → ArePlacedOn s.lanes → ArePlacedOn (forward c p s).1.lanes
unfolding forward
placed_forward s c p placed = placed_offer s c (client_at s c).last (request_of c ((client_at s c).last + 1) p) placed

placed_answer_with : (s : Relay) (c : ℕ) (p : Pdu) (k : ClientLink) (o : Option Waiting) → ArePlacedOn s.lanes → ArePlacedOn (answer_with s c p k o).1.lanes
placed_answer_with s c p k None placed = placed
placed_answer_with s c p k (Some w) placed = placed

placed_answer : (s : Relay) (c : ℕ) (p : Pdu) → ArePlacedOn s.lanes → ArePlacedOn (answer_turn c p s).1.lanes
unfolding answer_turn
placed_answer s c p placed = placed_answer_with s c p (client_at s c).link (message_for p.number p.command (client_at s c).link.mailbox.window.waiting) placed

placed_leave : (s : Relay) (c : ℕ) → ArePlacedOn s.lanes → ArePlacedOn (leave_turn c s).1.lanes
unfolding leave_turn
placed_leave s c placed = placed_map (leave_lane c) (same_left c) s.lanes placed

placed_act : (c : ℕ) (p : Pdu) (a : Act) (s : Relay) → ArePlacedOn s.lanes → ArePlacedOn (client_act c p a s).1.lanes
unfolding client_act
placed_act c p (act.Answer answer) s placed = placed
placed_act c p (act.Bind kind account answer) s placed = placed
placed_act c p (act.Refuse answer) s placed = placed
placed_act c p act.Forward s placed = placed_forward s c p placed
placed_act c p (act.MoAnswer number) s placed = placed_answer s c p placed
placed_act c p (act.Leave answer) s placed = placed_leave s c placed
placed_act c p (act.Hangup answer) s placed = placed_leave s c placed
placed_act c p act.Closed s placed = placed_leave s c placed
placed_act c p act.Ignore s placed = placed

placed_pdu : (c : ℕ) (p : Pdu) (s : Relay) → ArePlacedOn s.lanes → ArePlacedOn (client_pdu c p s).1.lanes
unfolding client_pdu
placed_pdu c p s placed =
    let k = (client_at s c).link in
    let x = decides s.accounts k.session p in
    placed_act c p x.0 (with_link s c (record k { session = x.1 })) placed

each_placed : (turn : Pdu → Relay → List ℕ × Relay) → ((p : Pdu) (s : Relay) → ArePlacedOn s.lanes → ArePlacedOn (turn p s).1.lanes) → (ps : List Pdu) (s : Relay) → ArePlacedOn s.lanes → ArePlacedOn (each_pdu turn s ps).1.lanes
each_placed turn keeps [] s placed = placed
each_placed turn keeps (p ∷ ps) s placed = each_placed turn keeps ps (turn p s).1 (keeps p s placed)

placed_end : (c : ℕ) (b : Bool) (s : Relay) → ArePlacedOn s.lanes → ArePlacedOn (client_end c b s).1.lanes
unfolding client_end
placed_end c false s placed = placed
placed_end c true s placed = placed_leave (with_link s c (at_end (client_at s c).link)) c placed

placed_open : (s : Relay) (c : ℕ) (octets : List ℕ) (k : ClientLink) (x : Option (List ℕ × Relay)) → ArePlacedOn s.lanes → OnOpen s c octets k x → LeavesPlaced x
placed_open s c octets k x placed (ps, stream, receives, is) =
    by_equal x _ is (placed_end c (has_failed stream) _ (each_placed (client_pdu c) (placed_pdu c) ps (with_link s c (record k { stream = stream })) placed))

placed_stream : (s : Relay) (c : ℕ) (octets : List ℕ) (k : ClientLink) (b : Bool) (x : Option (List ℕ × Relay)) → ArePlacedOn s.lanes → OnStream s c octets k b x → LeavesPlaced x
placed_stream s c octets k true x placed is = by_equal x _ is placed
placed_stream s c octets k false x placed on = placed_open s c octets k x placed on

placed_on_client : (s : Relay) (c : ℕ) (octets : List ℕ) (o : Option LinkedClient) (x : Option (List ℕ × Relay)) → ArePlacedOn s.lanes → OnClient s c octets o x → LeavesPlaced x
placed_on_client s c octets None x placed is = by_equal x None is tt
placed_on_client s c octets (Some k) x placed on = placed_stream s c octets k.link (has_failed k.link.stream) x placed on

placed_in : (s : Relay) (c : ℕ) (octets : List ℕ) (x : Option (List ℕ × Relay)) → ArePlacedOn s.lanes → InTurn s c octets x → LeavesPlaced x
unfolding InTurn
placed_in s c octets x placed on = placed_on_client s c octets (client_of s.clients c) x placed on

placed_send : (s : Relay) (c : ℕ) → ArePlacedOn s.lanes → ArePlacedOn (send_turn c s).1.lanes
unfolding send_turn
placed_send s c placed = placed

placed_collect : (s : Relay) (c : ℕ) (o : Option LinkedClient) → ArePlacedOn s.lanes → LeavesPlaced (collect_turn s c o)
placed_collect s c None placed = tt
placed_collect s c (Some k) placed = placed_send (collect_lanes c s).1 c (placed_map (collect_lane c) (same_collected c) s.lanes placed)

placed_added : (s : Relay) (r : Route) (b : Bool) (x : Option (List ℕ × Relay)) → ArePlacedOn s.lanes → AddRoute s r b x → LeavesPlaced x
placed_added s r true x placed is = by_equal x None is tt
placed_added s r false x placed (rs, ordered, is) = by_equal x _ is placed

placed_route_of : (s : Relay) (c : ℕ) (prefix : List ℕ) (o : Option LinkedClient) (x : Option (List ℕ × Relay)) → ArePlacedOn s.lanes → RouteOf s c prefix o x → LeavesPlaced x
placed_route_of s c prefix None x placed is = by_equal x None is tt
placed_route_of s c prefix (Some k) x placed on = placed_added s (route prefix c) (is_bad_route s c prefix k.link) x placed on

placed_route : (s : Relay) (c : ℕ) (prefix : List ℕ) (x : Option (List ℕ × Relay)) → ArePlacedOn s.lanes → RouteTurn s c prefix x → LeavesPlaced x
unfolding RouteTurn
placed_route s c prefix x placed on = placed_route_of s c prefix (client_of s.clients c) x placed on

-- ---- the centre

lost : (s : Relay) (i : ℕ) → ArePlacedOn s.lanes → ArePlacedOn (going_on s i lower_lane).lanes
lost s i placed = goes_same s i lower_lane (same_lowered (history_of s i)) placed

placed_put_with : (s : Relay) (i : ℕ) (p : Pdu) (c : ℕ) (k : ClientLink) (b : Bool) → ArePlacedOn s.lanes → ArePlacedOn (put_with s i p c k b).1.lanes
placed_put_with s i p c k true placed = placed
placed_put_with s i p c k false placed = placed

placed_put : (s : Relay) (i : ℕ) (p : Pdu) (o : Option ℕ) → ArePlacedOn s.lanes → ArePlacedOn (put_to s i p o).1.lanes
unfolding put_to
placed_put s i p None placed = placed
placed_put s i p (Some c) placed = placed_put_with s i p c (client_at s c).link (is_full (client_at s c).link.mailbox) placed

placed_message_to : (s : Relay) (i : ℕ) (p : Pdu) (r : Result (List ℕ) BodyFault) → ArePlacedOn s.lanes → ArePlacedOn (message_to s i p r).1.lanes
placed_message_to s i p (Ok address) placed = placed_put s i p (client_for s.routes address) placed
placed_message_to s i p (Err e) placed = placed

placed_message : (s : Relay) (i : ℕ) (p : Pdu) → ArePlacedOn s.lanes → ArePlacedOn (message_turn i p s).1.lanes
unfolding message_turn
placed_message s i p placed = placed_message_to s i p (destination_at p.body) placed

placed_centre_act : (i : ℕ) (p : Pdu) (a : UpAct) (s : Relay) → ArePlacedOn s.lanes → ArePlacedOn (centre_act i p a s).1.lanes
unfolding centre_act
placed_centre_act i p up.Up s placed = placed
placed_centre_act i p (up.Failed status) s placed = lost s i placed
placed_centre_act i p up.ToLane s placed = goes_same s i (λ h. (back_on p h).1) (same_back p (history_of s i)) placed
placed_centre_act i p up.Mo s placed = placed_message s i p placed
placed_centre_act i p (up.Answer answer) s placed = placed
placed_centre_act i p (up.Leave answer) s placed = lost s i placed
placed_centre_act i p up.Closed s placed = lost s i placed
placed_centre_act i p up.Ignore s placed = placed

placed_centre_pdu : (i : ℕ) (p : Pdu) (s : Relay) → ArePlacedOn s.lanes → ArePlacedOn (centre_pdu i p s).1.lanes
unfolding centre_pdu
placed_centre_pdu i p s placed = at (has_left (lane_at s i).link)
  where
    at : (b : Bool) → ArePlacedOn (if b then ([], s) else link_pdu i p (lane_at s i).link s).1.lanes
    at true = placed
    at false =
        let k = (lane_at s i).link in
        let after : CentreLink = record k { session = session_after k.session p } in
        placed_centre_act i p (act_of k.session p) (with_centre s i after) (linked s i after placed)

placed_centre_end : (i : ℕ) (b : Bool) (s : Relay) → ArePlacedOn s.lanes → ArePlacedOn (centre_end i b s).1.lanes
unfolding centre_end
placed_centre_end i false s placed = placed
placed_centre_end i true s placed = at (has_left (lane_at s i).link)
  where
    at : (b : Bool) → ArePlacedOn (if b then ([], s) else lose_lane i (answer_centre i nack_of_undecoded) s).1.lanes
    at true = placed
    at false = lost s i placed

placed_given_up : (i : ℕ) (y : List ℕ × Relay) (x : Option (List ℕ × Relay)) → ArePlacedOn y.1.lanes → GivesUpLane i y x → LeavesPlaced x
placed_given_up i y x placed (qs, all, is) = by_equal x _ is (goes_same y.1 i (give_up_lane qs) (same_given_up qs (history_of y.1 i)) placed)

placed_up : (s : Relay) (i : ℕ) (octets : List ℕ) (k : CentreLink) (x : Option (List ℕ × Relay)) → ArePlacedOn s.lanes → OnUp s i octets k x → LeavesPlaced x
placed_up s i octets k x placed (ps, stream, receives, gives) =
    let after : CentreLink = record k { stream = stream } in
    placed_given_up i (followed_by (each_pdu (centre_pdu i) (with_centre s i after) ps) (centre_end i (has_failed stream))) x
    (placed_centre_end i (has_failed stream) _ (each_placed (centre_pdu i) (placed_centre_pdu i) ps (with_centre s i after) (linked s i after placed))) gives

placed_centre : (s : Relay) (i : ℕ) (octets : List ℕ) (b : Bool) (x : Option (List ℕ × Relay)) → ArePlacedOn s.lanes → OnCentre s i octets b x → LeavesPlaced x
placed_centre s i octets false x placed is = by_equal x _ is placed
placed_centre s i octets true x placed on = placed_up s i octets (lane_at s i).link x placed on

placed_index : (s : Relay) (i : ℕ) (octets : List ℕ) (b : Bool) (x : Option (List ℕ × Relay)) → ArePlacedOn s.lanes → OnIndex s i octets b x → LeavesPlaced x
placed_index s i octets false x placed is = by_equal x None is tt
placed_index s i octets true x placed on = placed_centre s i octets (is_up_at s i) x placed on

placed_back : (s : Relay) (i : ℕ) (octets : List ℕ) (x : Option (List ℕ × Relay)) → ArePlacedOn s.lanes → BackTurn s i octets x → LeavesPlaced x
unfolding BackTurn
placed_back s i octets x placed on = placed_index s i octets (has_lane s i) x placed on

placed_lost_link : (s : Relay) (i : ℕ) (b : Bool) (x : Option (List ℕ × Relay)) → ArePlacedOn s.lanes → LosesLink s i b x → LeavesPlaced x
placed_lost_link s i false x placed is = by_equal x _ is placed
placed_lost_link s i true x placed gives = placed_given_up i (down_line i, going_on s i lower_lane) x (lost s i placed) gives

placed_lost_where : (s : Relay) (i : ℕ) (b : Bool) (x : Option (List ℕ × Relay)) → ArePlacedOn s.lanes → LosesWhere s i b x → LeavesPlaced x
placed_lost_where s i false x placed is = by_equal x None is tt
placed_lost_where s i true x placed on = placed_lost_link s i (is_up_at s i) x placed on

placed_lose : (s : Relay) (i : ℕ) (x : Option (List ℕ × Relay)) → ArePlacedOn s.lanes → LoseTurn s i x → LeavesPlaced x
unfolding LoseTurn
placed_lose s i x placed on = placed_lost_where s i (has_lane s i) x placed on

placed_bind_by : (s : Relay) (i : ℕ) (o : Option UpRefusal) → ArePlacedOn s.lanes → ArePlacedOn (bind_by s i o).1.lanes
placed_bind_by s i None placed = linked (going_on s i raise_lane) i bound_centre (goes_same s i raise_lane (same_raised (history_of s i)) placed)
placed_bind_by s i (Some AlreadyUp) placed = placed
placed_bind_by s i (Some WindowNotEmpty) placed = placed
placed_bind_by s i (Some HistoryFull) placed = placed

placed_bind : (s : Relay) (i : ℕ) → ArePlacedOn s.lanes → LeavesPlaced (bind_turn s i)
unfolding bind_turn
placed_bind s i placed = at (has_lane s i)
  where
    at : (b : Bool) → LeavesPlaced (if b then Some (bind_by s i (up_refusal (content_after s.limits (history_of s i)))) else None)
    at true = placed_bind_by s i (up_refusal (content_after s.limits (history_of s i))) placed
    at false = tt

-- ---- lines

placed_moment : (s : Relay) (moment : ℕ) → ArePlacedOn s.lanes → LeavesPlaced (moment_turn s moment)
placed_moment s moment placed = at (nat_lt moment s.moment)
  where
    at : (b : Bool) → LeavesPlaced (if b then None else Some ([], record s { moment = moment }))
    at true = tt
    at false = placed

placed_acts : (s : Relay) (action : Action) (x : Option (List ℕ × Relay)) → ArePlacedOn s.lanes → Acts s action x → LeavesPlaced x
unfolding Acts
placed_acts s (Client kind) x placed is = by_equal x _ is (placed_client s kind placed)
placed_acts s (Prefix c prefix) x placed on = placed_route s c prefix x placed on
placed_acts s (In c octets) x placed on = placed_in s c octets x placed on
placed_acts s (Take i) x placed on = placed_take s i x placed on
placed_acts s (Back i octets) x placed on = placed_back s i octets x placed on
placed_acts s (Collect c) x placed is = by_equal x _ is (placed_collect s c (client_of s.clients c) placed)
placed_acts s (History i) x placed is = by_equal x _ is (known_same s i history_on (same_listed (history_of s i)) placed)
placed_acts s (Turn i) x placed is = by_equal x _ is (known_same s i (turn_on i) (same_turned i (history_of s i)) placed)
placed_acts s (Lose i) x placed on = placed_lose s i x placed on
placed_acts s (Bind i) x placed is = by_equal x _ is (placed_bind s i placed)
placed_acts s (Moment moment) x placed is = by_equal x _ is (placed_moment s moment placed)
placed_acts s (Expire i age) x placed on = placed_expire s i age x placed on

-- a setting leaves the lanes as they are
placed_kept : (t : Relay) (b : Bool) → ArePlacedOn t.lanes → LeavesPlaced (if b then None else Some ([], t))
placed_kept t true placed = tt
placed_kept t false placed = placed

placed_setting : (s : Relay) (setting : Setting) → ArePlacedOn s.lanes → LeavesPlaced (set_turn s setting)
placed_setting s (Sizes limits) placed = placed_kept (record s { limits = limits }) s.started placed
placed_setting s (Lanes count) placed = placed_kept (record s { count = count }) s.started placed
placed_setting s (Places places) placed = placed_kept (record s { places = places }) s.started placed
placed_setting s (Account login) placed = placed_kept (record s { accounts = s.accounts ++ login ∷ [] }) (s.started || nat_le 256 (length s.accounts)) placed

pub placed_begun : (s : Relay) → ArePlacedOn s.lanes → ArePlacedOn (begin_lanes s).lanes
placed_begun s placed = at s.started
  where
    at : (b : Bool) → ArePlacedOn (if b then s else record s { started = true; lanes = replicate s.count new_lane }).lanes
    at true = placed
    at false = placed_new s.count

placed_does : (s : Relay) (command : Command) (x : Option (List ℕ × Relay)) → ArePlacedOn s.lanes → Does s command x → LeavesPlaced x
unfolding Does
placed_does s Skip x placed is = by_equal x _ is placed
placed_does s (Set setting) x placed is = by_equal x _ is (placed_setting s setting placed)
placed_does s (Run action) x placed on = placed_acts (begin_lanes s) action x (placed_begun s placed) on

placed_command : (s : Relay) (o : Option Command) (x : Option (List ℕ × Relay)) → ArePlacedOn s.lanes → OnCommand s o x → LeavesPlaced x
placed_command s None x placed is = by_equal x None is tt
placed_command s (Some command) x placed on = placed_does s command x placed on

pub placed_line : (s : Relay) (line : List ℕ) (x : Option (List ℕ × Relay)) → ArePlacedOn s.lanes → Lines s line x → LeavesPlaced x
unfolding Lines
placed_line s line x placed on = placed_command s (command_of line) x placed on
