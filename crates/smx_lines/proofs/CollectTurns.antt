-- What a client collects: its responses, and then its messages.
use Rattle.std.proofs.Common.{◌≡◌, ◌≢◌, ◌++◌, ◌∷◌, ℕ, List, [], map, refl, sym, ◌∙◌, ap, codes, Some, None}
use Rattle.std.specs.Global.{Vec}
use Rattle.std.specs.List.{flat_map}
use Rattle.std.specs.Fmt.{decimal}
use Rattle.smx_lines.specs.declared.state.LinkedClient.{LinkedClient}
use Rattle.smx_lines.specs.declared.state.State.{State}
use Rattle.smx_lines.specs.Texts.{text_line}
use Rattle.smx_lines.specs.Relay.{Relay, RelayLane, collect_lanes, collect_text, collect_lane, lane_after, client_of}
use Rattle.smx_lines.specs.ClientTurn.{followed_by}
use Rattle.smx_lines.specs.Messages.{send_turn}
use Rattle.smx_lines.specs.Turns.{collect_turn, or_none}
use Rattle.smx_lines.specs.Lanes.{lasts}
use Rattle.smx_lines.specs.States.{StandsFor, AreOn, Prints, TurnLeaves}
use Rattle.smx_lines.proofs.Keeping.{KeepsSettings, kept_routes}
use Rattle.smx_lines.proofs.ClientTurns.{client_same}

collect_left : (old new : State) (s : Relay) (c : ℕ) → StandsFor old s → AreOn s.limits (lasts s.clients) (map (lane_after (collect_lane c)) s.lanes) new.lanes.items → KeepsSettings old new → new.clients.list.items ≡ old.clients.list.items → StandsFor new (record s { lanes = map (lane_after (collect_lane c)) s.lanes })
collect_left old new s c a on keeps clients = record {
  limits = keeps.limits ∙ a.limits;
  count = keeps.count ∙ a.count;
  started = keeps.started ∙ a.started;
  moment = keeps.moment ∙ a.moment;
  clients = clients ∙ a.clients;
  lanes = on;
  none_yet = λ off. ap (map (lane_after (collect_lane c))) (a.none_yet off);
  routes = kept_routes old new s.clients s.accounts s.places s.routes keeps a.routes;
}

-- the client collected its responses
pub lanes_collected : (old new : State) (s : Relay) (c : ℕ) (text : List ℕ) → StandsFor old s → text ≡ flat_map (λ (l : RelayLane). collect_text c l.history) s.lanes → AreOn s.limits (lasts s.clients) (map (lane_after (collect_lane c)) s.lanes) new.lanes.items → KeepsSettings old new → new.clients.list.items ≡ old.clients.list.items
    → TurnLeaves (collect_lanes c s) new text
lanes_collected old new s c text a e on keeps clients = record { text = e; left = collect_left old new s c a on keeps clients }

or_none-some : (c : ℕ) (text : List ℕ) → text ≢ [] → or_none c text ≡ text
or_none-some c [] some = absurd (some refl)
or_none-some c (x ∷ xs) some = refl

pub collected_some : (s : Relay) (c : ℕ) (k : LinkedClient) (new : State) (text : Vec ℕ) → client_of s.clients c ≡ Some k → TurnLeaves (followed_by (collect_lanes c s) (send_turn c)) new text.items → text.items ≢ [] → Prints (collect_turn s c (client_of s.clients c)) new (Some text)
collected_some s c k new text known turned some = rw known (record { text = sym (or_none-some c text.items some) ∙ ap (or_none c) turned.text; left = turned.left })

pub collected_none : (s : Relay) (c : ℕ) (k : LinkedClient) (new : State) (none : List ℕ) (text : Vec ℕ) → client_of s.clients c ≡ Some k → TurnLeaves (followed_by (collect_lanes c s) (send_turn c)) new none → none ≡ [] → text.items ≡ text_line (codes "none " ++ decimal c)
    → Prints (collect_turn s c (client_of s.clients c)) new (Some text)
collected_none s c k new none text known turned empty e = rw known (record { text = e ∙ ap (or_none c) (sym empty ∙ turned.text); left = turned.left })

pub collect_unknown : (old new : State) (s : Relay) (c : ℕ) → StandsFor old s → client_of old.clients.list.items c ≡ None → Prints (collect_turn s c (client_of s.clients c)) new None
collect_unknown old new s c a none = rw (client_same old s c None a none) tt
