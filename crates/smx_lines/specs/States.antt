-- What a state stands for, and what a turn prints and leaves.
use Rattle.std.specs.Prelude.{◌≡◌, [], ℕ, List, false, Option, Some, None, slice_get}
use Rattle.std.specs.Global.{Vec}
use Rattle.std.specs.List.{All, AllZip}
use Rattle.smx_history.specs.declared.limits.Limits.{Limits}
use Rattle.smx_session.specs.Login.{Login}
use Rattle.smx_routes.specs.Routing.{Route}
use Rattle.smx_lines.specs.declared.state.State.{State}
use Rattle.smx_lines.specs.declared.state.LinkedLane.{LinkedLane}
use Rattle.smx_lines.specs.declared.state.LinkedClient.{LinkedClient}
use Rattle.smx_lines.specs.Relay.{Relay, RelayLane}
use Rattle.smx_lines.specs.Lanes.{IsLane, lasts}

-- there is a client with this number
abbrev pub IsKnown : List (Option LinkedClient) → ℕ → Type 0
IsKnown clients c = (k : LinkedClient) × (slice_get clients c ≡ Some (Some k))

-- the accounts, the places of a mailbox and the routes are these, and each route is a client's
pub record HasRoutes (state : State) (clients : List (Option LinkedClient)) (accounts : List Login) (places : ℕ) (routes : List Route) : Type 0 where
  pub accounts_are : state.accounts.items ≡ accounts
  pub places_are : state.places ≡ places
  pub routes_are : state.routes ≡ routes
  pub known : All (λ r. IsKnown clients r.client) routes

-- the lanes agree with these
abbrev pub AreOn : Limits → List (Option ℕ) → List RelayLane → List LinkedLane → Type 0
AreOn limits clients ls lanes = AllZip (IsLane limits clients) ls lanes

pub record StandsFor (state : State) (s : Relay) : Type 0 where
  pub limits : state.limits ≡ s.limits
  pub count : state.count ≡ s.count
  pub started : state.started ≡ s.started
  pub moment : state.moment ≡ s.moment
  pub clients : state.clients.list.items ≡ s.clients
  pub lanes : AreOn s.limits (lasts s.clients) s.lanes state.lanes.items
  pub none_yet : s.started ≡ false → s.lanes ≡ []
  pub routes : HasRoutes state s.clients s.accounts s.places s.routes

-- the state stands for some histories
abbrev pub IsReached : State → Type 0
IsReached state = (s : Relay) × StandsFor state s

-- a turn printed the text and left the state
pub record TurnLeaves (x : List ℕ × Relay) (state : State) (written : List ℕ) : Type 0 where
  pub text : written ≡ x.0
  pub left : StandsFor state x.1

-- a turn printed and left this, or was a bad line
abbrev pub Prints : Option (List ℕ × Relay) → State → Option (Vec ℕ) → Type 0
Prints None state None = Unit {0}
Prints (Some x) state (Some text) = TurnLeaves x state text.items
Prints None state (Some text) = ⊥
Prints (Some x) state None = ⊥

-- a turn that may print this and leave that did so, or was a bad line
abbrev pub MayPrint : (Option (List ℕ × Relay) → Type 0) → State → Option (Vec ℕ) → Type 0
MayPrint May state text = (x : Option (List ℕ × Relay)) × May x × Prints x state text
