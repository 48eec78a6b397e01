-- What a turn leaves as it is.
use Rattle.std.proofs.Common.{◌≡◌, ℕ, List, Option, ◌∙◌}
use Rattle.smx_session.specs.Login.{Login}
use Rattle.smx_routes.specs.Routing.{Route}
use Rattle.smx_lines.specs.declared.state.LinkedClient.{LinkedClient}
use Rattle.smx_lines.specs.declared.state.State.{State}
use Rattle.smx_lines.specs.States.{HasRoutes}

-- the settings stay
pub record KeepsSettings (old new : State) : Type 0 where
  pub limits : new.limits ≡ old.limits
  pub count : new.count ≡ old.count
  pub started : new.started ≡ old.started
  pub moment : new.moment ≡ old.moment
  pub accounts : new.accounts.items ≡ old.accounts.items
  pub places : new.places ≡ old.places
  pub routes : new.routes ≡ old.routes

-- the routes are still those of the clients
pub kept_routes : (old new : State) (clients : List (Option LinkedClient)) (accounts : List Login) (places : ℕ) (routes : List Route) → KeepsSettings old new → HasRoutes old clients accounts places routes → HasRoutes new clients accounts places routes
kept_routes old new clients accounts places routes keeps has = record {
  accounts_are = keeps.accounts ∙ has.accounts_are;
  places_are = keeps.places ∙ has.places_are;
  routes_are = keeps.routes ∙ has.routes_are;
  known = has.known;
}
